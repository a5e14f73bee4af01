-- The state's own test, case by case, and what it gives. Assumes nothing.
use Prim.Native.Nat.{ℕ, ◌-◌, ◌≤◌, ◌<◌}
use mathlib.Core.Path.{◌≡◌, refl, subst}
use mathlib.Core.List.{List}
use mathlib.Core.Bool.{Bool, true, false, cond, ◌&&◌, ◌||◌}
use native.Mathlib.Omega.{arith}
use lib.ListN.{length, take, drop}
use lib.Dec.{eqb, leb, ltb}
use borrow.Author.Tests.{eq-eqb, ne_eqb, eqb-true, le-leb, lt-leb, leb-true, lt-ltb, ltb-true}
use Rattle.wire.proofs.Both.{and_first, and_second}
use Rattle.intake.specs.declared.Kind.{Kind}
use Rattle.intake.specs.declared.Kind.TheVariants.{Lov, Fid, Lma, Other}
use Rattle.intake.specs.Says.{good_size, kind_of}
use Rattle.intake_bytes.specs.declared.Marks.{Marks}
use Rattle.intake_bytes.specs.declared.Half.{Half}
use Rattle.intake_bytes.specs.declared.Half.TheVariants.{Even, Odd, Broken}
use Rattle.intake_bytes.specs.declared.Unfinished.{Unfinished}
use Rattle.intake_bytes.specs.Lent.{mark_of, base_of, want_of, HalfFits, Held}
use Rattle.intake_line.specs.Entry.{good_mark, GoodMarks, MarksHeld}
use Rattle.intake_bytes.proofs.HoldLaws.{base_past, want_fits}
use Rattle.intake_state.specs.declared.Kept.{Kept}
use Rattle.intake_state.specs.State.{state_size, KeptHeld, line_in, marks_in, reader_in, kept_of, max_read, good_stop, bare_marks, good_open, good_half, is_even, good_line, good_kept, good_state}

-- a test that fails, and one that is passed
pub fails : (a b : Bool) → a ≡ false → false ≡ (a && b)
fails a b e = rw e

pub passes : (a b : Bool) → a ≡ true → b ≡ (a && b)
passes a b e = rw e

module _ (n : ℕ) where
  pub stop_none : n ≡ 0 → true ≡ good_stop n
  unfolding good_stop
  stop_none e = rw e

  pub stop_low : (n ≡ 0 → ⊥) → n < 33 → false ≡ good_stop n
  unfolding good_stop
  stop_low e h = rw (ne_eqb n 0 e, lt-leb 33 n h)

  pub stop_high : (n ≡ 0 → ⊥) → 33 ≤ n → leb n 37 ≡ good_stop n
  unfolding good_stop
  stop_high e h = rw (ne_eqb n 0 e, le-leb 33 n h)

module _ (k : Kind) (n : ℕ) where
  pub mark_none : n ≡ 0 → true ≡ good_mark k n
  unfolding good_mark
  mark_none e = rw e

  pub mark_some : (n ≡ 0 → ⊥) → good_size k (n - 1) ≡ good_mark k n
  unfolding good_mark
  mark_some e = rw (ne_eqb n 0 e)

module _ (m : Marks) where
  pub bare_lov : (m.lov ≡ 0 → ⊥) → false ≡ bare_marks m
  unfolding bare_marks
  bare_lov e = rw (ne_eqb m.lov 0 e)

  pub bare_fid : m.lov ≡ 0 → (m.fid ≡ 0 → ⊥) → false ≡ bare_marks m
  unfolding bare_marks
  bare_fid e f = rw (eq-eqb m.lov 0 e, ne_eqb m.fid 0 f)

  pub bare_lma : m.lov ≡ 0 → m.fid ≡ 0 → eqb m.lma 0 ≡ bare_marks m
  unfolding bare_marks
  bare_lma e f = rw (eq-eqb m.lov 0 e, eq-eqb m.fid 0 f)

  module _ (from : ℕ) where
    pub open_fid : good_mark Fid m.fid ≡ false → false ≡ good_open from m
    unfolding good_open
    open_fid e = rw e

    module _ (f : good_mark Fid m.fid ≡ true) where
      pub open_lma : good_mark Lma m.lma ≡ false → false ≡ good_open from m
      unfolding good_open
      open_lma e = rw (f, e)

      pub open_some : good_mark Lma m.lma ≡ true → (from ≡ 0 → ⊥) → true ≡ good_open from m
      unfolding good_open
      open_some e z = rw (f, e, ne_eqb from 0 z)

      pub open_none : good_mark Lma m.lma ≡ true → from ≡ 0 → bare_marks m ≡ good_open from m
      unfolding good_open
      open_none e z = rw (f, e, eq-eqb from 0 z)

module _ (x : Unfinished) where
  pub line_seen : 14 < x.seen → false ≡ good_line x
  unfolding good_line
  line_seen h = rw (lt-leb x.seen 14 h)

  module _ (a : x.seen ≤ 14) where
    pub line_half : good_half x.half ≡ false → false ≡ good_line x
    unfolding good_line
    line_half h = rw (le-leb x.seen 14 a, h)

    module _ (b : good_half x.half ≡ true) where
      pub line_size : max_read < x.size → false ≡ good_line x
      unfolding good_line
      line_size h = rw (le-leb x.seen 14 a, b, lt-leb x.size max_read h)

      module _ (c : x.size ≤ max_read) where
        pub line_head : 14 ≡ x.seen → true ≡ good_line x
        unfolding good_line
        line_head h = rw (le-leb x.seen 14 a, b, le-leb x.size max_read c, eq-eqb 14 x.seen h)

        module _ (h : 14 ≡ x.seen → ⊥) where
          pub line_digit : is_even x.half ≡ false → false ≡ good_line x
          unfolding good_line
          line_digit e = rw (le-leb x.seen 14 a, b, le-leb x.size max_read c, ne_eqb 14 x.seen h, e)

          pub line_none : is_even x.half ≡ true → eqb x.size 0 ≡ good_line x
          unfolding good_line
          line_none e = rw (le-leb x.seen 14 a, b, le-leb x.size max_read c, ne_eqb 14 x.seen h, e)

-- a half byte of which no digit is known
pub half_other : (h : Half) → ((d : ℕ) → h ≡ Odd d → ⊥) → true ≡ good_half h
unfolding good_half
half_other Even f = refl
half_other (Odd d) f = absurd (f d refl)
half_other Broken f = refl

pub not_even : (h : Half) → (h ≡ Even → ⊥) → false ≡ is_even h
unfolding is_even
not_even Even f = absurd (f refl)
not_even (Odd d) f = refl
not_even Broken f = refl

-- a half byte that passes
pub half_true : (h : Half) → good_half h ≡ true → HalfFits h
unfolding good_half HalfFits
half_true Even e = tt
half_true (Odd h) e = ltb-true h 16 e
half_true Broken e = tt

pub half_good : (h : Half) → HalfFits h → good_half h ≡ true
unfolding good_half HalfFits
half_good Even f = refl
half_good (Odd h) f = lt-ltb h 16 f
half_good Broken f = refl

pub even_true : (h : Half) → is_even h ≡ true → h ≡ Even
unfolding is_even
even_true Even e = refl
even_true (Odd h) e = let z : ◌≡◌ {A = ℕ} 0 1 = cc in absurd (omega arith)
even_true Broken e = let z : ◌≡◌ {A = ℕ} 0 1 = cc in absurd (omega arith)

module _ (k : Kept) where
  pub kept_stop : good_stop k.answer ≡ false → false ≡ good_kept k
  unfolding good_kept
  kept_stop e = rw e

  module _ (a : good_stop k.answer ≡ true) where
    pub kept_open : good_open k.reader.from k.reader.marks ≡ false → false ≡ good_kept k
    unfolding good_kept
    kept_open e = rw (a, e)

    module _ (b : good_open k.reader.from k.reader.marks ≡ true) where
      pub kept_line : good_line k.reader.line ≡ false → false ≡ good_kept k
      unfolding good_kept
      kept_line e = rw (a, b, e)

      pub kept_count : good_line k.reader.line ≡ true → leb k.reader.count max_read ≡ good_kept k
      unfolding good_kept
      kept_count e = rw (a, b, e)

pub state_size_lem : (s : List ℕ) → (length s ≡ state_size → ⊥) → false ≡ good_state s
unfolding good_state
state_size_lem s e = rw (ne_eqb (length s) state_size e)

pub state_kept : (s : List ℕ) (k : Kept) (r : Bool) → length s ≡ state_size → k ≡ kept_of s → r ≡ good_kept k → r ≡ good_state s
unfolding good_state
state_kept s k r e p q = rw (eq-eqb (length s) state_size e, ← p) q

-- ## What a state that passes holds

module _ (k : Kept) (g : good_kept k ≡ true) where
  first_passed : good_stop k.answer ≡ true
  unfolding good_kept
  first_passed = and_first (good_stop k.answer) (good_open k.reader.from k.reader.marks && (good_line k.reader.line && leb k.reader.count max_read)) g

  others_passed : (good_open k.reader.from k.reader.marks && (good_line k.reader.line && leb k.reader.count max_read)) ≡ true
  unfolding good_kept
  others_passed = and_second (good_stop k.answer) (good_open k.reader.from k.reader.marks && (good_line k.reader.line && leb k.reader.count max_read)) g

  open_passed : good_open k.reader.from k.reader.marks ≡ true
  open_passed = and_first (good_open k.reader.from k.reader.marks) (good_line k.reader.line && leb k.reader.count max_read) others_passed

  rest_passed : (good_line k.reader.line && leb k.reader.count max_read) ≡ true
  rest_passed = and_second (good_open k.reader.from k.reader.marks) (good_line k.reader.line && leb k.reader.count max_read) others_passed

  line_passed : good_line k.reader.line ≡ true
  line_passed = and_first (good_line k.reader.line) (leb k.reader.count max_read) rest_passed

  pub count_passed : k.reader.count ≤ max_read
  count_passed = leb-true k.reader.count max_read (and_second (good_line k.reader.line) (leb k.reader.count max_read) rest_passed)

  stop_cases : (t : Bool) → eqb k.answer 0 ≡ t → cond t true (leb 33 k.answer && leb k.answer 37) ≡ true → (k.answer ≤ 37) × ((k.answer ≡ 0 → ⊥) → 33 ≤ k.answer)
  stop_cases true e h = (omega (arith, eqb-true k.answer 0 e), λ z. absurd (z (eqb-true k.answer 0 e)))
  stop_cases false e h =
      (leb-true k.answer 37 (and_second (leb 33 k.answer) (leb k.answer 37) h), λ z. leb-true 33 k.answer (and_first (leb 33 k.answer) (leb k.answer 37) h))

  pub stop_passed : (k.answer ≤ 37) × ((k.answer ≡ 0 → ⊥) → 33 ≤ k.answer)
  unfolding good_stop
  stop_passed = stop_cases (eqb k.answer 0) refl first_passed

pub record LinePassed (x : Unfinished) : Type 0 where
  pub seen : x.seen ≤ 14
  pub half : HalfFits x.half
  pub size : x.size ≤ max_read
  pub short : x.seen < 14 → (x.half ≡ Even) × (x.size ≡ 0)

pub line_holds : (x : Unfinished) → good_line x ≡ true → LinePassed x
unfolding good_line
line_holds x g =
    let B : Bool = cond (eqb 14 x.seen) true (is_even x.half && eqb x.size 0) in
    let r1 : (good_half x.half && (leb x.size max_read && B)) ≡ true = and_second (leb x.seen 14) (good_half x.half && (leb x.size max_read && B)) g in
    let r2 : (leb x.size max_read && B) ≡ true = and_second (good_half x.half) (leb x.size max_read && B) r1 in
    let r3 : B ≡ true = and_second (leb x.size max_read) B r2 in
    record {
      seen = leb-true x.seen 14 (and_first (leb x.seen 14) (good_half x.half && (leb x.size max_read && B)) g);
      half = half_true x.half (and_first (good_half x.half) (leb x.size max_read && B) r1);
      size = leb-true x.size max_read (and_first (leb x.size max_read) B r2);
      short = λ h.
          let n : eqb 14 x.seen ≡ false = ne_eqb 14 x.seen (λ z. omega arith) in
          let r4 : (is_even x.half && eqb x.size 0) ≡ true = subst (λ (t : Bool). cond t true (is_even x.half && eqb x.size 0) ≡ true) n r3 in
          (even_true x.half (and_first (is_even x.half) (eqb x.size 0) r4), eqb-true x.size 0 (and_second (is_even x.half) (eqb x.size 0) r4));
    }

or_true : (t : Bool) → (t || true) ≡ true
or_true true = refl
or_true false = refl

any_lov : (n : ℕ) → good_mark Lov n ≡ true
unfolding good_mark good_size
any_lov n = or_true (eqb n 0)

module _ (from : ℕ) (m : Marks) where
  bare_all : bare_marks m ≡ true → (k : Kind) → mark_of m k ≡ 0
  unfolding bare_marks mark_of
  bare_all g Lov = eqb-true m.lov 0 (and_first (eqb m.lov 0) (eqb m.fid 0 && eqb m.lma 0) g)
  bare_all g Fid = eqb-true m.fid 0 (and_first (eqb m.fid 0) (eqb m.lma 0) (and_second (eqb m.lov 0) (eqb m.fid 0 && eqb m.lma 0) g))
  bare_all g Lma = eqb-true m.lma 0 (and_second (eqb m.fid 0) (eqb m.lma 0) (and_second (eqb m.lov 0) (eqb m.fid 0 && eqb m.lma 0) g))
  bare_all g Other = refl

  pub marks_hold : good_open from m ≡ true → MarksHeld from m
  unfolding good_open good_mark mark_of
  marks_hold g =
      let B : Bool = cond (eqb from 0) (bare_marks m) true in
      let r1 : (good_mark Lma m.lma && B) ≡ true = and_second (good_mark Fid m.fid) (good_mark Lma m.lma && B) g in
      let r2 : B ≡ true = and_second (good_mark Lma m.lma) B r1 in
      record {
        bare = λ e. bare_all (subst (λ (t : Bool). cond t (bare_marks m) true ≡ true) (eq-eqb from 0 e) r2);
        good = each (and_first (good_mark Fid m.fid) (good_mark Lma m.lma && B) g) (and_first (good_mark Lma m.lma) B r1);
      }
    where
      each : good_mark Fid m.fid ≡ true → good_mark Lma m.lma ≡ true → GoodMarks m
      each f l Lov = any_lov m.lov
      each f l Fid = f
      each f l Lma = l
      each f l Other = refl

-- the line of a state that passes is held
pub line_held : (s : List ℕ) (m : Marks) (seen : ℕ) (half : Half) (size : ℕ) → 208 ≤ length s → LinePassed (line_in s m seen half size) → Held (want_of m (length s)) s (line_in s m seen half size)
unfolding line_in
line_held s m seen half size n = go (ltb seen 14) refl where
  K : Kind
  K = kind_of (take 14 (drop 128 s))

  go : (t : Bool) → ltb seen 14 ≡ t
      → LinePassed (cond t (record { seen = seen; base = 144; most = 0; half = half; size = size }) (record { seen = seen; base = base_of K; most = want_of m (length s) K; half = half; size = size }))
      → Held (want_of m (length s)) s (cond t (record { seen = seen; base = 144; most = 0; half = half; size = size }) (record { seen = seen; base = base_of K; most = want_of m (length s) K; half = half; size = size }))
  go true e g = record {
    heads = g.seen;
    short = g.short;
    at = λ q. absurd (omega (arith, ltb-true seen 14 e, q));
    keeps = λ q. absurd (omega (arith, ltb-true seen 14 e, q));
    past = omega arith;
    fits = omega arith;
    halves = g.half;
  }
  go false e g = record {
    heads = g.seen;
    short = g.short;
    at = λ q. refl;
    keeps = λ q. refl;
    past = base_past K;
    fits = want_fits m (length s) K (base_of K) (want_of m (length s) K) n refl refl;
    halves = g.half;
  }

-- "a content that fails the state's own test": what a state that passes is
pub state_holds : (s file : List ℕ) → good_state s ≡ true → (kept_of s).taken ≤ length file → KeptHeld s file (kept_of s)
unfolding good_state kept_of reader_in
state_holds s file g t =
    let e : length s ≡ state_size = eqb-true (length s) state_size (and_first (eqb (length s) state_size) (good_kept (kept_of s)) g) in
    let h : good_kept (kept_of s) ≡ true = and_second (eqb (length s) state_size) (good_kept (kept_of s)) g in
    let l : LinePassed (kept_of s).reader.line = line_holds (kept_of s).reader.line (line_passed (kept_of s) h) in
    record {
      size = e;
      held = record {
        long = omega arith;
        held = line_held s (marks_in s) _ _ _ (omega arith) l;
        marked = marks_hold (kept_of s).reader.from (kept_of s).reader.marks (open_passed (kept_of s) h);
        lines = omega (arith, count_passed (kept_of s) h);
        sizes = omega (arith, l.size);
      };
      taken = t;
      answer = (stop_passed (kept_of s) h).0;
      number = (stop_passed (kept_of s) h).1;
    }

pub state_long : (s : List ℕ) → good_state s ≡ true → length s ≡ state_size
unfolding good_state
state_long s g = eqb-true (length s) state_size (and_first (eqb (length s) state_size) (good_kept (kept_of s)) g)

pub state_bounds : (s : List ℕ) → good_state s ≡ true → ((kept_of s).reader.count ≤ max_read) × ((kept_of s).reader.line.size ≤ max_read)
unfolding good_state
state_bounds s g =
    let h : good_kept (kept_of s) ≡ true = and_second (eqb (length s) state_size) (good_kept (kept_of s)) g in
    (count_passed (kept_of s) h, (line_holds (kept_of s).reader.line (line_passed (kept_of s) h)).size)

pub state_end : (s : List ℕ) → good_state s ≡ true → ((kept_of s).answer ≤ 37) × ((kept_of s).reader.count ≤ max_read) × ((kept_of s).reader.line.seen ≤ 14)
unfolding good_state
state_end s g =
    let h : good_kept (kept_of s) ≡ true = and_second (eqb (length s) state_size) (good_kept (kept_of s)) g in
    ((stop_passed (kept_of s) h).0, count_passed (kept_of s) h, (line_holds (kept_of s).reader.line (line_passed (kept_of s) h)).seen)

pub state_stop : (s : List ℕ) → good_state s ≡ true → ((kept_of s).answer ≡ 0 → ⊥) → 33 ≤ (kept_of s).answer
unfolding good_state
state_stop s g = (stop_passed (kept_of s) (and_second (eqb (length s) state_size) (good_kept (kept_of s)) g)).1
