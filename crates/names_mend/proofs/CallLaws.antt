-- The mending and the pass as lent, their refusals in their order. Assumes nothing.
use mathlib.Core.Path.{◌≡◌, refl, sym, ap, ◌∙◌}
use Rattle.std.specs.Prelude.{Result, Ok, Err, ⊤}
use Rattle.refusals.specs.Numbers.{number, answer}
use Rattle.refusals.specs.declared.Refusal.{Refusal}
use Rattle.refusals.specs.declared.Refusal.TheVariants.{LongClimb}
use mathlib.Core.Bool.{Bool, true, false, cond, not, ◌&&◌, and-false}
use mathlib.Core.List.{List, [], ◌∷◌}
use Prim.Native.Nat.{ℕ, ◌+◌, ◌*◌, ◌/◌, ◌≤◌, ◌<◌}
use native.Mathlib.Omega.{arith}
use borrow.Author.Tests.{leb-true, lt-leb, le-leb, ne_eqb}
use lib.Dec.{leb}
use lib.ListN.{length, take, length-map}
use lib.Seq.{sets, take_at}
use Rattle.wire.specs.Numbers.{Bytes}
use Rattle.wire.proofs.Both.{and_first, and_second}
use Rattle.wire.proofs.Splice.{sets_front}
use Rattle.tables.specs.Check.{Test, test, first_failing}
use Rattle.index.specs.Entries.{place_size}
use Rattle.fid.specs.declared.MdtFid.{MdtFid}
use Rattle.names.specs.Rows.{entry_size, child_size, child_rows, parse_entries, parse_children, render_entries, render_children}
use Rattle.names.specs.Check.{names_whole, children_there, names_good, names_tests, names_number, SoundNames}
use Rattle.names.specs.Visible.{max_levels, too_long, mark_of, judged, seen_by, good_marks}
use Rattle.names.specs.Mend.{Mended, mended}
use Rattle.names.specs.Calls.{roomy, report_size, report_numbers, left, mended_bytes, mend_tests, mend_call, pass_tests, pass_call}
use Rattle.names.proofs.SoundLaws.{children_many, parsed_children}
use Rattle.names_check.proofs.CallLaws.{names_refused, names_accepted, refused_not}
use Rattle.names_judge.proofs.CallLaws.{room_is}
use Rattle.names_store.proofs.RenderBack.{entries_back, children_back}
use Rattle.names_mend.specs.declared.Mending.{Mending}
use Rattle.names_mend.specs.Mending.{answer_of, report_by, mended_by}
use Rattle.names_mend.specs.Refusals.{places_tests}

and_true : (b : Bool) → (b && true) ≡ b
and_true true = refl
and_true false = refl

-- ## Four tests in turn

-- none of them fails
none_fails : (a b d g : Bool) → first_failing (test 11 a ∷ test 16 b ∷ test 31 d ∷ test 17 g ∷ []) ≡ 0 → (a ≡ true) × (b ≡ true) × (d ≡ true) × (g ≡ true)
unfolding first_failing
none_fails true true true true h = (refl, refl, refl, refl)
none_fails true true true false h = absurd (omega arith)
none_fails true true false g h = absurd (omega arith)
none_fails true false d g h = absurd (omega arith)
none_fails false b d g h = absurd (omega arith)

-- the tables pass
tables_pass : (e c : List ℕ) → names_whole e c ≡ true → children_there e c ≡ true → names_good e c ≡ true → SoundNames e c
unfolding SoundNames names_number names_tests first_failing
tables_pass e c a b d = rw (a, b, d)

-- a fifth is asked after them
five : (a b d g : Bool) (rest : List Test) → first_failing (test 11 a ∷ test 16 b ∷ test 31 d ∷ test 17 g ∷ []) ≡ 0 →
    first_failing (test 11 a ∷ test 16 b ∷ test 31 d ∷ test 17 g ∷ rest) ≡ first_failing rest
unfolding first_failing
five a b d g rest h = let t = none_fails a b d g h in rw (t.0, t.1, t.2, t.3)

before_five : (a b d g : Bool) (rest : List Test) (n : ℕ) → n ≡ first_failing (test 11 a ∷ test 16 b ∷ test 31 d ∷ test 17 g ∷ []) → (n ≡ 0 → ⊥) →
    n ≡ first_failing (test 11 a ∷ test 16 b ∷ test 31 d ∷ test 17 g ∷ rest)
unfolding first_failing
before_five true true true true rest n e h = absurd (h e)
before_five true true true false rest n e h = e
before_five true true false g rest n e h = e
before_five true false d g rest n e h = e
before_five false b d g rest n e h = e

-- ## Places

abbrev rooms : List ℕ → List ℕ → List ℕ → List ℕ → Bool
rooms e c index room = roomy e c index && roomy e c room

long : (e c x : List ℕ) → roomy e c x ≡ true → place_size * (length e / entry_size + length c / child_size) ≤ length x
long e c x t = leb-true (place_size * (length e / entry_size + length c / child_size)) (length x) (room_is e c x ∙ t)

-- ## The mending

module _ (e c index room marks report : List ℕ) where
  pub mend_marks : good_marks marks (parse_children c) ≡ false → 11 ≡ first_failing (mend_tests e c index room marks report)
  unfolding mend_tests first_failing
  mend_marks h = rw (h, and-false (names_whole e c))

  module _ (h : good_marks marks (parse_children c) ≡ true) where
    then : first_failing (mend_tests e c index room marks report)
        ≡ first_failing (test 11 (names_whole e c) ∷ test 16 (children_there e c) ∷ test 31 (names_good e c)
        ∷ test 17 (rooms e c index room && leb report_size (length report)) ∷ [])
    unfolding mend_tests
    then = ap (λ (b : Bool). first_failing (test 11 b ∷ test 16 (children_there e c) ∷ test 31 (names_good e c) ∷ test 17 (rooms e c index room && leb report_size (length report)) ∷ [])) (rw h (and_true (names_whole e c)))

    pub mend_tables : (x : Refusal) → number x ≡ names_number e c → number x ≡ first_failing (mend_tests e c index room marks report)
    mend_tables x p = names_refused e c (test 17 (rooms e c index room && leb report_size (length report)) ∷ []) x p ∙ sym then

    module _ (z : 0 ≡ names_number e c) where
      places : first_failing (mend_tests e c index room marks report) ≡ cond (rooms e c index room && leb report_size (length report)) 0 17
      unfolding first_failing
      places = then ∙ names_accepted e c (test 17 (rooms e c index room && leb report_size (length report)) ∷ []) z

      pub mend_rooms : rooms e c index room ≡ false → 17 ≡ first_failing (mend_tests e c index room marks report)
      mend_rooms k = sym (places ∙ rw k)

      pub mend_short : rooms e c index room ≡ true → length report < report_size → 17 ≡ first_failing (mend_tests e c index room marks report)
      mend_short k l = sym (places ∙ rw (k, lt-leb report_size (length report) l))

      pub mend_free : rooms e c index room ≡ true → report_size ≤ length report → 0 ≡ first_failing (mend_tests e c index room marks report)
      mend_free k l = sym (places ∙ rw (k, le-leb report_size (length report) l))

  pub record MendFacts : Type 0 where
    pub sound : SoundNames e c
    pub marked : good_marks marks (parse_children c) ≡ true
    pub index_long : place_size * (length e / entry_size + length c / child_size) ≤ length index
    pub room_long : place_size * (length e / entry_size + length c / child_size) ≤ length room
    pub report_long : report_size ≤ length report

  pub mend_facts : first_failing (mend_tests e c index room marks report) ≡ 0 → MendFacts
  unfolding mend_tests
  mend_facts h =
      let g : Bool = good_marks marks (parse_children c) in
      let i : Bool = roomy e c index in
      let r : Bool = roomy e c room in
      let l : Bool = leb report_size (length report) in
      let t = none_fails (names_whole e c && g) (children_there e c) (names_good e c) (i && r && l) h in
      record {
        sound = tables_pass e c (and_first (names_whole e c) g t.0) t.1 t.2;
        marked = and_second (names_whole e c) g t.0;
        index_long = long e c index (and_first i r (and_first (i && r) l t.3));
        room_long = long e c room (and_second i r (and_first (i && r) l t.3));
        report_long = leb-true report_size (length report) (and_second (i && r) l t.3);
      }

  pub mend_refused : (n : ℕ) → n ≡ first_failing (mend_tests e c index room marks report) → (n ≡ 0 → ⊥) → left n e c marks report ≡ mend_call e c index room marks report
  unfolding mend_call
  mend_refused n p h = rw (← p, ne_eqb n 0 h)

  pub mend_done : (n : ℕ) → n ≡ first_failing (mend_tests e c index room marks report) → n ≡ 0 →
      mended_bytes (seen_by marks (parse_children c)) e c marks report ≡ mend_call e c index room marks report
  unfolding mend_call
  mend_done n p h = let z : first_failing (mend_tests e c index room marks report) ≡ 0 = sym p ∙ h in rw z

-- ## The pass

judged_many : (levels : ℕ) (c : List ℕ) → length (judged levels (parse_children c)) ≡ length c / child_size
unfolding judged
judged_many levels c = length-map (parse_children c) (mark_of levels (parse_children c)) ∙ parsed_children c

module _ (e c index room marks report : List ℕ) where
  pub pass_tables : (x : Refusal) → number x ≡ names_number e c → number x ≡ first_failing (places_tests e c index room marks report)
  unfolding places_tests
  pass_tables x p = names_refused e c (test 17 (rooms e c index room && leb (length (child_rows c)) (length marks) && leb report_size (length report)) ∷ []) x p

  module _ (z : 0 ≡ names_number e c) where
    pass_places : first_failing (places_tests e c index room marks report)
        ≡ cond (rooms e c index room && leb (length c / child_size) (length marks) && leb report_size (length report)) 0 17
    unfolding places_tests first_failing
    pass_places =
        names_accepted e c (test 17 (rooms e c index room && leb (length (child_rows c)) (length marks) && leb report_size (length report)) ∷ []) z
        ∙ ap (λ (k : ℕ). cond (rooms e c index room && leb k (length marks) && leb report_size (length report)) 0 17) (children_many c)

    pub pass_rooms : rooms e c index room ≡ false → 17 ≡ first_failing (places_tests e c index room marks report)
    pass_rooms k = sym (pass_places ∙ rw k)

    module _ (k : rooms e c index room ≡ true) where
      pub pass_marks : length marks < length c / child_size → 17 ≡ first_failing (places_tests e c index room marks report)
      pass_marks l = sym (pass_places ∙ rw (k, lt-leb (length c / child_size) (length marks) l))

      module _ (l : length c / child_size ≤ length marks) where
        pub pass_short : length report < report_size → 17 ≡ first_failing (places_tests e c index room marks report)
        pass_short m = sym (pass_places ∙ rw (k, le-leb (length c / child_size) (length marks) l, lt-leb report_size (length report) m))

        pub pass_free : report_size ≤ length report → 0 ≡ first_failing (places_tests e c index room marks report)
        pass_free m = sym (pass_places ∙ rw (k, le-leb (length c / child_size) (length marks) l, le-leb report_size (length report) m))

  pub record PassFacts : Type 0 where
    pub sound : SoundNames e c
    pub index_long : place_size * (length e / entry_size + length c / child_size) ≤ length index
    pub room_long : place_size * (length e / entry_size + length c / child_size) ≤ length room
    pub marks_long : length c / child_size ≤ length marks
    pub report_long : report_size ≤ length report

  pub pass_facts : first_failing (places_tests e c index room marks report) ≡ 0 → PassFacts
  unfolding places_tests
  pass_facts h =
      let i : Bool = roomy e c index in
      let r : Bool = roomy e c room in
      let m : Bool = leb (length (child_rows c)) (length marks) in
      let l : Bool = leb report_size (length report) in
      let t = none_fails (names_whole e c) (children_there e c) (names_good e c) (i && r && m && l) h in
      let q : (i && r && m) ≡ true = and_first (i && r && m) l t.3 in
      record {
        sound = tables_pass e c t.0 t.1 t.2;
        index_long = long e c index (and_first i r (and_first (i && r) m q));
        room_long = long e c room (and_second i r (and_first (i && r) m q));
        marks_long = omega (arith, leb-true (length (child_rows c)) (length marks) (and_second (i && r) m q), children_many c);
        report_long = leb-true report_size (length report) (and_second (i && r && m) l t.3);
      }

  last : List Test
  last = test 39 (not (too_long max_levels (parse_children c))) ∷ []

  pub pass_refused : (n : ℕ) → n ≡ first_failing (places_tests e c index room marks report) → (n ≡ 0 → ⊥) → left n e c marks report ≡ pass_call e c index room marks report
  unfolding pass_call pass_tests places_tests last
  pass_refused n p h =
      let q : n ≡ first_failing (pass_tests e c index room marks report) =
      before_five (names_whole e c) (children_there e c) (names_good e c) (rooms e c index room && leb (length (child_rows c)) (length marks) && leb report_size (length report)) last n p h in
      rw (← q, ne_eqb n 0 h)

  module _ (n : ℕ) (p : n ≡ first_failing (places_tests e c index room marks report)) (z : n ≡ 0) where
    pass_number : first_failing (pass_tests e c index room marks report) ≡ cond (not (too_long max_levels (parse_children c))) 0 39
    unfolding pass_tests places_tests last first_failing
    pass_number =
        five (names_whole e c) (children_there e c) (names_good e c) (rooms e c index room && leb (length (child_rows c)) (length marks) && leb report_size (length report)) last (sym p ∙ z)

    module _ (r : Result ⊤ Refusal) (new : List ℕ) (s : r ≡ cond (too_long max_levels (parse_children c)) (Err LongClimb) (Ok tt))
        (w : new ≡ cond (too_long max_levels (parse_children c)) marks (sets marks 0 (judged max_levels (parse_children c)))) where
      pub pass_long : (x : Refusal) → r ≡ Err x → left (number x) e c new report ≡ pass_call e c index room marks report
      unfolding pass_call
      pass_long x h = go (too_long max_levels (parse_children c)) refl
        where
          go : (l : Bool) → too_long max_levels (parse_children c) ≡ l → left (number x) e c new report ≡ pass_call e c index room marks report
          go true l =
              let a : 39 ≡ number x = ap answer (sym (rw l at s) ∙ h) in
              let q : first_failing (pass_tests e c index room marks report) ≡ 39 = pass_number ∙ rw l in
              let v : new ≡ marks = rw l at w in
              rw (q, v, a)
          go false l =
              let a : 0 ≡ number x = ap answer (sym (rw l at s) ∙ h) in
              absurd (refused_not x (sym a))

      module _ (h : r ≡ Ok tt) where
        short_is : too_long max_levels (parse_children c) ≡ false
        short_is = go (too_long max_levels (parse_children c)) refl
          where
            go : (l : Bool) → too_long max_levels (parse_children c) ≡ l → l ≡ false
            go true l =
                let a : 39 ≡ 0 = ap answer (sym (rw l at s) ∙ h) in
                absurd (omega (arith, a))
            go false l = refl

        marks_are : new ≡ sets marks 0 (judged max_levels (parse_children c))
        marks_are = rw short_is at w

        pub judged_front : length c / child_size ≤ length marks → take (length c / child_size) new ≡ judged max_levels (parse_children c)
        judged_front k =
            let n : length (judged max_levels (parse_children c)) ≡ length c / child_size = judged_many max_levels c in
            rw (marks_are, sets_front (judged max_levels (parse_children c)) marks (omega arith))
            (take_at (judged max_levels (parse_children c)) _ (length c / child_size) n)

        pub pass_done : mended_bytes (seen_by (judged max_levels (parse_children c)) (parse_children c)) e c new report ≡ pass_call e c index room marks report
        unfolding pass_call
        pass_done =
            let q : first_failing (pass_tests e c index room marks report) ≡ 0 = pass_number ∙ rw short_is in
            rw (q, marks_are)

-- ## What is told

pub told : (seen : MdtFid → Bool) (e c x y report : List ℕ) (m : Mending) → SoundNames x y → Bytes x → Bytes y →
    mended_by m (parse_entries x) (parse_children y) ≡ mended seen (parse_entries e) (parse_children c) → (ms : List ℕ) →
    left (answer_of m.full) x y ms (sets report 0 (report_numbers (report_by m))) ≡ mended_bytes seen e c ms report
unfolding mended_bytes mended_by
told seen e c x y report m s a b q ms =
    ap (λ (t : List ℕ). left (answer_of m.full) t y ms (sets report 0 (report_numbers (report_by m)))) (sym (entries_back x y s a))
    ∙ ap (λ (t : List ℕ). left (answer_of m.full) (render_entries (parse_entries x)) t ms (sets report 0 (report_numbers (report_by m)))) (sym (children_back x y s b))
    ∙ ap (λ (z : Mended). left z.answer (render_entries z.entries) (render_children z.children) ms (sets report 0 (report_numbers z.report))) q
