-- What is stored is read back as the same reading. Assumes nothing.
use Prim.Native.Nat.{ℕ, ◌+◌, ◌-◌, ◌^◌, ◌%◌, ◌≤◌}
use mathlib.Core.Path.{◌≡◌, refl, sym, ap, ◌∙◌}
use mathlib.Core.List.{List}
use mathlib.Core.Bool.{Bool, true, false, cond}
use native.Mathlib.Nat.{mod-eq_of_lt}
use native.Mathlib.Omega.{arith}
use lib.ListN.{length, take, drop, get_or}
use lib.Seq.{drop-drop}
use lib.Dec.{ltb}
use borrow.Author.Tests.{ne_eqb, ltb-true, ltb-false}
use Rattle.tables.specs.Bytes.{parent_rows, object_rows}
use Rattle.intake.specs.declared.Kind.{Kind}
use Rattle.intake.specs.Says.{kind_of, wanted}
use Rattle.intake.specs.Reading.{Open}
use Rattle.intake.specs.Machine.{Digits, Partial, State}
use Rattle.intake_bytes.specs.declared.Marks.{Marks}
use Rattle.intake_bytes.specs.declared.Half.{Half}
use Rattle.intake_bytes.specs.declared.Half.TheVariants.{Even, Odd, Broken}
use Rattle.intake_bytes.specs.declared.Unfinished.{Unfinished}
use Rattle.intake_bytes.specs.Lent.{base_of, want_of, part_of, Held, Others, kept_in, digits_of, digits_in, partial_in, HalfFits}
use Rattle.intake_line.proofs.GlueLaws.{open_stays}
use Rattle.intake_bytes.proofs.HoldLaws.{base_past}
use Rattle.intake_state.specs.declared.Kept.{Kept}
use Rattle.intake_state.specs.State.{stop_is, machine_of, KeptHeld, number_at, half_of, half_number, line_in, marks_in, reader_in, kept_of, numbers_in, numbers_of, machine_in, Stored}

same_partial : (h k : List ℕ) (d e : Digits) → h ≡ k → d ≡ e → ◌≡◌ {A = Partial} (record { head = h; digits = d }) (record { head = k; digits = e })
same_partial h k d e p q = rw (p, q)

same_digits : (h k : Half) (m n : ℕ) (v w : List ℕ) → h ≡ k → m ≡ n → v ≡ w → digits_of h m v ≡ digits_of k n w
same_digits h k m n v w a b c = rw (a, b, c)

-- half a byte whose digit is known
pub half_odd : (n : ℕ) → (n ≡ 0 → ⊥) → (n ≡ 17 → ⊥) → Odd (n - 1) ≡ half_of n
unfolding half_of
half_odd n e f = rw (ne_eqb n 0 e, ne_eqb n 17 f)

-- half a byte is read back
pub half_back : (h : Half) → HalfFits h → half_of (half_number h) ≡ h
unfolding half_of half_number HalfFits
half_back Even f = refl
half_back (Odd h) f =
    let e : (h + 1) % 2 ^ 64 ≡ h + 1 = mod-eq_of_lt (omega arith) in
    let d : h + 1 - 1 ≡ h = omega arith in
    rw (e, ne_eqb (h + 1) 0 (λ z. omega arith), ne_eqb (h + 1) 17 (λ z. omega arith), d)
half_back Broken f = refl

module _ (s s' : List ℕ) (r : drop 128 s' ≡ drop 128 s) (long : length s' ≡ length s) where
  -- past the numbers nothing differs
  past : (a : ℕ) → 128 ≤ a → drop a s' ≡ drop a s
  past a h =
      let e : 128 + (a - 128) ≡ a = omega arith in
      let go : (l : List ℕ) → drop (a - 128) (drop 128 l) ≡ drop a l = λ (l : List ℕ). drop-drop (a - 128) 128 l ∙ ap (λ (n : ℕ). drop n l) e in
      sym (go s') ∙ ap (drop (a - 128)) r ∙ go s

  same_others : (want : Kind → ℕ) → Others want s s'
  unfolding Others part_of
  same_others want k e = ap (take (wanted (length s - 208) k)) (past (base_of k) (omega (arith, base_past k)))

  same_kept : (x y : Unfinished) → x.size ≡ y.size → x.base ≡ y.base → x.most ≡ y.most → 144 ≤ y.base → kept_in s' x ≡ kept_in s y
  unfolding kept_in
  same_kept x y a b c h = rw (a, b, c, past y.base (omega arith))

  none_kept : (x y : Unfinished) → x.size ≡ 0 → y.size ≡ 0 → kept_in s' x ≡ kept_in s y
  unfolding kept_in
  none_kept x y a b = rw (a, b)

  same_line : (x y : Unfinished) → x.seen ≡ y.seen → x.half ≡ y.half → x.size ≡ y.size → kept_in s' x ≡ kept_in s y → partial_in s' x ≡ partial_in s y
  unfolding partial_in digits_in
  same_line x y a b c e =
      same_partial _ _ _ _ (ap (λ (n : ℕ). take n (drop 128 s')) a ∙ ap (take y.seen) r) (same_digits x.half y.half x.size y.size (kept_in s' x) (kept_in s y) b c e)

  -- the line as its numbers are read
  line_back : (m : Marks) (y : Unfinished) → Held (want_of m (length s)) s y → partial_in s' (line_in s' m y.seen y.half y.size) ≡ partial_in s y
  unfolding line_in
  line_back m y g = go (ltb y.seen 14) refl where
    K : Kind
    K = kind_of (take 14 (drop 128 s'))

    go : (t : Bool) → ltb y.seen 14 ≡ t
        → partial_in s' (cond t (record { seen = y.seen; base = 144; most = 0; half = y.half; size = y.size })
        (record { seen = y.seen; base = base_of K; most = want_of m (length s') K; half = y.half; size = y.size })) ≡ partial_in s y
    go true e =
        let z : y.size ≡ 0 = (g.short (ltb-true y.seen 14 e)).1 in
        same_line (record { seen = y.seen; base = 144; most = 0; half = y.half; size = y.size }) y refl refl refl
        (none_kept (record { seen = y.seen; base = 144; most = 0; half = y.half; size = y.size }) y z z)
    go false e =
        let h : 14 ≤ y.seen = ltb-false y.seen 14 e in
        let k : K ≡ kind_of (take 14 (drop 128 s)) = ap (λ (l : List ℕ). kind_of (take 14 l)) r in
        let b : base_of K ≡ y.base = ap base_of k ∙ sym (g.at h) in
        let m' : want_of m (length s') K ≡ y.most = ap (λ (n : ℕ). want_of m n K) long ∙ ap (want_of m (length s)) k ∙ sym (g.keeps h) in
        same_line (record { seen = y.seen; base = base_of K; most = want_of m (length s') K; half = y.half; size = y.size }) y refl refl refl
        (same_kept (record { seen = y.seen; base = base_of K; most = want_of m (length s') K; half = y.half; size = y.size }) y refl b m' g.past)

module _ (s : List ℕ) (k : Kept) (s' : List ℕ) (t : Stored s k s') where
  at : (i : ℕ) → get_or (numbers_in s') i 0 ≡ get_or (numbers_of k) i 0
  at i = ap (λ (l : List ℕ). get_or l i 0) t.numbers

  abbrev kept_at : Half → Kept
  kept_at h = record {
    answer = k.answer;
    named = k.named;
    taken = k.taken;
    reader = record {
      from = k.reader.from;
      marks = k.reader.marks;
      count = k.reader.count;
      line = line_in s' k.reader.marks k.reader.line.seen h k.reader.line.size;
    };
  }

  pub kept_raw : kept_of s' ≡ kept_at (half_of (half_number k.reader.line.half))
  unfolding kept_of reader_in marks_in numbers_in numbers_of
  kept_raw =
      let a0 : number_at s' 0 ≡ k.answer = at 0 in
      let a1 : number_at s' 8 ≡ k.named = at 1 in
      let a2 : number_at s' 16 ≡ k.taken = at 2 in
      let a3 : number_at s' 24 ≡ k.reader.from = at 3 in
      let a4 : number_at s' 32 ≡ k.reader.count = at 4 in
      let a5 : number_at s' 40 ≡ k.reader.marks.lov = at 5 in
      let a6 : number_at s' 48 ≡ k.reader.marks.fid = at 6 in
      let a7 : number_at s' 56 ≡ k.reader.marks.lma = at 7 in
      let a8 : number_at s' 64 ≡ k.reader.line.seen = at 8 in
      let a9 : number_at s' 72 ≡ half_number k.reader.line.half = at 9 in
      let b0 : number_at s' 80 ≡ k.reader.line.size = at 10 in
      rw (a0, a1, a2, a3, a4, a5, a6, a7, a8, a9, b0)

  pub kept_back : HalfFits k.reader.line.half → kept_of s' ≡ kept_at k.reader.line.half
  kept_back f = kept_raw ∙ ap kept_at (half_back k.reader.line.half f)

  -- THE LAW: what is stored stands for the same reading
  pub reload : (file p o : List ℕ) → KeptHeld s file k → machine_in s' file p o ≡ machine_of s k file p o
  unfolding machine_in machine_of
  reload file p o g =
      ap (λ (x : Kept). machine_of s' x file p o) (kept_back g.held.held.halves)
      ∙ two (open_stays s s' k.reader.marks t.long (same_others s s' t.rest t.long (want_of k.reader.marks (length s))) k.reader.from)
      (line_back s s' t.rest t.long k.reader.marks k.reader.line g.held.held)
    where
      two : {e e' : Open} {x x' : Partial} → e ≡ e' → x ≡ x'
          → ◌≡◌ {A = State} (record { reading = record { parents = parent_rows p; objects = object_rows o; owners = drop k.taken file; count = k.reader.count; entry = e; stop = stop_is k.answer k.named }; line = x })
          (record { reading = record { parents = parent_rows p; objects = object_rows o; owners = drop k.taken file; count = k.reader.count; entry = e'; stop = stop_is k.answer k.named }; line = x' })
      two a b = rw (a, b)
