-- What the lent bytes keep of each value is at most what is wanted of its kind. Assumes nothing.
use Prim.Native.Nat.{ℕ, zero, suc, ◌-◌, ◌≤◌}
use mathlib.Core.Path.{◌≡◌, refl, ap, subst}
use mathlib.Core.List.{List, [], ◌∷◌}
use mathlib.Core.Bool.{Bool, true, false, cond}
use native.Mathlib.Omega.{arith}
use lib.ListN.{length, take, drop, length-drop}
use lib.Seq.{length-take-le}
use lib.Dec.{ltb, eqb}
use borrow.Author.Tests.{ltb-true, ltb-false}
use Rattle.tables.specs.Bytes.{layout_room}
use Rattle.intake.specs.declared.Kind.{Kind}
use Rattle.intake.specs.declared.Kind.TheVariants.{Lov, Fid, Lma, Other}
use Rattle.intake.specs.Says.{kind_of, wanted}
use Rattle.intake.specs.Reading.{none, had, outside, inside, attribute_of}
use Rattle.intake_bytes.specs.declared.Marks.{Marks}
use Rattle.intake_bytes.specs.declared.Half.{Half}
use Rattle.intake_bytes.specs.declared.Half.TheVariants.{Even, Odd, Broken}
use Rattle.intake_bytes.specs.declared.Unfinished.{Unfinished}
use Rattle.intake_bytes.specs.Lent.{base_of, want_of, kept_in, digits_of, digits_in, partial_in, part_of, Held}
use Rattle.intake_line.specs.Entry.{attribute_in, entry_in, open_in, MarksHeld}
use Rattle.intake_line.proofs.GlueLaws.{want_open}
use Rattle.intake_state.specs.State.{state_size}
use Rattle.intake_calls.proofs.KeptLaws.{kept_of, kept_digits, counted, FewOpen, FewLine, want_few}

-- no more than asked for, and no more than there are
take_most : (n : ℕ) (l : List ℕ) → (length (take n l) ≤ n) × (length (take n l) ≤ length l)
take_most zero l = (omega arith, omega arith)
take_most (suc n) [] = (omega arith, omega arith)
take_most (suc n) (b ∷ l) = let h = take_most n l in (omega (arith, h.0), omega (arith, h.1))

-- ## The open entry

few_in : (s : List ℕ) (k : Kind) (mark : ℕ) → length s ≡ state_size → length (kept_of (attribute_in s k mark)) ≤ wanted layout_room k
unfolding attribute_in part_of kept_of
few_in s k mark e = go (eqb mark 0) where
  room : wanted (length s - 208) k ≡ wanted layout_room k
  room = let n : length s - 208 ≡ layout_room = omega (arith, e) in ap (λ (m : ℕ). wanted m k) n

  part : length (part_of (length s) k s) ≤ wanted (length s - 208) k
  part = (take_most (wanted (length s - 208) k) (drop (base_of k) s)).0

  go : (t : Bool) → length (kept_of (cond t none (had (mark - 1) (take (mark - 1) (part_of (length s) k s))))) ≤ wanted layout_room k
  go true = omega arith
  go false = omega (arith, (take_most (mark - 1) (part_of (length s) k s)).1, part, room)

pub few_open : (s : List ℕ) (from : ℕ) (m : Marks) → length s ≡ state_size → FewOpen layout_room (open_in s from m)
unfolding open_in FewOpen entry_in attribute_of kept_of
few_open s from m e = go (eqb from 0) where
  each : (k : Kind) → length (kept_of (attribute_of k (entry_in s from m))) ≤ wanted layout_room k
  each Lov = few_in s Lov m.lov e
  each Fid = few_in s Fid m.fid e
  each Lma = few_in s Lma m.lma e
  each Other = omega arith

  go : (t : Bool) → FewOpen layout_room (cond t outside (inside (entry_in s from m)))
  go true = tt
  go false = each

-- ## The unfinished line

few_digits : (s : List ℕ) (x : Unfinished)
    → (length (kept_digits (digits_in s x)) ≤ counted (digits_in s x)) × (length (kept_digits (digits_in s x)) ≤ length (kept_in s x))
unfolding digits_in digits_of kept_digits counted kept_in
few_digits s x = go x.half where
  v : List ℕ
  v = kept_in s x

  size : length v ≤ x.size
  size = (take_most x.size (take x.most (drop x.base s))).0

  go : (h : Half) → (length (kept_digits (digits_of h x.size v)) ≤ counted (digits_of h x.size v)) × (length (kept_digits (digits_of h x.size v)) ≤ length v)
  go Even = (size, omega arith)
  go (Odd h) = (size, omega arith)
  go Broken = (omega arith, omega arith)

kept_most : (s : List ℕ) (x : Unfinished) → (length (kept_in s x) ≤ x.size) × (length (kept_in s x) ≤ x.most)
unfolding kept_in
kept_most s x =
    let a = take_most x.size (take x.most (drop x.base s)) in
    (a.0, omega (arith, a.1, (take_most x.most (drop x.base s)).0))

pub few_line : (s : List ℕ) (from : ℕ) (m : Marks) (x : Unfinished) → length s ≡ state_size → MarksHeld from m → Held (want_of m (length s)) s x
    → FewLine layout_room (partial_in s x)
unfolding partial_in
few_line s from m x e h g = record {
  count = d.0;
  head = λ q. omega (arith, d.1, k.0, (g.short (omega (arith, q, long))).1);
  most = go (ltb x.seen 14) refl;
} where
  d : (length (kept_digits (digits_in s x)) ≤ counted (digits_in s x)) × (length (kept_digits (digits_in s x)) ≤ length (kept_in s x))
  d = few_digits s x

  k : (length (kept_in s x) ≤ x.size) × (length (kept_in s x) ≤ x.most)
  k = kept_most s x

  long : length (take x.seen (drop 128 s)) ≡ x.seen
  long = length-take-le x.seen (drop 128 s) (rw length-drop (omega (arith, e, g.heads)))

  go : (t : Bool) → ltb x.seen 14 ≡ t → length (kept_digits (digits_in s x)) ≤ wanted layout_room (kind_of (take x.seen (drop 128 s)))
  go true q = omega (arith, d.1, k.0, (g.short (ltb-true x.seen 14 q)).1)
  go false q =
      let n : 14 ≡ x.seen = omega (arith, ltb-false x.seen 14 q, g.heads) in
      let K : Kind = kind_of (take 14 (drop 128 s)) in
      let room : length s - 208 ≡ layout_room = omega (arith, e) in
      let want : x.most ≤ wanted layout_room K =
      subst (λ (r : ℕ). x.most ≤ wanted r K) room
      (omega (arith, g.keeps (ltb-false x.seen 14 q), want_open s m from h.bare K, want_few (length s - 208) (open_in s from m) K)) in
      subst (λ (j : ℕ). length (kept_digits (digits_in s x)) ≤ wanted layout_room (kind_of (take j (drop 128 s)))) n (omega (arith, d.1, k.1, want))
