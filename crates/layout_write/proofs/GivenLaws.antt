-- Laws of slots that are handed in as five numbers each. Assumes nothing.
use mathlib.Core.Path.{◌≡◌, refl, sym, ap, ◌∙◌}
use mathlib.Core.List.{List, [], ◌∷◌, ◌++◌}
use mathlib.Core.Bool.{Bool, true, false, ◌&&◌}
use Prim.Native.Nat.{ℕ, zero, suc, ◌+◌, ◌*◌, ◌/◌, ◌≤◌, ◌<◌}
use borrow.Author.Tests.{eq-eqb, le-leb}
use native.Mathlib.Omega.{arith}
use lib.ListN.{length, get_or, take, drop}
use lib.Seq.{get_or-drop, drop-drop}
use Rattle.std.proofs.lemmas.List.{get_or-take}
use Rattle.std.specs.List.{list_all}
use Rattle.wire.specs.Rows.{rows}
use Rattle.layout.specs.declared.Slot.{Slot}
use Rattle.layout.specs.declared.Slot.TheVariants.{Hole, Names}
use Rattle.std.specs.Prelude.{Option, Some}
use Rattle.layout.specs.Slot.{allowed_slot, allowed_slots}
use Rattle.wire.specs.Numbers.{max_word}
use Rattle.layout_write.specs.Writer.{slot_numbers, zero_given, names_given, given_from, given_at, is_slot, slot_given, given_slots, all_given}

module _ (k s o g i : ℕ) where
  pub given_hole : zero_given k s o g i ≡ true → Some Hole ≡ given_from k s o g i
  unfolding given_from
  given_hole h = rw h

  pub given_names : zero_given k s o g i ≡ false → k ≡ 1 → o ≤ max_word → g ≤ max_word → i ≤ max_word →
      Some (Names (record { 0 = record { seq = s; oid = o; ver = 0 } }) g i) ≡ given_from k s o g i
  unfolding given_from names_given
  given_names h e a b d = rw (h, eq-eqb k 1 e, le-leb o max_word a, le-leb g max_word b, le-leb i max_word d)

-- ## All of them

-- whether what is given is a slot, and allowed
unfoldable pub allowed_one : Bool → Option Slot → Bool
allowed_one holes g = is_slot g && allowed_slot holes (slot_given g)

-- the test of one slot in front of the tests of the rest
regroup : (a b x y : Bool) → ((a && x) && (b && y)) ≡ ((a && b) && (x && y))
regroup true true x y = refl
regroup true false true y = refl
regroup true false false y = refl
regroup false b x y = refl

module _ (holes : Bool) (l : List ℕ) where
  All : ℕ → ℕ → Bool
  All n j = all_given l n j && allowed_slots holes (given_slots l n j)

  first_rest : (n j : ℕ) → All (suc n) j ≡ (allowed_one holes (given_at l j) && All n (suc j))
  unfolding All all_given given_slots allowed_slots allowed_one
  first_rest n j = regroup (is_slot (given_at l j)) (allowed_slot holes (slot_given (given_at l j))) (all_given l n (suc j)) (allowed_slots holes (given_slots l n (suc j)))

-- five numbers of a list are those of its part
given_part : (l : List ℕ) (j : ℕ) → given_at (take slot_numbers (drop (slot_numbers * j) l)) 0 ≡ given_at l j
unfolding given_at
given_part l j =
    let at : ℕ = slot_numbers * j in
    let n : (i : ℕ) → i < slot_numbers → get_or (take slot_numbers (drop at l)) i 0 ≡ get_or l (at + i) 0 =
    λ i h. get_or-take slot_numbers (drop at l) i 0 h ∙ get_or-drop at l i 0 in
    let z : at + 0 ≡ at = omega arith in
    rw (n 0 (omega arith), n 1 (omega arith), n 2 (omega arith), n 3 (omega arith), n 4 (omega arith), z)

-- the test of each five numbers from the j-th on is that of the slots given
given_parts : (holes : Bool) (l : List ℕ) (n j : ℕ) →
    list_all (λ part. allowed_one holes (given_at part 0)) (rows slot_numbers n (drop (slot_numbers * j) l)) ≡ All holes l n j
unfolding rows All all_given given_slots allowed_slots
given_parts holes l zero j = refl
given_parts holes l (suc n) j =
    let m : slot_numbers * suc j ≡ slot_numbers * j + slot_numbers = omega arith in
    rw (given_part l j, drop-drop slot_numbers (slot_numbers * j) l, ← m, given_parts holes l n (suc j)) (sym (first_rest holes l n j))

pub given_tests : (holes : Bool) (l : List ℕ) → list_all (λ part. allowed_one holes (given_at part 0)) (rows slot_numbers (length l / slot_numbers) l) ≡
    (all_given l (length l / slot_numbers) 0 && allowed_slots holes (given_slots l (length l / slot_numbers) 0))
unfolding All
given_tests holes l = given_parts holes l (length l / slot_numbers) 0

pub length_given : (l : List ℕ) (n j : ℕ) → length (given_slots l n j) ≡ n
unfolding given_slots
length_given l zero j = refl
length_given l (suc n) j = ap suc (length_given l n (suc j))

-- one slot more, at the end
pub given_more : (l : List ℕ) (n j : ℕ) → given_slots l (suc n) j ≡ given_slots l n j ++ (slot_given (given_at l (j + n)) ∷ [])
unfolding given_slots
given_more l zero j = let e : j + 0 ≡ j = omega arith in rw e
given_more l (suc n) j =
    let e : suc j + n ≡ j + suc n = omega arith in
    ap (λ (ss : List Slot). slot_given (given_at l j) ∷ ss) (rw e at (given_more l n (suc j)))
