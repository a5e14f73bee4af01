-- Slots as numbers, there and back. Assumes nothing.
use mathlib.Core.Path.{◌≡◌, refl, sym, ◌∙◌}
use mathlib.Core.List.{List, [], ◌∷◌, ◌++◌}
use mathlib.Core.Bool.{Bool, true, false, cond, ◌&&◌}
use Prim.Native.Nat.{ℕ, zero, suc, ◌+◌, ◌*◌, ◌≤◌}
use borrow.Author.Tests.{eqb-true, leb-true}
use native.Mathlib.Omega.{arith}
use native.Mathlib.Nat.{add-zero}
use lib.Dec.{eqb, leb}
use lib.ListN.{length, take, drop, length-append, length-drop, take-append-drop}
use lib.Seq.{get_or-drop, drop-drop, drop_at}
use Rattle.wire.proofs.Both.{and_first, and_second}
use Rattle.fid.specs.Fid.{good_object}
use Rattle.fid.specs.declared.OstFid.{OstFid}
use Rattle.fid.proofs.FidLaws.{good_facts}
use Rattle.layout.specs.declared.Slot.{Slot}
use Rattle.layout.specs.declared.Slot.TheVariants.{Hole, Names}
use Rattle.layout.specs.Slot.{allowed_slot, allowed_slots, max_index}
use Rattle.layout.proofs.SlotLaws.{FitSlot, FitSlots}
use Rattle.std.specs.Prelude.{Option, Some, None}
use Rattle.wire.specs.Numbers.{max_word}
use Rattle.layout_write.specs.Writer.{slot_numbers, slot_fields, zero_given, names_given, given_from, given_at, is_slot, slot_given, given_slots, all_given}
use Rattle.layout_write.proofs.GivenLaws.{given_hole, given_names}

pub fields_five : (s : Slot) → length (slot_fields s) ≡ slot_numbers
unfolding slot_fields
fields_five Hole = refl
fields_five (Names f g i) = refl

-- the numbers of slots, one slot after the other
unfoldable pub fields_of : List Slot → List ℕ
fields_of [] = []
fields_of (s ∷ ss) = slot_fields s ++ fields_of ss

pub length_fields : (ss : List Slot) → length (fields_of ss) ≡ slot_numbers * length ss
unfolding fields_of
length_fields [] = refl
length_fields (s ∷ ss) = rw (length-append, fields_five s, length_fields ss) (omega arith)

-- ## From the j-th on: the first of what is left

given_drop : (l : List ℕ) (j : ℕ) → given_at l j ≡ given_at (drop (slot_numbers * j) l) 0
unfolding given_at
given_drop l j =
    let k : ℕ = slot_numbers * j in
    rw (get_or-drop k l 0 0, get_or-drop k l 1 0, get_or-drop k l 2 0, get_or-drop k l 3 0, get_or-drop k l 4 0, add-zero k)

givens_drop : (l : List ℕ) (n j : ℕ) → given_slots l n j ≡ given_slots (drop (slot_numbers * j) l) n 0
unfolding given_slots
givens_drop l zero j = refl
givens_drop l (suc n) j =
    let k : ℕ = slot_numbers * j in
    let m : slot_numbers * suc j ≡ k + slot_numbers = omega arith in
    rw (given_drop l j, givens_drop l n (suc j), givens_drop (drop k l) n 1, m, drop-drop slot_numbers k l)

all_drop : (l : List ℕ) (n j : ℕ) → all_given l n j ≡ all_given (drop (slot_numbers * j) l) n 0
unfolding all_given
all_drop l zero j = refl
all_drop l (suc n) j =
    let k : ℕ = slot_numbers * j in
    let m : slot_numbers * suc j ≡ k + slot_numbers = omega arith in
    rw (given_drop l j, all_drop l n (suc j), all_drop (drop k l) n 1, m, drop-drop slot_numbers k l)

-- ## Slots as numbers, and given again

given_fields : (holes : Bool) (s : Slot) (r : List ℕ) → allowed_slot holes s ≡ true → FitSlot s → given_at (slot_fields s ++ r) 0 ≡ Some s
unfolding given_at slot_fields allowed_slot FitSlot good_object zero_given
given_fields holes Hole r t f = sym (given_hole 0 0 0 0 0 refl)
given_fields holes (Names f g i) r t h =
    let v : f.0.ver ≡ 0 = (good_facts f.0 (and_first (good_object f) (leb i max_index) t)).version in
    let b = h.0.oid in
    let c = h.1 in
    let d = h.2 in
    sym (given_names 1 f.0.seq f.0.oid g i refl refl (omega arith) (omega arith) (omega arith))
    ∙ sym (λ k. Some (Names (record { 0 = record { seq = f.0.seq; oid = f.0.oid; ver = v k } }) g i))

module _ (holes : Bool) where
  pub givens_fields : (ss : List Slot) → allowed_slots holes ss ≡ true → FitSlots ss → given_slots (fields_of ss) (length ss) 0 ≡ ss
  unfolding given_slots fields_of allowed_slots FitSlots slot_given
  givens_fields [] t f = refl
  givens_fields (s ∷ ss) t f =
      let a = and_first (allowed_slot holes s) (allowed_slots holes ss) t in
      let b = and_second (allowed_slot holes s) (allowed_slots holes ss) t in
      rw (
        given_fields holes s (fields_of ss) a f.0,
        givens_drop (slot_fields s ++ fields_of ss) (length ss) 1,
        drop_at (slot_fields s) (fields_of ss) slot_numbers (fields_five s),
        givens_fields ss b f.1,
      )

  pub all_fields : (ss : List Slot) → allowed_slots holes ss ≡ true → FitSlots ss → all_given (fields_of ss) (length ss) 0 ≡ true
  unfolding all_given fields_of allowed_slots FitSlots is_slot
  all_fields [] t f = refl
  all_fields (s ∷ ss) t f =
      let a = and_first (allowed_slot holes s) (allowed_slots holes ss) t in
      let b = and_second (allowed_slot holes s) (allowed_slots holes ss) t in
      rw (
        given_fields holes s (fields_of ss) a f.0,
        all_drop (slot_fields s ++ fields_of ss) (length ss) 1,
        drop_at (slot_fields s) (fields_of ss) slot_numbers (fields_five s),
        all_fields ss b f.1,
      )

-- ## Numbers given as slots, and handed out again

all_zero : (k s o g i : ℕ) → zero_given k s o g i ≡ true → (k ≡ 0) × (s ≡ 0) × (o ≡ 0) × (g ≡ 0) × (i ≡ 0)
unfolding zero_given
all_zero k s o g i e =
    let a : Bool = eqb k 0 in
    let b : Bool = eqb s 0 in
    let c : Bool = eqb o 0 in
    let d : Bool = eqb g 0 in
    let e4 : (a && b && c && d) ≡ true = and_first (a && b && c && d) (eqb i 0) e in
    let e3 : (a && b && c) ≡ true = and_first (a && b && c) d e4 in
    let e2 : (a && b) ≡ true = and_first (a && b) c e3 in (
      eqb-true k 0 (and_first a b e2),
      eqb-true s 0 (and_second a b e2),
      eqb-true o 0 (and_second (a && b) c e3),
      eqb-true g 0 (and_second (a && b && c) d e4),
      eqb-true i 0 (and_second (a && b && c && d) (eqb i 0) e),
    )

names_fit : (k o g i : ℕ) → names_given k o g i ≡ true → (k ≡ 1) × (o ≤ max_word) × (g ≤ max_word) × (i ≤ max_word)
unfolding names_given
names_fit k o g i e =
    let a : Bool = eqb k 1 in
    let b : Bool = leb o max_word in
    let c : Bool = leb g max_word in
    let e3 : (a && b && c) ≡ true = and_first (a && b && c) (leb i max_word) e in
    let e2 : (a && b) ≡ true = and_first (a && b) c e3 in (
      eqb-true k 1 (and_first a b e2),
      leb-true o max_word (and_second a b e2),
      leb-true g max_word (and_second (a && b) c e3),
      leb-true i max_word (and_second (a && b && c) (leb i max_word) e),
    )

from_back : (k s o g i : ℕ) → is_slot (given_from k s o g i) ≡ true → slot_fields (slot_given (given_from k s o g i)) ≡ k ∷ s ∷ o ∷ g ∷ i ∷ []
unfolding given_from is_slot slot_given slot_fields
from_back k s o g i = go (zero_given k s o g i) (names_given k o g i) refl refl
  where
    named : Option Slot
    named = Some (Names (record { 0 = record { seq = s; oid = o; ver = 0 } }) g i)

    go : (z m : Bool) → zero_given k s o g i ≡ z → names_given k o g i ≡ m → is_slot (cond z (Some Hole) (cond m named None)) ≡ true →
        slot_fields (slot_given (cond z (Some Hole) (cond m named None))) ≡ k ∷ s ∷ o ∷ g ∷ i ∷ []
    go true m e q t = let a = all_zero k s o g i e in rw (a.0, a.1, a.2, a.3, a.4)
    go false true e q t = rw (names_fit k o g i q).0
    go false false e q t = cc

five_back : (l : List ℕ) → slot_numbers ≤ length l → is_slot (given_at l 0) ≡ true → slot_fields (slot_given (given_at l 0)) ≡ take slot_numbers l
unfolding given_at
five_back [] h t = absurd (omega arith)
five_back (k ∷ []) h t = absurd (omega arith)
five_back (k ∷ s ∷ []) h t = absurd (omega arith)
five_back (k ∷ s ∷ o ∷ []) h t = absurd (omega arith)
five_back (k ∷ s ∷ o ∷ g ∷ []) h t = absurd (omega arith)
five_back (k ∷ s ∷ o ∷ g ∷ i ∷ r) h t = from_back k s o g i t

pub fields_given : (n : ℕ) (l : List ℕ) → length l ≡ slot_numbers * n → all_given l n 0 ≡ true → fields_of (given_slots l n 0) ≡ l
unfolding given_slots all_given fields_of
fields_given zero [] h t = refl
fields_given zero (x ∷ l) h t = absurd (omega arith)
fields_given (suc n) l h t =
    let a = and_first (is_slot (given_at l 0)) (all_given l n 1) t in
    let b : all_given (drop slot_numbers l) n 0 ≡ true = sym (all_drop l n 1) ∙ and_second (is_slot (given_at l 0)) (all_given l n 1) t in
    rw (five_back l (omega arith) a, givens_drop l n 1, fields_given n (drop slot_numbers l) (rw length-drop (omega arith)) b) (take-append-drop slot_numbers l)

-- ## What is given and allowed fits its fields

fit_from_lem : (holes : Bool) (k s o g i : ℕ) → allowed_slot holes (slot_given (given_from k s o g i)) ≡ true → FitSlot (slot_given (given_from k s o g i))
unfolding given_from slot_given allowed_slot good_object FitSlot
fit_from_lem holes k s o g i = go (zero_given k s o g i) (names_given k o g i) refl
  where
    f : OstFid
    f = record { 0 = record { seq = s; oid = o; ver = 0 } }

    go : (z m : Bool) → names_given k o g i ≡ m → allowed_slot holes (slot_given (cond z (Some Hole) (cond m (Some (Names f g i)) None))) ≡ true →
        FitSlot (slot_given (cond z (Some Hole) (cond m (Some (Names f g i)) None)))
    go true m q t = tt
    go false false q t = tt
    go false true q t =
        let a = names_fit k o g i q in
        let b = good_facts f.0 (and_first (good_object f) (leb i max_index) t) in
        (record { seq = omega (arith, b.greatest); oid = omega (arith, a.1); ver = omega arith }, omega (arith, a.2), omega (arith, a.3))

pub fit_givens : (holes : Bool) (l : List ℕ) (n j : ℕ) → allowed_slots holes (given_slots l n j) ≡ true → FitSlots (given_slots l n j)
unfolding given_slots allowed_slots FitSlots given_at
fit_givens holes l zero j t = tt
fit_givens holes l (suc n) j t =
    let s : Slot = slot_given (given_at l j) in (
      fit_from_lem holes _ _ _ _ _ (and_first (allowed_slot holes s) (allowed_slots holes (given_slots l n (suc j))) t),
      fit_givens holes l n (suc j) (and_second (allowed_slot holes s) (allowed_slots holes (given_slots l n (suc j))) t),
    )
