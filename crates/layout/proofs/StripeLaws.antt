-- Laws of other slots in a layout: when two lists of slots are the same, and the generation that comes with them. Assumes nothing.
use mathlib.Core.Path.{◌≡◌, refl, sym, ap}
use mathlib.Core.List.{List, [], ◌∷◌}
use mathlib.Core.Bool.{Bool, true, false, cond, ◌&&◌}
use Prim.Native.Nat.{ℕ, zero, suc, ◌+◌, ◌<◌}
use borrow.Author.Tests.{eq-eqb, eqb-true}
use native.Mathlib.Omega.{arith}
use lib.Dec.{eqb}
use lib.ListN.{length, get_or, set}
use Rattle.wire.proofs.Both.{and_first, and_second}
use Rattle.fid.specs.Fid.{same_fid}
use Rattle.fid.proofs.SameLaws.{same_self, same_is}
use Rattle.layout.specs.contracts.SlotPartialEq.TheImpl as derived
use Rattle.layout.specs.declared.Slot.{Slot}
use Rattle.layout.specs.declared.Slot.TheVariants.{Hole, Names}
use Rattle.layout.specs.Slot.{same_slot, same_slots}
use Rattle.layout.specs.Layout.{Layout, last_generation, generations, next_generation, at_generation, generation_with, restriped}

-- ## Slots that are the same

pub slot_self : (s : Slot) → same_slot s s ≡ true
unfolding same_slot
slot_self Hole = refl
slot_self (Names f g i) = rw (same_self f.0, eq-eqb g g refl, eq-eqb i i refl)

pub slot_same : (s t : Slot) → same_slot s t ≡ true → s ≡ t
unfolding same_slot
slot_same Hole Hole e = refl
slot_same Hole (Names f g i) e = cc
slot_same (Names f g i) Hole e = cc
slot_same (Names f g i) (Names h n k) e =
    let a : Bool = same_fid f.0 h.0 in
    let p : (a && eqb g n) ≡ true = and_first (a && eqb g n) (eqb i k) e in
    let ef = same_is f.0 h.0 (and_first a (eqb g n) p) in
    let eg = eqb-true g n (and_second a (eqb g n) p) in
    let ei = eqb-true i k (and_second (a && eqb g n) (eqb i k) e) in
    λ j. Names (record { 0 = ef j }) (eg j) (ei j)

parts : (a b c d e : Bool) → (a && (b && c) && (d && e)) ≡ (a && b && c && d && e)
parts true true true d e = refl
parts true true false d e = refl
parts true false c d e = refl
parts false b c d e = refl

-- `==` on slots is this test
pub slots_equal : (s t : Slot) → (derived.ghosts).eq s t ≡ same_slot s t
unfolding same_slot same_fid
slots_equal Hole Hole = refl
slots_equal Hole (Names f g i) = refl
slots_equal (Names f g i) Hole = refl
slots_equal (Names f g i) (Names h n k) = parts (eqb f.0.seq h.0.seq) (eqb f.0.oid h.0.oid) (eqb f.0.ver h.0.ver) (eqb g n) (eqb i k)

pub slots_self : (ss : List Slot) → same_slots ss ss ≡ true
unfolding same_slots
slots_self [] = refl
slots_self (s ∷ ss) = rw (slot_self s, slots_self ss)

pub slots_same : (ss ts : List Slot) → same_slots ss ts ≡ true → ss ≡ ts
unfolding same_slots
slots_same [] [] e = refl
slots_same [] (t ∷ ts) e = cc
slots_same (s ∷ ss) [] e = cc
slots_same (s ∷ ss) (t ∷ ts) e =
    let a = slot_same s t (and_first (same_slot s t) (same_slots ss ts) e) in
    let b = slots_same ss ts (and_second (same_slot s t) (same_slots ss ts) e) in
    λ j. a j ∷ b j

-- slots of another number are others
pub slots_longer : (ss ts : List Slot) → length ss < length ts → same_slots ss ts ≡ false
slots_longer ss ts h = go (same_slots ss ts) refl
  where
    go : (b : Bool) → same_slots ss ts ≡ b → b ≡ false
    go false e = refl
    go true e = let z = ap length (slots_same ss ts e) in absurd (omega arith)

-- with slot j changed they are the same exactly if that slot is
pub slots_changed : (ss : List Slot) (j : ℕ) (s : Slot) → j < length ss → same_slots ss (set ss j s) ≡ same_slot (get_or ss j Hole) s
unfolding same_slots
slots_changed [] j s h = absurd (omega arith)
slots_changed (x ∷ ss) zero s h = go (same_slot x s)
  where
    go : (b : Bool) → (b && same_slots ss ss) ≡ b
    go true = slots_self ss
    go false = refl
slots_changed (x ∷ ss) (suc j) s h = rw (slot_self x) (slots_changed ss j s (omega arith))

-- ## Generations

pub next_small : (g : ℕ) → g < generations → next_generation g < generations
unfolding next_generation
next_small g h = go (eqb g last_generation) refl
  where
    off : eqb g last_generation ≡ false → g ≡ last_generation → ⊥
    off e q = let t = eq-eqb g last_generation q in let z : ◌≡◌ {A = ℕ} 0 1 = cc in omega arith

    go : (b : Bool) → eqb g last_generation ≡ b → cond b 0 (g + 1) < generations
    go true e = omega arith
    go false e = let n = off e in omega arith

module _ (L : Layout) (ss : List Slot) where
  -- the same slots leave the layout as it is
  pub restriped_same : same_slots L.slots ss ≡ true → restriped L ss ≡ L
  unfolding restriped at_generation generation_with
  restriped_same e =
      let q = slots_same L.slots ss e in
      rw e (λ i. record { header = L.header; pool = L.pool; slots = sym q i })

  pub generation_small : L.header.generation < generations → generation_with L ss < generations
  unfolding generation_with
  generation_small h = go (same_slots L.slots ss)
    where
      go : (b : Bool) → cond b L.header.generation (next_generation L.header.generation) < generations
      go true = h
      go false = next_small L.header.generation h
