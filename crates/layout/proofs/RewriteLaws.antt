-- A rewrite changes the bytes of its slot and of the generation, and no others. Assumes nothing.
use mathlib.Core.Path.{◌≡◌, refl, sym, subst, ◌∙◌}
use mathlib.Core.List.{List, [], ◌∷◌}
use mathlib.Core.Bool.{Bool, true, false, ◌||◌, true≢false}
use mathlib.Core.Logic.{◌⊎◌, inl, inr}
use Prim.Native.Nat.{ℕ, suc, ◌+◌, ◌*◌, ◌≤◌, ◌<◌}
use native.Mathlib.Omega.{arith}
use native.Mathlib.Decide.{dec_lt}
use borrow.Author.Tests.{le-leb, lt-ltb, eqb-true}
use lib.Dec.{eqb, leb, ltb}
use lib.ListN.{length, get_or, drop, set}
use lib.Seq.{sets, length-sets, get_or-set_other}
use Rattle.wire.specs.Numbers.{le, bytes}
use Rattle.wire.proofs.Both.{and_both}
use Rattle.wire.proofs.NumberLaws.{Bytes, length_bytes}
use Rattle.layout.specs.declared.Slot.{Slot}
use Rattle.layout.specs.Slot.{slot_size, slot_of, encode_slot, same_slot}
use Rattle.layout.specs.Layout.{generation_at, next_generation, slot_start}
use Rattle.layout.specs.Answers.{rewrite_answer, rewrite_bytes, within, in_rewrite, OthersStay}
use Rattle.layout.proofs.SlotLaws.{length_slot}
use Rattle.layout.proofs.LayoutLaws.{rewrite_splices, rewrite_stays}

or_first : (a b : Bool) → (a || b) ≡ false → a ≡ false
or_first true b e = e
or_first false b e = refl

or_second : (a b : Bool) → (a || b) ≡ false → b ≡ false
or_second true b e = cc
or_second false b e = e

out_of : (at n i : ℕ) → within at n i ≡ false → (i < at) ⊎ (at + n ≤ i)
unfolding within
out_of at n i e = go (dec_lt i at) (dec_lt i (at + n))
  where
    go : Dec (i < at) → Dec (i < at + n) → (i < at) ⊎ (at + n ≤ i)
    go (yes h) d = inl h
    go (no h) (no k) = inr (omega arith)
    go (no h) (yes k) = absurd (true≢false (sym (and_both (leb at i) (ltb i (at + n)) (le-leb at i (omega arith)) (lt-ltb i (at + n) k)) ∙ e))

-- the bytes before and after those that are set stay
sets_outside : (vs l : List ℕ) (at i : ℕ) → (i < at) ⊎ (at + length vs ≤ i) → get_or (sets l at vs) i 0 ≡ get_or l i 0
sets_outside [] l at i h = refl
sets_outside (v ∷ vs) l at i (inl h) = sets_outside vs (set l at v) (suc at) i (inl (omega arith)) ∙ get_or-set_other l at i v 0 (λ e. omega arith)
sets_outside (v ∷ vs) l at i (inr h) = sets_outside vs (set l at v) (suc at) i (inr (omega arith)) ∙ get_or-set_other l at i v 0 (λ e. omega arith)

rewrite_refused : (l : List ℕ) (j : ℕ) (s : Slot) → eqb (rewrite_answer l j s) 0 ≡ false → rewrite_bytes l j s ≡ l
unfolding rewrite_bytes
rewrite_refused l j s e = rw e

-- "The slot rewrite now touches two more bytes", and no others
module _ (l : List ℕ) (j : ℕ) (s : Slot) (b : Bytes l) where
  at : ℕ
  at = slot_start l + slot_size * j

  g : List ℕ
  g = bytes 2 (next_generation (le 2 (drop generation_at l)))

  -- a refusal, an equal slot, another slot
  cases : (P : List ℕ → Type 0) → P l → P (sets (sets l at (encode_slot s)) generation_at g) → P (rewrite_bytes l j s)
  unfolding at g
  cases P same other = go (eqb (rewrite_answer l j s) 0) refl (same_slot (slot_of (drop (slot_start l) l) j) s) refl
    where
      go : (d : Bool) → eqb (rewrite_answer l j s) 0 ≡ d → (c : Bool) → same_slot (slot_of (drop (slot_start l) l) j) s ≡ c → P (rewrite_bytes l j s)
      go false q c k = subst P (sym (rewrite_refused l j s q)) same
      go true q true k = subst P (sym (rewrite_stays l j s b (eqb-true (rewrite_answer l j s) 0 q) k)) same
      go true q false k = subst P (sym (rewrite_splices l j s b (eqb-true (rewrite_answer l j s) 0 q) k)) other

  stays : (i : ℕ) → in_rewrite l j i ≡ false → get_or (sets (sets l at (encode_slot s)) generation_at g) i 0 ≡ get_or l i 0
  unfolding in_rewrite at g
  stays i e =
      sets_outside g (sets l at (encode_slot s)) generation_at i (rw (length_bytes 2 (next_generation (le 2 (drop generation_at l)))) (out_of generation_at 2 i (or_second slot generation e)))
      ∙ sets_outside (encode_slot s) l at i (rw (length_slot s) (out_of at slot_size i (or_first slot generation e)))
    where
      slot : Bool
      slot = within at slot_size i

      generation : Bool
      generation = within generation_at 2 i

  pub others_stay : OthersStay l j s
  unfolding OthersStay
  others_stay = (
    cases (λ y. length y ≡ length l) refl (length-sets (sets l at (encode_slot s)) generation_at g ∙ length-sets l at (encode_slot s)),
    λ i e. cases (λ y. get_or y i 0 ≡ get_or l i 0) refl (stays i e),
  )
