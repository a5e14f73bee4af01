-- The first slot of a row that names an object, as `position` finds it in the slot area. Assumes nothing.
use mathlib.Core.Path.{◌≡◌, refl, sym, ap, ◌∙◌}
use Rattle.std.specs.Prelude.{Option, Some, None}
use mathlib.Core.List.{List, [], ◌∷◌}
use mathlib.Core.Bool.{Bool, true, false, cond}
use Prim.Native.Nat.{ℕ, zero, suc, ◌+◌, ◌*◌, ◌/◌, ◌<◌}
use native.Mathlib.Omega.{arith}
use lib.ListN.{length, get_or, take, drop}
use Rattle.std.proofs.Common.{add-zero, zero-add}
use Rattle.fid.specs.declared.OstFid.{OstFid}
use Rattle.layout.specs.Slot.{slot_size, slot_of, decode_slots, slot_names}
use Rattle.layout.specs.declared.Slot.{Slot}
use Rattle.layout.specs.declared.Slot.TheVariants.{Hole}
use Rattle.layout.proofs.SlotLaws.{slot_part}
use Rattle.tables.specs.Records.{ParentRow}
use Rattle.tables.specs.Positions.{slots_of, row_at, width}
use Rattle.rules.specs.Search.{row_from, slot_from}
use Rattle.rules.specs.Rows.{names_at, slot_at}
use Rattle.rules.specs.Compared.{up_to}
use Rattle.search.proofs.RowSearch.{row_same}
use Rattle.search.proofs.SlotArea.{area_width}
use Rattle.search.proofs.NamingLaws.{area_names}

-- the place of slot j of row r, and how many slots were compared up to it: all n where none passes
unfoldable pub found_at : ℕ → Option ℕ → Option (ℕ × ℕ)
found_at r None = None
found_at r (Some j) = Some (r, j)

unfoldable pub found_after : ℕ → Option ℕ → ℕ
found_after n None = n
found_after n (Some j) = j + 1

-- in a row of n slots, the first that passes has the first number that passes
slot_row : (passes : ℕ → ℕ → Bool) (r n j : ℕ) → found_at r (row_from n j (passes r)) ≡ slot_from r n j passes
unfolding found_at row_from slot_from
slot_row passes r zero j = refl
slot_row passes r (suc n) j = go (passes r j) (slot_row passes r n (suc j))
  where
    go : (b : Bool) → found_at r (row_from n (suc j) (passes r)) ≡ slot_from r n (suc j) passes →
        found_at r (elim b [ true ↦ Some j | false ↦ row_from n (suc j) (passes r) ]) ≡ elim b [ true ↦ Some (r, j) | false ↦ slot_from r n (suc j) passes ]
    go true e = refl
    go false e = e

-- the slots compared up to it, from slot i on
slots_after : (f : OstFid) (ss : List Slot) (i : ℕ) (p : ℕ → Bool) → ((k : ℕ) → k < length ss → p (i + k) ≡ slot_names f (get_or ss k Hole)) →
    found_after (i + length ss) (row_from (length ss) i p) ≡ i + up_to f ss
unfolding found_after row_from up_to
slots_after f [] i p h = refl
slots_after f (s ∷ ss) i p h = go (slot_names f s) refl (slots_after f ss (suc i) p (λ k l. ap p (omega arith) ∙ h (suc k) (omega arith)))
  where
    first : p i ≡ slot_names f s
    first = rw add-zero at (h 0 (omega arith))

    go : (b : Bool) → slot_names f s ≡ b → found_after (suc i + length ss) (row_from (length ss) (suc i) p) ≡ suc i + up_to f ss →
        found_after (i + suc (length ss)) (elim (p i) [ true ↦ Some i | false ↦ row_from (length ss) (suc i) p ]) ≡ i + suc (cond (slot_names f s) 0 (up_to f ss))
    go true e q = rw (first, e) (omega arith)
    go false e q = rw (first, e) (ap (λ (n : ℕ). found_after n (row_from (length ss) (suc i) p)) (omega arith) ∙ q ∙ omega arith)

-- ## In the slot area of row r: what `position` finds there is the first number that names the object

module _ (ps : List ParentRow) (f : OstFid) (r : ℕ) (area : List ℕ) (e : slots_of (row_at ps r) ≡ decode_slots (length area / 24) area) where
  part_names : (j : ℕ) → j < length area / 24 → slot_names f (slot_of (take slot_size (drop (slot_size * j) area)) 0) ≡ names_at ps f r j
  unfolding slot_of
  part_names j h =
      ap (slot_names f) (slot_part (drop (slot_size * j) area)) ∙ sym (area_names ps r (length area / 24) area e f j (slot_of area j) (slot_names f (slot_of area j)) h refl refl)

  module _ (x : Option ℕ) (found : x ≡ row_from (length area / 24) 0 (λ j. slot_names f (slot_of (take slot_size (drop (slot_size * j) area)) 0))) where
    first : x ≡ row_from (width ps r) 0 (names_at ps f r)
    first = found ∙ row_same _ (names_at ps f r) (length area / 24) 0 (λ j a b. part_names j (omega arith)) ∙ ap (λ (n : ℕ). row_from n 0 (names_at ps f r)) (area_width ps r (length area / 24) area e)

    pub place_in : found_at r x ≡ slot_from r (width ps r) 0 (names_at ps f)
    place_in = ap (found_at r) first ∙ slot_row (names_at ps f) r (width ps r) 0

    pub compared_in : found_after (length area / 24) x ≡ up_to f (slots_of (row_at ps r))
    unfolding width names_at slot_at
    compared_in =
        let ss : List Slot = slots_of (row_at ps r) in
        rw (area_width ps r (length area / 24) area e, first)
        (ap (λ (n : ℕ). found_after n (row_from (length ss) 0 (names_at ps f r))) (sym (zero-add (length ss)))
        ∙ slots_after f ss 0 (names_at ps f r) (λ k l. ap (names_at ps f r) (zero-add k))
        ∙ zero-add (up_to f ss))
