-- The slots that name an object, as the searches read them row by row and slot by slot. Assumes nothing.
use mathlib.Core.Path.{◌≡◌, refl, sym, ap, ◌∙◌}
use Rattle.std.specs.Prelude.{Option}
use mathlib.Core.List.{List}
use mathlib.Core.Bool.{Bool, not, ◌&&◌}
use Prim.Native.Nat.{ℕ, ◌/◌, ◌<◌}
use native.Mathlib.Omega.{arith}
use lib.Dec.{eqb}
use lib.ListN.{length}
use Rattle.std.specs.List.{list_any, range_with_len}
use Rattle.fid.specs.declared.OstFid.{OstFid}
use Rattle.layout.specs.Slot.{slot_of, decode_slots, slot_names}
use Rattle.layout.specs.declared.Slot.{Slot}
use Rattle.tables.specs.Records.{ParentRow}
use Rattle.tables.specs.Bytes.{parent_size, parse_parents}
use Rattle.tables.specs.Positions.{slots_of, row_at, width}
use Rattle.tables.proofs.PositionLaws.{parsed_parents}
use Rattle.rules.specs.Search.{slot_from, is_somewhere}
use Rattle.rules.specs.Rows.{names_at, scan, named, names_else, named_else}
use Rattle.search.proofs.PlaceSearch.{places_left, place_start, any_slot, any_place}
use Rattle.search.proofs.SlotArea.{area_width, area_slot}

-- a scan begins at row 0 of the bytes
pub scan_start : (p : List ℕ) (passes : ℕ → ℕ → Bool) →
    scan (parse_parents p) passes ≡ places_left (width (parse_parents p)) passes (length p / parent_size) 0
unfolding scan
scan_start p passes = rw (parsed_parents p) (place_start (width (parse_parents p)) passes (length p / parent_size))

-- ## A slot, as it is read from the area of its row

module _ (ps : List ParentRow) (r n : ℕ) (area : List ℕ) (e : slots_of (row_at ps r) ≡ decode_slots n area) where
  pub area_names : (f : OstFid) (j : ℕ) (s : Slot) (b : Bool) → j < n → s ≡ slot_of area j → b ≡ slot_names f s → names_at ps f r j ≡ b
  unfolding names_at
  area_names f j s b h q t = sym (t ∙ ap (slot_names f) (area_slot ps r n area e j s h q))

  area_else : (f : OstFid) (k i j : ℕ) (s : Slot) (b : Bool) → j < n → s ≡ slot_of area j → b ≡ (slot_names f s && not (eqb r k && eqb j i)) →
      names_else ps f k i r j ≡ b
  unfolding names_else
  area_else f k i j s b h q t = rw (area_names f j s (slot_names f s) h q refl) (sym t)

-- ## Named at all

pub named_is : (ps : List ParentRow) (f : OstFid) (a : Option (ℕ × ℕ)) (b : Bool) → a ≡ scan ps (names_at ps f) → b ≡ is_somewhere a → b ≡ named ps f
unfolding named
named_is ps f a b e t = t ∙ ap is_somewhere e

-- by another slot: of row r, as its area has them
pub any_else : (ps : List ParentRow) (k : ℕ) (area : List ℕ) → slots_of (row_at ps k) ≡ decode_slots (length area / 24) area → (f : OstFid) (r j : ℕ) →
    list_any (λ i. slot_names f (slot_of area i) && not (eqb k r && eqb i j)) (range_with_len 0 (length area / 24)) ≡ is_somewhere (slot_from k (width ps k) 0 (names_else ps f r j))
any_else ps k area e f r j =
    any_slot (λ i. slot_names f (slot_of area i) && not (eqb k r && eqb i j)) (names_else ps f r j) k (length area / 24) 0
    (λ i a b. area_else ps k (length area / 24) area e f r j i _ _ (omega arith) refl refl)
    ∙ ap (λ (n : ℕ). is_somewhere (slot_from k n 0 (names_else ps f r j))) (area_width ps k (length area / 24) area e)

-- of any row
pub any_else_row : (p : List ℕ) (f : OstFid) (r j : ℕ) →
    list_any (λ k. is_somewhere (slot_from k (width (parse_parents p) k) 0 (names_else (parse_parents p) f r j))) (range_with_len 0 (length p / parent_size)) ≡ named_else (parse_parents p) f r j
unfolding named_else scan
any_else_row p f r j = rw (parsed_parents p) (any_place (width (parse_parents p)) (names_else (parse_parents p) f r j) (length p / parent_size) 0)
