-- The slot area of a parent row: its slots are the row's slots. Assumes nothing.
use mathlib.Core.Path.{◌≡◌, refl, sym, ◌∙◌}
use mathlib.Core.List.{List, []}
use mathlib.Core.Bool.{true, false}
use Prim.Native.Nat.{ℕ, ◌+◌, ◌-◌, ◌*◌, ◌/◌, ◌≤◌, ◌<◌}
use native.Mathlib.Omega.{arith}
use lib.ListN.{length, take, drop, length-drop, get_or-eq_default}
use Rattle.wire.proofs.Splice.{drop_take_all}
use Rattle.layout.specs.Slot.{slot_of, decode_slots}
use Rattle.layout.specs.Layout.{stripe_count, slot_start, accepted_layout}
use Rattle.layout.specs.declared.Slot.{Slot}
use Rattle.layout.specs.declared.Slot.TheVariants.{Hole}
use Rattle.layout.proofs.SlotLaws.{length_slots, slots_at}
use Rattle.layout.proofs.LayoutLaws.{slots_are, accepted_size}
use Rattle.tables.specs.Records.{ParentRow}
use Rattle.tables.specs.Bytes.{parent_size, is_used, layout_bytes, decode_parent, parse_parent, parse_row, parse_parents}
use Rattle.tables.specs.Positions.{slots_of, row_at, width}
use Rattle.tables.proofs.PositionLaws.{parsed_row}
use Rattle.rules.specs.Rows.{slot_at}

-- the slots of a row lie in an area of whole slots
abbrev pub Area : List ℕ → List ℕ → Type 0
Area row area = (slots_of (parse_parent row) ≡ decode_slots (length area / 24) area) × (24 * (length area / 24) ≡ length area)

pub area_unused : (row : List ℕ) → is_used row ≡ false → Area row []
unfolding parse_parent slots_of decode_slots parse_row
area_unused row h = (rw h, refl)

pub area_used : (row l : List ℕ) (start : ℕ) → is_used row ≡ true → l ≡ layout_bytes row → accepted_layout l ≡ true → start ≡ slot_start l →
    Area row (take (length l - start) (drop start l))
unfolding parse_parent slots_of decode_parent parse_row decode_slots stripe_count
area_used row l start u e a s =
    let n : ℕ = stripe_count l in
    let z : length l ≡ start + 24 * n = accepted_size l start n a s refl in
    let w : length (drop start l) ≡ 24 * n = length-drop start l ∙ omega arith in
    let k : length (drop start l) / 24 ≡ n = omega arith in
    rw (drop_take_all start l, k, u, ← e) (slots_are l ∙ rw (← s), omega arith)

-- ## The row's slots, as they are read from the area

module _ (ps : List ParentRow) (r n : ℕ) (area : List ℕ) (e : slots_of (row_at ps r) ≡ decode_slots n area) where
  pub area_width : n ≡ width ps r
  unfolding width
  area_width = rw e (sym (length_slots n area))

  pub area_slot : (j : ℕ) (s : Slot) → j < n → s ≡ slot_of area j → s ≡ slot_at ps r j
  unfolding slot_at
  area_slot j s h q = rw (e, slots_at n j area Hole h) q

  pub area_past : (j : ℕ) → n ≤ j → Hole ≡ slot_at ps r j
  unfolding slot_at
  area_past j h = rw e (sym (get_or-eq_default (decode_slots n area) Hole (rw (length_slots n area) h)))

-- the area of row r of the bytes
pub area_of : (p : List ℕ) (r : ℕ) (row area : List ℕ) → r < length p / parent_size → row ≡ take parent_size (drop (parent_size * r) p) → Area row area →
    slots_of (row_at (parse_parents p) r) ≡ decode_slots (length area / 24) area
area_of p r row area h at a = rw (parsed_row p r h, ← at) a.0
