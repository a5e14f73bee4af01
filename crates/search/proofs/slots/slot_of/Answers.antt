use mathlib.Core.Path.{◌≡◌}
use native.Mathlib.Omega.{arith}
use Prim.Native.Nat.{◌/◌}
use lib.ListN.{length}
use Rattle.layout.specs.Slot.{decode_slots}
use Rattle.tables.specs.Bytes.{parse_parents}
use Rattle.tables.specs.Positions.{slots_of, row_at}
use Rattle.tables.proofs.SoundLaws.{layout_at_lem}
use Rattle.search.proofs.SlotArea.{area_of, area_slot, area_past}
use Rattle.search.proofs.slots.slot_of.Goals as goal
use Rattle.search.proofs.slots.slot_of.Goals.{After-slot_area-area}

-- the slots of row r lie in the area
area : (c : goal.After-slot_area-area) →
    let l = c.slot_area-area.result.now in
    slots_of (row_at (parse_parents c.args.parents.now) c.args.r) ≡ decode_slots (length l / 24) l
area c = area_of _ _ _ c.slot_area-area.result.now c.requires.1 c.row_at.ensures.0 c.slot_area-area.ensures

pub slot_area-area-requires : goal.slot_area-area-requires
slot_area-area-requires c = (c.row_at.ensures.1, layout_at_lem c.args.parents.now _ c.args.r c.requires.0 c.requires.1 c.row_at.ensures.0)

pub returns-then-area-j : goal.returns-then-area-j
returns-then-area-j c = area_past _ _ _ _ (area (goal.at.returns-then-area-j c).After-slot_area-area) _ (omega arith)

pub returns : goal.returns
returns c = area_slot _ _ _ _ (area (goal.at.returns c).After-slot_area-area) _ _ (omega arith) c.slot_at.ensures
