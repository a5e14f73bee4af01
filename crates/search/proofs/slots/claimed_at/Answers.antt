use mathlib.Core.Path.{◌≡◌, refl, ◌∙◌}
use native.Mathlib.Omega.{arith}
use Prim.Native.Nat.{◌/◌}
use lib.ListN.{length}
use Rattle.layout.specs.Slot.{decode_slots}
use Rattle.tables.specs.Bytes.{parse_parents}
use Rattle.tables.specs.Positions.{slots_of, row_at}
use Rattle.tables.proofs.SoundLaws.{layout_at_lem}
use Rattle.search.proofs.SlotArea.{area_of, area_width}
use Rattle.search.proofs.NamingLaws.{area_names}
use Rattle.search.proofs.CountLaws.{claimed_past, claimed_hit, claimed_miss}
use Rattle.search.proofs.slots.claimed_at.Goals as goal
use Rattle.search.proofs.slots.claimed_at.Goals.{After-slot_area-area}

-- the slots of row r lie in the area
area : (c : goal.After-slot_area-area) →
    let l = c.slot_area-area.result.now in
    slots_of (row_at (parse_parents c.args.parents.now) c.args.r) ≡ decode_slots (length l / 24) l
area c = area_of _ _ _ c.slot_area-area.result.now c.requires.1 c.row_at.ensures.0 c.slot_area-area.ensures

pub slot_area-area-requires : goal.slot_area-area-requires
slot_area-area-requires c = (c.row_at.ensures.1, layout_at_lem c.args.parents.now _ c.args.r c.requires.0 c.requires.1 c.row_at.ensures.0)

pub returns-then-area-j : goal.returns-then-area-j
returns-then-area-j c = let whole = claimed_past _ _ _ _ _ (area_width _ _ _ _ (area (goal.at.returns-then-area-j c).After-slot_area-area)) (omega arith) in
    record { place = whole.0; compared = whole.1 }

pub returns-then-names_at : goal.returns-then-names_at
returns-then-names_at c =
    let e = area (goal.at.returns-then-names_at c).After-slot_area-area in
    let whole = claimed_hit _ _ _ _ _ (area_width _ _ _ _ e) (omega arith)
    (area_names _ _ _ _ e _ _ _ _ (omega arith) refl c.names_at.ensures ∙ c.if-names_at.true) in
    record { place = whole.0; compared = whole.1 }

pub returns : goal.returns
returns c =
    let e = area (goal.at.returns c).After-slot_area-area in
    let whole = claimed_miss _ _ _ _ _ (area_width _ _ _ _ e) (omega arith)
    (area_names _ _ _ _ e _ _ _ _ (omega arith) refl c.names_at.ensures ∙ c.if-names_at.false) in
    record { place = whole.0; compared = whole.1 }
