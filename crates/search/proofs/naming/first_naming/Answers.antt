use mathlib.Core.Path.{◌≡◌, refl, ◌∙◌}
use native.Mathlib.Omega.{arith}
use Prim.Native.Nat.{◌/◌}
use lib.ListN.{length}
use Rattle.layout.specs.Slot.{decode_slots}
use Rattle.tables.specs.Bytes.{parse_parents}
use Rattle.tables.specs.Positions.{slots_of, row_at}
use Rattle.tables.proofs.SoundLaws.{layout_at_lem}
use Rattle.rules.specs.Rows.{names_at}
use Rattle.search.proofs.PlaceSearch.{place_none, enter, leave, again, stop}
use Rattle.search.proofs.SlotArea.{area_width, area_of}
use Rattle.search.proofs.NamingLaws.{scan_start, area_names}
use Rattle.search.proofs.CountLaws.{all_fit_lem, slot_fits, slot_counted, slot_passed, row_count_start, row_enters, row_leaves, rows_passed}
use Rattle.search.proofs.naming.first_naming.Goals as goal
use Rattle.search.proofs.naming.first_naming.Goals.{After-names_at, After-slot_area-area}

-- the slots of row r lie in the area
area : (c : goal.After-slot_area-area) →
    let l = c.slot_area-area.result.now in
    slots_of (row_at (parse_parents c.args.parents.now) c.rows.r) ≡ decode_slots (length l / 24) l
area c = area_of _ _ _ c.slot_area-area.result.now (omega arith) c.row_at.ensures.0 c.slot_area-area.ensures

-- slot j names the object or not, as its bytes say
named : (c : goal.After-names_at) →
    let d = c in
    names_at (parse_parents d.args.parents.now) d.args.f d.rows.r c.loop-j.j ≡ c.names_at.result
named c = area_names _ _ _ _ ((area_of _ _ _ c.slot_area-area.result.now (omega arith) c.row_at.ensures.0 c.slot_area-area.ensures)) _ _ _ _ (omega arith) refl c.names_at.ensures

pub rows-init : goal.rows-init
rows-init c = (refl, scan_start _ _, row_count_start _ _)

pub slot_area-area-requires : goal.slot_area-area-requires
slot_area-area-requires c = (c.row_at.ensures.1, layout_at_lem c.args.parents.now _ c.rows.r c.requires (omega arith) c.row_at.ensures.0)

pub loop-j-init : goal.loop-j-init
loop-j-init c =
    let i = c.rows.invariant in
    (i.0, enter _ _ _ _ _ _ i.1 (omega arith) (area_width _ _ _ _ (area c)), row_enters _ _ _ _ _ i.2 (omega arith))

pub overflow_add-compared : goal.overflow_add-compared
overflow_add-compared c =
    let d = c in
    omega (arith, slot_fits _ _ _ _ (area_width _ _ _ _ (area (goal.at.overflow_add-compared c).After-slot_area-area)) _ _ _ _ c.loop-j.invariant.2 (omega arith), all_fit_lem d.args.parents.now d.requires d.args.f)

pub loop-j-preserved : goal.loop-j-preserved
loop-j-preserved c =
    let i = c.loop-j.invariant in
    let t = named (goal.at.loop-j-preserved c).After-names_at ∙ c.if-names_at.false in
    (i.0, again _ _ _ _ _ _ _ i.1 (omega arith) t, slot_passed _ _ _ _ (area_width _ _ _ _ (area (goal.at.loop-j-preserved c).After-slot_area-area)) _ _ _ _ i.2 (omega arith) t)

pub rows-preserved : goal.rows-preserved
rows-preserved c =
    let i = c.loop-j.invariant in
    (i.0, leave _ _ _ _ _ _ _ i.1 (omega arith), row_leaves _ _ _ _ (area_width _ _ _ _ (area (goal.at.rows-preserved c).After-slot_area-area)) _ _ _ i.2 (omega arith))

pub returns-after-rows : goal.returns-after-rows
returns-after-rows c =
    let i = c.rows.invariant in
    record {
      place = i.0 ∙ place_none _ _ _ _ _ i.1 (omega arith);
      compared = rows_passed _ _ _ _ _ i.2 (omega arith);
    }

pub returns-then-names_at : goal.returns-then-names_at
returns-then-names_at c =
    let i = c.loop-j.invariant in
    let t = named (goal.at.returns-then-names_at c).After-names_at ∙ c.if-names_at.true in
    record {
      place = stop _ _ _ _ _ _ _ i.1 (omega arith) t;
      compared = slot_counted _ _ _ _ (area_width _ _ _ _ (area (goal.at.returns-then-names_at c).After-slot_area-area)) _ _ _ _ i.2 (omega arith) t;
    }
