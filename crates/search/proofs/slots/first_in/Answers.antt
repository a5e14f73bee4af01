use mathlib.Core.Path.{◌≡◌}
use native.Mathlib.Omega.{arith}
use Prim.Native.Nat.{◌*◌, ◌/◌}
use lib.ListN.{length, take, drop}
use Rattle.std.proofs.Common.{rules}
use Rattle.layout.specs.Slot.{slot_size, decode_slots, slot_of, slot_names}
use Rattle.tables.specs.Bytes.{parse_parents}
use Rattle.tables.specs.Positions.{slots_of, row_at}
use Rattle.tables.proofs.SoundLaws.{layout_at_lem}
use Rattle.rules.specs.Search.{row_from}
use Rattle.search.proofs.RowSearch.{first_chunk}
use Rattle.search.proofs.SlotArea.{area_of}
use Rattle.search.proofs.SlotSearch.{place_in, compared_in, found_at, found_after}
use Rattle.search.proofs.slots.first_in.Goals as goal
use Rattle.search.proofs.slots.first_in.Goals.{After-position-found}

pub slot_area-area-requires : goal.slot_area-area-requires
slot_area-area-requires c = (c.row_at.ensures.1, layout_at_lem c.args.parents.now _ c.args.r c.requires.0 c.requires.1 c.row_at.ensures.0)

area : (c : After-position-found) →
    let l = c.slot_area-area.result.now in
    slots_of (row_at (parse_parents c.args.parents.now) c.args.r) ≡ decode_slots (length l / 24) l
area c = area_of _ _ _ c.slot_area-area.result.now c.requires.1 c.row_at.ensures.0 c.slot_area-area.ensures

first : (c : After-position-found) → c.position-found.result ≡ row_from (length c.slot_area-area.result.now / 24) 0 (λ j. slot_names c.args.f (slot_of (take slot_size (drop (slot_size * j) c.slot_area-area.result.now)) 0))
first c = first_chunk (λ slot. slot_names c.args.f (slot_of slot 0)) _ _ _ c.position-found.ensures.ran (omega arith) c.chunks_exact.ensures.rest c.chunks_exact.ensures.size (λ x b q k. search rules)

pub returns-in-Some-clause-place : goal.returns-in-Some-clause-place
unfolding found_at
returns-in-Some-clause-place c = let d = (goal.at.returns-in-Some-clause-place c).After-position-found in rw c.in-Some.is at (place_in _ _ _ _ (area d) _ (first d))

pub returns-in-Some-clause-compared : goal.returns-in-Some-clause-compared
unfolding found_after
returns-in-Some-clause-compared c = let d = (goal.at.returns-in-Some-clause-compared c).After-position-found in rw c.in-Some.is at (compared_in _ _ _ _ (area d) _ (first d))

pub returns-in-None-clause-place : goal.returns-in-None-clause-place
unfolding found_at
returns-in-None-clause-place c = let d = (goal.at.returns-in-None-clause-place c).After-position-found in rw c.in-None.is at (place_in _ _ _ _ (area d) _ (first d))

pub returns-in-None-clause-compared : goal.returns-in-None-clause-compared
unfolding found_after
returns-in-None-clause-compared c = let d = (goal.at.returns-in-None-clause-compared c).After-position-found in rw c.in-None.is at (compared_in _ _ _ _ (area d) _ (first d))
