use native.Mathlib.Omega.{arith}
use Rattle.classify_places.proofs.PlaceLaws.{row_slot, row_grows, row_full}
use Rattle.classify_places.proofs.places.row_way.Goals as goal

pub returns-then-j-width : goal.returns-then-j-width
returns-then-j-width c =
    let a = c.args in
    row_slot a.parents.now a.objects.now a.place a.r _ c.width.ensures (omega arith) _ _ c.slot_of-s.ensures c.slot_way.ensures

pub returns-then-holes_in : goal.returns-then-holes_in
returns-then-holes_in c =
    let a = c.args in
    row_grows a.parents.now a.objects.now a.place a.r _ c.width.ensures (omega arith) _ c.holes_in.ensures c.if-holes_in.true

pub returns-else-holes_in : goal.returns-else-holes_in
returns-else-holes_in c =
    let a = c.args in
    row_full a.parents.now a.objects.now a.place a.r _ c.width.ensures (omega arith) _ c.holes_in.ensures c.if-holes_in.false
