use native.Mathlib.Omega.{arith}
use Rattle.wire.specs.Numbers.{Bytes}
use Rattle.stores.proofs.RowStores.{used_facts, row_start, row_count, grow_stores}
use Rattle.stores.proofs.parents.grow.Goals as goal

pub layout_of-l-requires : goal.layout_of-l-requires
layout_of-l-requires c = let f = used_facts _ c.requires.0 in (f.size, f.room)

pub read_header-h-requires : goal.read_header-h-requires
read_header-h-requires c = omega (arith, used_facts _ c.requires.0)

pub slot_start-start-requires : goal.slot_start-start-requires
slot_start-start-requires c = omega (arith, used_facts _ c.requires.0)

pub stripe_count-n-requires : goal.stripe_count-n-requires
stripe_count-n-requires c = omega (arith, used_facts _ c.requires.0)

pub overflow_add-size-2 : goal.overflow_add-size-2
overflow_add-size-2 c = omega (arith, c.requires.0.size, row_start _ _ _ c.requires.0 c.layout_of-l.ensures.0 c.slot_start-start.ensures, row_count _ _ _ c.layout_of-l.ensures.0 c.stripe_count-n.ensures)

pub overflow_cast-size : goal.overflow_cast-size
overflow_cast-size c = omega (arith, c.requires.0.size, row_start _ _ _ c.requires.0 c.layout_of-l.ensures.0 c.slot_start-start.ensures, row_count _ _ _ c.layout_of-l.ensures.0 c.stripe_count-n.ensures)

pub put-requires : goal.put-requires
put-requires c = omega (arith, c.requires.0.size, row_start _ _ _ c.requires.0 c.layout_of-l.ensures.0 c.slot_start-start.ensures, row_count _ _ _ c.layout_of-l.ensures.0 c.stripe_count-n.ensures)

pub put_header-requires : goal.put_header-requires
put_header-requires c = omega (arith, c.requires.0.size, row_start _ _ _ c.requires.0 c.layout_of-l.ensures.0 c.slot_start-start.ensures, row_count _ _ _ c.layout_of-l.ensures.0 c.stripe_count-n.ensures)

pub overflow_add-start : goal.overflow_add-start
overflow_add-start c = omega (arith, c.requires.0.size, row_start _ _ _ c.requires.0 c.layout_of-l.ensures.0 c.slot_start-start.ensures, row_count _ _ _ c.layout_of-l.ensures.0 c.stripe_count-n.ensures)

pub overflow_add-start-2 : goal.overflow_add-start-2
overflow_add-start-2 c = omega (arith, c.requires.0.size, row_start _ _ _ c.requires.0 c.layout_of-l.ensures.0 c.slot_start-start.ensures, row_count _ _ _ c.layout_of-l.ensures.0 c.stripe_count-n.ensures)

pub overflow_sub-i : goal.overflow_sub-i
overflow_sub-i c = omega (arith, c.requires.0.size, row_start _ _ _ c.requires.0 c.layout_of-l.ensures.0 c.slot_start-start.ensures, row_count _ _ _ c.layout_of-l.ensures.0 c.stripe_count-n.ensures)

pub put_holes-requires : goal.put_holes-requires
put_holes-requires c = omega (arith, c.requires.0.size, row_start _ _ _ c.requires.0 c.layout_of-l.ensures.0 c.slot_start-start.ensures, row_count _ _ _ c.layout_of-l.ensures.0 c.stripe_count-n.ensures)

pub overflow_add-start-3 : goal.overflow_add-start-3
overflow_add-start-3 c = omega (arith, c.requires.0.size, row_start _ _ _ c.requires.0 c.layout_of-l.ensures.0 c.slot_start-start.ensures, row_count _ _ _ c.layout_of-l.ensures.0 c.stripe_count-n.ensures)

pub overflow_add-start-4 : goal.overflow_add-start-4
overflow_add-start-4 c = omega (arith, c.requires.0.size, row_start _ _ _ c.requires.0 c.layout_of-l.ensures.0 c.slot_start-start.ensures, row_count _ _ _ c.layout_of-l.ensures.0 c.stripe_count-n.ensures)

pub put_slot-requires : goal.put_slot-requires
put_slot-requires c = omega (arith, c.requires.0.size, row_start _ _ _ c.requires.0 c.layout_of-l.ensures.0 c.slot_start-start.ensures, row_count _ _ _ c.layout_of-l.ensures.0 c.stripe_count-n.ensures)

pub returns : goal.returns
unfolding Bytes
returns c =
    let d = c in let a = d.args in
    grow_stores a.row.now (λ i. (c.slice_known-1.given i).fits) d.requires.0 a.i a.s d.requires.1 d.requires.2
    _ c.layout_of-l.ensures.0 _ c.read_header-h.ensures _ c.raised.ensures _ c.slot_start-start.ensures _ c.stripe_count-n.ensures
    _ _ _ _ c.put.ensures c.put_header.ensures c.put_holes.ensures c.put_slot.ensures
