use native.Mathlib.Omega.{arith}
use Rattle.wire.specs.Numbers.{Bytes}
use Rattle.stores.proofs.RowStores.{used_facts, part_layout, slot_back}
use Rattle.stores.proofs.parents.put_slot.Goals as goal

pub slice_bounds-change_slot-end : goal.slice_bounds-change_slot-end
slice_bounds-change_slot-end c = omega (arith, used_facts _ c.requires.0, c.layout_len.ensures)

pub change_slot-requires : goal.change_slot-requires
change_slot-requires c =
    let t = c in
    let d = t in
    part_layout d.args.row.now _ d.args.j d.requires.0 t.layout_len.ensures d.requires.1

pub returns : goal.returns
unfolding Bytes
returns c =
    let w = c in
    let t = w in
    let k = t in
    let d = k in
    slot_back d.args.row.now (λ i. (k.slice_known-1.given i).fits) d.requires.0 d.args.j d.args.s d.requires.1 _ _ t.layout_len.ensures w.change_slot.ensures
