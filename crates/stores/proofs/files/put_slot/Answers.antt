use Rattle.wire.specs.Numbers.{Bytes}
use Rattle.stores.proofs.FileLaws.{part_used, part_inside, slot_part}
use Rattle.stores.proofs.files.put_slot.Goals as goal

pub put_slot-requires : goal.put_slot-requires
put_slot-requires c = let d = c in (part_used d.args.parents.now d.args.r d.requires.0, part_inside d.args.parents.now d.args.r d.args.j d.requires.1)

pub returns : goal.returns
unfolding Bytes
returns c = let d = c in let a = d.args in slot_part a.parents.now a.r a.j a.s _ (λ i. (c.slice_known-1.given i).fits) d.requires.0 d.requires.1 c.put_slot.ensures
