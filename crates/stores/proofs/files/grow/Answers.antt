use Rattle.wire.specs.Numbers.{Bytes}
use Rattle.stores.proofs.FileLaws.{part_used, part_past, grow_part}
use Rattle.stores.proofs.files.grow.Goals as goal

pub grow-requires : goal.grow-requires
grow-requires c = let d = c in (part_used d.args.parents.now d.args.r d.requires.0, part_past d.args.parents.now d.args.r d.args.i d.requires.1, d.requires.2)

pub returns : goal.returns
unfolding Bytes
returns c = let d = c in let a = d.args in grow_part a.parents.now a.r a.i a.s _ (λ i. (c.slice_known-1.given i).fits) d.requires.0 d.requires.1 d.requires.2 c.grow.ensures
