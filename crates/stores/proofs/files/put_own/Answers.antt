use Rattle.wire.specs.Numbers.{Bytes}
use Rattle.stores.proofs.FileLaws.{part_used, own_part}
use Rattle.stores.proofs.files.put_own.Goals as goal

pub put_own-requires : goal.put_own-requires
put_own-requires c = let d = c in part_used d.args.parents.now d.args.r d.requires

pub returns : goal.returns
unfolding Bytes
returns c = let d = c in let a = d.args in own_part a.parents.now a.r _ (λ i. (c.slice_known-1.given i).fits) d.requires c.put_own.ensures
