use Rattle.decide_objects.proofs.ObjectLaws.{owner_read}
use Rattle.decide_objects.proofs.file_owner.Goals as goal

pub returns : goal.returns
returns c = let d = c in owner_read d.args.parents.now d.args.r d.requires _ c.row_at.ensures.0 _ c.owner_of.ensures
