use Rattle.names_judge.proofs.DirectoryLaws.{its_self}
use Rattle.names_judge.proofs.listing.self_at.Goals as goal

pub returns : goal.returns
returns c = its_self c.args.children.now c.args.r _ _ c.requires c.row_at.ensures.0 c.self_of.ensures
