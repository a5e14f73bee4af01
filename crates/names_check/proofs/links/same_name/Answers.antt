use Rattle.std.proofs.Common.{◌∙◌}
use Rattle.names_check.proofs.LinkLaws.{same_is}
use Rattle.names_check.proofs.links.same_name.Goals as goal

pub returns : goal.returns
returns c = c.eq.ensures ∙ same_is c.args.a.now c.args.b.now
