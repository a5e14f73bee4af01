use Rattle.std.proofs.Common.{◌∙◌}
use Rattle.fid.proofs.SameLaws.{eq_same}
use Rattle.names.specs.Findings.{same}
use Rattle.names.specs.Visible.{root, is_root}
use Rattle.names_judge.proofs.climb.is_root.Goals as goal

pub returns : goal.returns
unfolding is_root same root
returns c = c.eq.ensures ∙ eq_same _ _
