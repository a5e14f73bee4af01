use Rattle.std.proofs.Common.{◌∙◌}
use Rattle.fid.proofs.SameLaws.{eq_same}
use Rattle.names.specs.Rows.{is_none}
use Rattle.fid.specs.Fid.{zero_fid}
use Rattle.names.proofs.rows.is_none.Goals as goal

pub returns : goal.returns
unfolding is_none zero_fid
returns c = c.eq.ensures ∙ eq_same _ _
