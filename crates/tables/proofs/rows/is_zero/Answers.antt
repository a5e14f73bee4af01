use Rattle.std.proofs.Common.{◌∙◌}
use Rattle.fid.proofs.SameLaws.{eq_same}
use Rattle.fid.specs.Fid.{zero_fid}
use Rattle.tables.proofs.rows.is_zero.Goals as goal

pub returns : goal.returns
unfolding zero_fid
returns c = c.eq.ensures ∙ eq_same _ _
