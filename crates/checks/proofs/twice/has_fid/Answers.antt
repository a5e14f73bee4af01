use Rattle.std.proofs.Common.{arith}
use Rattle.std.proofs.lemmas.Grind.{common_steps}
use Rattle.fid.specs.Fid.{same_fid, decode_fid}
use Rattle.tables.specs.Bytes.{is_used, self_fid}
use Rattle.tables.specs.Check.{is_row_of}
use Rattle.checks.proofs.twice.has_fid.Goals as goal

pub returns-then-get-f-3 : goal.returns-then-get-f-3
unfolding is_row_of is_used self_fid same_fid decode_fid
returns-then-get-f-3 c = grind (arith, common_steps)

pub returns-else-get-f-3 : goal.returns-else-get-f-3
unfolding is_row_of is_used self_fid same_fid decode_fid
returns-else-get-f-3 c = grind (arith, common_steps)
