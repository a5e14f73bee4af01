use Rattle.std.proofs.Common.{arith}
use Rattle.std.proofs.lemmas.Grind.{common_steps}
use Rattle.tables.specs.Bytes.{claimed_fid}
use Rattle.tables.specs.Check.{fresh_claims}
use Rattle.checks.proofs.fids.fresh_claims.Goals as goal

pub returns-then-row-ne1 : goal.returns-then-row-ne1
unfolding fresh_claims claimed_fid
returns-then-row-ne1 c = grind (arith, common_steps)

pub returns-else-row-ne1 : goal.returns-else-row-ne1
unfolding fresh_claims claimed_fid
returns-else-row-ne1 c = grind (arith, common_steps)
