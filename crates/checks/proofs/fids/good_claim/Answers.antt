use Rattle.std.proofs.Common.{arith}
use Rattle.std.proofs.lemmas.Grind.{common_steps}
use Rattle.tables.specs.Bytes.{claimed_fid}
use Rattle.tables.specs.Check.{good_claim}
use Rattle.checks.proofs.fids.good_claim.Goals as goal

pub returns-then-is_zero : goal.returns-then-is_zero
unfolding good_claim claimed_fid
returns-then-is_zero c = grind (arith, common_steps)

pub returns-else-is_zero : goal.returns-else-is_zero
unfolding good_claim claimed_fid
returns-else-is_zero c = grind (arith, common_steps)
