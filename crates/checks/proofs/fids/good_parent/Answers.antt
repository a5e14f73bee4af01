use Rattle.std.proofs.Common.{arith}
use Rattle.std.proofs.lemmas.Grind.{common_steps}
use Rattle.fid.specs.Fid.{good_file}
use Rattle.tables.specs.Check.{when_used, good_parent}
use Rattle.checks.proofs.fids.good_parent.Goals as goal

pub returns-then-not-is_used : goal.returns-then-not-is_used
unfolding when_used good_parent good_file
returns-then-not-is_used c = grind (arith, common_steps)

pub returns-else-not-is_used : goal.returns-else-not-is_used
unfolding when_used good_parent good_file
returns-else-not-is_used c = grind (arith, common_steps)
