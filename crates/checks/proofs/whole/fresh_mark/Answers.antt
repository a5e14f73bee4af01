use Rattle.std.proofs.Common.{arith}
use Rattle.std.proofs.lemmas.Grind.{common_steps}
use Rattle.tables.specs.Check.{when_used, fresh_mark, is_mark}
use Rattle.checks.proofs.whole.fresh_mark.Goals as goal

pub returns-then-not-is_used : goal.returns-then-not-is_used
unfolding when_used fresh_mark is_mark
returns-then-not-is_used c = grind (arith, common_steps)

pub returns-else-not-is_used : goal.returns-else-not-is_used
unfolding when_used fresh_mark is_mark
returns-else-not-is_used c = grind (arith, common_steps)
