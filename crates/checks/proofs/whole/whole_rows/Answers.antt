use Rattle.std.proofs.Common.{arith}
use Rattle.std.proofs.lemmas.Grind.{common_steps}
use Rattle.tables.specs.Check.{whole_rows}
use Rattle.checks.proofs.whole.whole_rows.Goals as goal

pub returns-then-size-n : goal.returns-then-size-n
unfolding whole_rows
returns-then-size-n c = grind (arith, common_steps)

pub returns-else-size-n : goal.returns-else-size-n
unfolding whole_rows
returns-else-size-n c = grind (arith, common_steps)
