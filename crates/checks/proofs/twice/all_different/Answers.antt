use Rattle.std.proofs.Common.{arith}
use Rattle.std.proofs.lemmas.Grind.{common_steps}
use Rattle.tables.specs.Bytes.{parent_rows, object_rows}
use Rattle.tables.specs.Check.{all_different}
use Rattle.checks.proofs.twice.all_different.Goals as goal

pub returns-then-none_twice : goal.returns-then-none_twice
unfolding all_different parent_rows object_rows
returns-then-none_twice c = grind (arith, common_steps)

pub returns-else-none_twice : goal.returns-else-none_twice
unfolding all_different parent_rows object_rows
returns-else-none_twice c = grind (arith, common_steps)
