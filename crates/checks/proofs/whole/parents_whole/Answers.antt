use Rattle.std.proofs.Common.{arith}
use Rattle.std.proofs.lemmas.Grind.{common_steps}
use Rattle.tables.specs.Bytes.{parent_rows}
use Rattle.tables.specs.Check.{parents_whole}
use Rattle.checks.proofs.whole.parents_whole.Goals as goal

pub returns-then-whole_rows : goal.returns-then-whole_rows
unfolding parents_whole parent_rows
returns-then-whole_rows c = grind (arith, common_steps)

pub returns-else-whole_rows : goal.returns-else-whole_rows
unfolding parents_whole parent_rows
returns-else-whole_rows c = grind (arith, common_steps)
