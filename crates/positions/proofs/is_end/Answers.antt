use Rattle.std.proofs.Common.{arith}
use Rattle.std.proofs.lemmas.Grind.{common_steps}
use Rattle.tables.specs.Positions.{is_end}
use Rattle.positions.proofs.is_end.Goals as goal

pub returns-then-at-eq0 : goal.returns-then-at-eq0
unfolding is_end
returns-then-at-eq0 c = grind (arith, common_steps)

pub returns-else-at-eq0 : goal.returns-else-at-eq0
unfolding is_end
returns-else-at-eq0 c = grind (arith, common_steps)
