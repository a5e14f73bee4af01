use Rattle.std.proofs.Common.{rules, arith}
use Rattle.layout_write.specs.Writer.{zero_given}
use Rattle.layout_write.proofs.is_zero_given.Goals as goal

pub returns-then-g-eq0 : goal.returns-then-g-eq0
unfolding zero_given
returns-then-g-eq0 c = grind arith

pub returns-else-g-eq0 : goal.returns-else-g-eq0
unfolding zero_given
returns-else-g-eq0 c = search rules
