use Rattle.std.proofs.Common.{rules, arith}
use Rattle.layout.specs.Slot.{zero_slot}
use Rattle.layout.proofs.is_zero_slot.Goals as goal

pub returns-then-g-eq0 : goal.returns-then-g-eq0
unfolding zero_slot
returns-then-g-eq0 c = grind arith

pub returns-else-g-eq0 : goal.returns-else-g-eq0
unfolding zero_slot
returns-else-g-eq0 c = search rules
