use Rattle.std.proofs.Common.{arith}
use Rattle.layout_write.specs.Writer.{is_slot, slot_given}
use Rattle.layout_write.proofs.allowed_given.Goals as goal

pub returns : goal.returns
unfolding is_slot slot_given
returns c = grind arith
