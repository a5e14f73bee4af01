use Rattle.std.proofs.Common.{arith}
use Rattle.layout_write.specs.Writer.{slot_given}
use Rattle.layout_write.proofs.put_given.Goals as goal

pub returns : goal.returns
unfolding slot_given
returns c = grind arith
