use Rattle.std.proofs.Common.{arith}
use Rattle.layout.specs.Layout.{raised, at_generation}
use Rattle.layout.proofs.raised.Goals as goal

pub returns : goal.returns
unfolding raised at_generation
returns c = grind arith
