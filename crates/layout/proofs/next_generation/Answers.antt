use Rattle.std.proofs.Common.{arith}
use Rattle.layout.specs.Layout.{next_generation}
use Rattle.layout.proofs.next_generation.Goals as goal

pub returns : goal.returns
unfolding next_generation
returns c = grind arith
