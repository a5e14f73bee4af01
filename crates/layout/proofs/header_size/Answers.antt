use Rattle.std.proofs.Common.{arith}
use Rattle.layout.specs.Layout.{header_size}
use Rattle.layout.proofs.header_size.Goals as goal

pub returns-then-magic-eq-MAGIC_THREE : goal.returns-then-magic-eq-MAGIC_THREE
unfolding header_size
returns-then-magic-eq-MAGIC_THREE c = grind arith

pub returns-else-magic-eq-MAGIC_THREE : goal.returns-else-magic-eq-MAGIC_THREE
unfolding header_size
returns-else-magic-eq-MAGIC_THREE c = grind arith
