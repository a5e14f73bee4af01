use Rattle.std.proofs.Common.{rules, arith}
use Rattle.layout.specs.Layout.{known_version}
use Rattle.layout.proofs.known_version.Goals as goal

pub returns-then-h-eq-MAGIC_ONE : goal.returns-then-h-eq-MAGIC_ONE
unfolding known_version
returns-then-h-eq-MAGIC_ONE c = grind arith

pub returns-else-h-eq-MAGIC_ONE : goal.returns-else-h-eq-MAGIC_ONE
unfolding known_version
returns-else-h-eq-MAGIC_ONE c = search rules
