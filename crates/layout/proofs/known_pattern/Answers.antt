use Rattle.std.proofs.Common.{rules, arith}
use Rattle.layout.specs.Layout.{known_pattern}
use Rattle.layout.proofs.known_pattern.Goals as goal

pub returns-then-h-eq-PLAIN_PATTERN : goal.returns-then-h-eq-PLAIN_PATTERN
unfolding known_pattern
returns-then-h-eq-PLAIN_PATTERN c = search rules

pub returns-else-h-eq-PLAIN_PATTERN : goal.returns-else-h-eq-PLAIN_PATTERN
unfolding known_pattern
returns-else-h-eq-PLAIN_PATTERN c = grind arith
