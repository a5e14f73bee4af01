use Rattle.std.proofs.Common.{rules, arith}
use Rattle.layout.specs.Layout.{good_header}
use Rattle.layout.proofs.good_header.Goals as goal

pub returns-then-known_pattern : goal.returns-then-known_pattern
unfolding good_header
returns-then-known_pattern c = grind arith

pub returns-else-known_pattern : goal.returns-else-known_pattern
unfolding good_header
returns-else-known_pattern c = search rules
