use Rattle.std.proofs.Common.{rules, arith}
use Rattle.layout.specs.Layout.{possible_stripe}
use Rattle.layout.proofs.possible_stripe.Goals as goal

pub returns-then-size-gt0 : goal.returns-then-size-gt0
unfolding possible_stripe
returns-then-size-gt0 c = grind arith

pub returns-else-size-gt0 : goal.returns-else-size-gt0
unfolding possible_stripe
returns-else-size-gt0 c = search rules
