use Rattle.std.proofs.Common.{arith}
use Rattle.layout_write.specs.Writer.{given_from, names_given}
use Rattle.layout_write.proofs.given_from.Goals as goal

pub returns-then-is_zero_given : goal.returns-then-is_zero_given
unfolding given_from names_given
returns-then-is_zero_given c = grind arith

pub returns-then-k-ne1 : goal.returns-then-k-ne1
unfolding given_from names_given
returns-then-k-ne1 c = grind arith

pub returns-in_err-ok : goal.returns-in_err-ok
unfolding given_from names_given
returns-in_err-ok c = grind arith

pub returns-in_err-generation : goal.returns-in_err-generation
unfolding given_from names_given
returns-in_err-generation c = grind arith

pub returns-in_err-index : goal.returns-in_err-index
unfolding given_from names_given
returns-in_err-index c = grind arith

pub returns : goal.returns
unfolding given_from names_given
returns c = grind arith
