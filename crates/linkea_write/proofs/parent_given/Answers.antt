use Rattle.std.proofs.Common.{arith}
use Rattle.linkea_write.specs.Writer.{wide_parent, parent_given, number_of}
use Rattle.linkea_write.proofs.parent_given.Goals as goal

pub returns-in_err-ok : goal.returns-in_err-ok
unfolding wide_parent parent_given number_of
returns-in_err-ok c = grind arith

pub returns-in_err-ok-2 : goal.returns-in_err-ok-2
unfolding wide_parent parent_given number_of
returns-in_err-ok-2 c = grind arith

pub returns : goal.returns
unfolding wide_parent parent_given number_of
returns c = grind arith
