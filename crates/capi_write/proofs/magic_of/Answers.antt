use Rattle.std.proofs.Common.{arith}
use Rattle.capi_write.specs.Write.{magic_of, is_version}
use Rattle.capi_write.proofs.magic_of.Goals as goal

pub returns-in-1 : goal.returns-in-1
unfolding magic_of is_version
returns-in-1 c = grind arith

pub returns-in-3 : goal.returns-in-3
unfolding magic_of is_version
returns-in-3 c = grind arith

pub returns-in_default : goal.returns-in_default
unfolding magic_of is_version
returns-in_default c = grind arith
