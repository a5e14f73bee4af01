use Rattle.std.proofs.Common.{arith}
use Rattle.layout.specs.Layout.{decode_header}
use Rattle.layout.proofs.read_header.Goals as goal

pub returns : goal.returns
unfolding decode_header
returns c = grind arith
