use native.Mathlib.Omega.{arith}
use Rattle.layout.specs.Layout.{encode_header}
use Rattle.layout.proofs.HeaderLaws.{length_header}
use Rattle.stores.proofs.StoreLaws.{part_over}
use Rattle.stores.proofs.pieces.put_header.Goals as goal

pub returns : goal.returns
returns c = let a = c.args in part_over a.at 32 a.row.now (encode_header a.h a.count) _ c.write_header.ensures (length_header a.h a.count) (omega arith)
