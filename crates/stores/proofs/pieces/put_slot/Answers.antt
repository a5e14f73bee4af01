use native.Mathlib.Omega.{arith}
use Rattle.layout.specs.Slot.{encode_slot}
use Rattle.layout.proofs.SlotLaws.{length_slot}
use Rattle.stores.proofs.StoreLaws.{part_whole}
use Rattle.stores.proofs.pieces.put_slot.Goals as goal

pub returns : goal.returns
returns c = let a = c.args in part_whole a.at 24 a.row.now (encode_slot a.s) _ c.put_slot.ensures (length_slot a.s) (omega arith)
