use native.Mathlib.Omega.{arith}
use Rattle.intake_close.proofs.FillLaws.{object_put}
use Rattle.intake_close.proofs.filled.put_object.Goals as goal

pub returns : goal.returns
returns c =
    let p = c in let a = p.args in
    object_put a.buf.now a.row.now a.w a.index _ _ _ _ _ _ (omega arith) (omega arith)
    c.put_byte.ensures c.put_bytes.ensures c.put.ensures c.put_owner.ensures c.put_bytes-2.ensures c.put_byte-2.ensures
