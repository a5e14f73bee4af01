use native.Mathlib.Omega.{arith}
use Rattle.intake_close.proofs.FillLaws.{parent_put}
use Rattle.intake_close.proofs.filled.put_parent.Goals as goal

pub returns : goal.returns
returns c =
    let p = c in let a = p.args in
    parent_put a.buf.now a.row.now a.size a.w _ _ _ _ _ (omega arith) (omega arith) (omega arith)
    c.put_byte.ensures c.put_bytes.ensures c.put_owner.ensures c.put.ensures c.put_bytes-2.ensures
