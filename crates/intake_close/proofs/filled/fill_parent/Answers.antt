use native.Mathlib.Omega.{arith}
use Rattle.intake_close.proofs.FillLaws.{parent_in}
use Rattle.intake_close.proofs.filled.fill_parent.Goals as goal

pub returns : goal.returns
returns c =
    let p = c in let a = p.args in
    parent_in a.parents.now a.buf.now a.size a.r a.w _ (omega arith) (omega arith) (omega arith) c.put_parent.ensures
