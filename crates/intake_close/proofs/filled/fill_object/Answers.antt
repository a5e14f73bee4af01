use native.Mathlib.Omega.{arith}
use Rattle.intake_close.proofs.FillLaws.{object_in_lem}
use Rattle.intake_close.proofs.filled.fill_object.Goals as goal

pub returns : goal.returns
returns c =
    let p = c in let a = p.args in
    object_in_lem a.objects.now a.buf.now a.r a.index a.w _ (omega arith) (omega arith) c.put_object.ensures
