use Rattle.std.proofs.Common.{length-set, refl, arith}
use Rattle.wire.proofs.Splice.{stored_none, stored_next, stored_all_lem}
use Rattle.wire.proofs.put_bytes.Goals as goal

pub loop-i-init : goal.loop-i-init
loop-i-init c = (omega arith, refl, stored_none _ _ _)

pub loop-i-preserved : goal.loop-i-preserved
loop-i-preserved c =
    let i = c.loop-i.invariant in
    (omega arith, simp length-set i.1, stored_next _ _ _ _ _ _ i.2 (omega arith) refl)

pub returns : goal.returns
returns c = stored_all_lem _ _ _ _ _ c.loop-i.invariant.2 (omega arith)
