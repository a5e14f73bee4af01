use Rattle.std.proofs.lemmas.Result.{err_from_is_err_and}
use Rattle.capi_tables.proofs.TableNumbers.{steps_none, steps_short, steps_done}
use Rattle.capi_tables.proofs.steps.Goals as goal

pub returns-in_err-count : goal.returns-in_err-count
returns-in_err-count c =
    let p = err_from_is_err_and c.from_residual.result c.from_residual.ensures.1 in
    let whole = steps_none _ _ _ c.in_err-count.ensures in
    record { answer = rw (p.1, p.2) whole.0; out = whole.1 }

pub returns-then-out-lt1 : goal.returns-then-out-lt1
returns-then-out-lt1 c =
    let whole = steps_short _ _ _ c.in_ok-count.ensures c.if-out-lt1.true in
    record { answer = whole.0; out = whole.1 }

pub returns : goal.returns
returns c =
    let whole = steps_done _ _ _ c.in_ok-count.ensures _ c.if-out-lt1.false c.put.ensures in
    record { answer = whole.0; out = whole.1 }
