use Rattle.std.proofs.lemmas.Result.{err_from_is_err_and}
use Rattle.capi_tables.proofs.TableNumbers.{start_none, start_short, start_done}
use Rattle.capi_tables.proofs.start.Goals as goal

pub returns-in_err-at : goal.returns-in_err-at
returns-in_err-at c =
    let p = err_from_is_err_and c.from_residual.result c.from_residual.ensures.1 in
    let whole = start_none _ _ _ c.in_err-at.ensures in
    record { answer = rw (p.1, p.2) whole.0; position = whole.1 }

pub returns-then-position-lt3 : goal.returns-then-position-lt3
returns-then-position-lt3 c =
    let whole = start_short _ _ _ c.in_ok-at.ensures c.if-position-lt3.true in
    record { answer = whole.0; position = whole.1 }

pub returns : goal.returns
returns c =
    let whole = start_done _ _ _ c.in_ok-at.ensures _ c.if-position-lt3.false c.put_position.ensures in
    record { answer = whole.0; position = whole.1 }
