use Rattle.std.proofs.lemmas.Result.{err_from_is_err_and}
use Rattle.tables.specs.Positions.{place}
use Rattle.capi_class.proofs.ClassLaws.{class_none, class_short, class_done}
use Rattle.capi_class.proofs.class_at.Goals as goal

pub returns-in_err-class : goal.returns-in_err-class
unfolding place
returns-in_err-class c =
    let p = err_from_is_err_and c.from_residual.result c.from_residual.ensures.1 in
    let whole = class_none _ _ _ c.in_err-class.ensures in
    record { answer = rw (p.1, p.2) whole.0; out = whole.1 }

pub returns-then-out-lt-CLASS_SIZE : goal.returns-then-out-lt-CLASS_SIZE
unfolding place
returns-then-out-lt-CLASS_SIZE c =
    let whole = class_short _ _ _ c.in_ok-class.ensures c.if-out-lt-CLASS_SIZE.true in
    record { answer = whole.0; out = whole.1 }

pub returns : goal.returns
unfolding place
returns c =
    let whole = class_done _ _ _ c.in_ok-class.ensures _ c.if-out-lt-CLASS_SIZE.false c.put_class.ensures in
    record { answer = whole.0; out = whole.1 }
