use Rattle.std.proofs.Common.{sym}
use Rattle.std.proofs.lemmas.Result.{err_from_is_err_and}
use Rattle.capi_link.proofs.LinkNumbers.{record_bad, record_short, record_done}
use Rattle.capi_link.proofs.link_record.Goals as goal

pub returns-in_err-x : goal.returns-in_err-x
returns-in_err-x c =
    let p = err_from_is_err_and c.from_residual.result c.from_residual.ensures.1 in
    let whole = record_bad c.args.link.now c.args.place c.args.out.now _ (sym c.in_err-x.ensures) in
    record { answer = rw (p.1, p.2) whole.0; out = whole.1 }

pub returns-then-out-lt-RECORD_NUMBERS : goal.returns-then-out-lt-RECORD_NUMBERS
returns-then-out-lt-RECORD_NUMBERS c =
    let whole = record_short _ _ _ c.in_ok-x.x (sym c.in_ok-x.ensures) c.if-out-lt-RECORD_NUMBERS.true in
    record { answer = whole.0; out = whole.1 }

pub returns : goal.returns
returns c =
    let whole = record_done _ _ _ c.in_ok-x.x (sym c.in_ok-x.ensures) _ c.if-out-lt-RECORD_NUMBERS.false c.put_found.ensures in
    record { answer = whole.0; out = whole.1 }
