use Rattle.std.proofs.Common.{◌++◌, drop, sym, ap, ◌∙◌}
use Rattle.std.proofs.lemmas.Result.{err_from_is_err_and}
use Rattle.wire.proofs.Splice.{sets_front}
use Rattle.capi_link.specs.Links.{header_fields}
use Rattle.capi_link.proofs.LinkNumbers.{read_bad, read_short, read_done}
use Rattle.capi_link.proofs.link_read.Goals as goal

pub returns-in_err-h : goal.returns-in_err-h
returns-in_err-h c =
    let p = err_from_is_err_and c.from_residual.result c.from_residual.ensures.1 in
    let whole = read_bad c.args.link.now c.args.out.now _ (sym c.in_err-h.ensures) in
    record { answer = rw (p.1, p.2) whole.0; out = whole.1 }

pub returns-then-out-lt-HEADER_NUMBERS : goal.returns-then-out-lt-HEADER_NUMBERS
returns-then-out-lt-HEADER_NUMBERS c =
    let whole = read_short _ _ c.in_ok-h.h (sym c.in_ok-h.ensures) c.if-out-lt-HEADER_NUMBERS.true in
    record { answer = whole.0; out = whole.1 }

pub returns : goal.returns
unfolding header_fields
returns c =
    let o = c.args.out.now in
    let e = ap (λ s. s ++ drop 4 o) c.copy_from_slice.ensures.after ∙ sym (sets_front (header_fields c.in_ok-h.h) o c.if-out-lt-HEADER_NUMBERS.false) in
    let whole = read_done _ c.args.out.now c.in_ok-h.h (sym c.in_ok-h.ensures) _ c.if-out-lt-HEADER_NUMBERS.false e in
    record { answer = whole.0; out = whole.1 }
