use Rattle.std.proofs.Common.{refl, sym, ◌∙◌}
use Rattle.std.proofs.lemmas.Result.{err_from_is_err_and}
use Rattle.capi_link.proofs.LinkNumbers.{write_refused, write_unplaced, write_wrong, write_done, empty_short, full_long}
use Rattle.capi_link.proofs.write_given.Goals as goal

pub returns-then-refused_given : goal.returns-then-refused_given
returns-then-refused_given c =
    let whole = write_refused _ _ _ _ _ (sym c.refused_given.ensures ∙ c.if-refused_given.true) in
    record { answer = whole.0; dest = whole.1.0; out = whole.1.1 }

pub returns-then-is_empty : goal.returns-then-is_empty
returns-then-is_empty c =
    let whole = write_unplaced _ _ _ _ _ (sym c.refused_given.ensures ∙ c.if-refused_given.false) (empty_short _ (sym c.is_empty.ensures ∙ c.if-is_empty.true)) in
    record { answer = whole.0; dest = whole.1.0; out = whole.1.1 }

pub returns-in_err-n : goal.returns-in_err-n
returns-in_err-n c =
    let p = err_from_is_err_and c.from_residual.result c.from_residual.ensures.1 in
    let whole = write_wrong c.args.h c.args.records.now c.args.names.now c.args.dest.now c.args.out.now _ _ (sym c.in_err-n.ensures.answer) c.in_err-n.ensures.bytes in
    record { answer = rw (p.1, p.2) whole.0; dest = whole.1.0; out = whole.1.1 }

pub returns : goal.returns
returns c =
    let whole = write_done _ _ _ _ _ c.in_ok-n.n _ _ (sym c.in_ok-n.ensures.answer) (full_long _ (sym c.is_empty.ensures ∙ c.if-is_empty.false)) c.in_ok-n.ensures.bytes refl in
    record { answer = whole.0; dest = whole.1.0; out = whole.1.1 }
