use Rattle.std.proofs.Common.{sym, ◌∙◌}
use Rattle.std.proofs.lemmas.Result.{err_from_is_err_and}
use Rattle.capi_link.proofs.LinkNumbers.{write_none, write_header, none_refused}
use Rattle.capi_link.proofs.link_write.Goals as goal

pub returns-in_err-h : goal.returns-in_err-h
returns-in_err-h c =
    let p = err_from_is_err_and c.from_residual.result c.from_residual.ensures.1 in
    let g = sym c.given_header.ensures ∙ c.in_err-h.ensures.ok_part in
    let whole = write_none c.args.fields.now c.args.records.now c.args.names.now c.args.dest.now c.args.out.now g in
    record { answer = rw (p.1, p.2, none_refused _ _ c.in_err-h.ensures.ok_part c.in_err-h.ensures.value) whole.0; dest = whole.1.0; out = whole.1.1 }

pub returns : goal.returns
returns c =
    let whole = write_header _ _ _ _ _ c.in_ok-h.h _ _ _ (sym c.given_header.ensures ∙ c.in_ok-h.ensures.ok_part) (c.write_given.ensures.answer, (c.write_given.ensures.dest, c.write_given.ensures.out)) in
    record { answer = whole.0; dest = whole.1.0; out = whole.1.1 }
