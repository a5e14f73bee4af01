use mathlib.Core.Path.{◌≡◌, ap, sym, ◌∙◌}
use native.Mathlib.Omega.{arith}
use Rattle.std.proofs.Common.{rules}
use Rattle.std.specs.Prelude.{Some, None, Err}
use Rattle.refusals.specs.Numbers.{answer}
use Rattle.refusals.specs.declared.Refusal.TheVariants.{BadLayout}
use Rattle.capi_write.proofs.WriteNumbers.{fit_fields, given_is, count_of, write_none, write_header}
use Rattle.capi_write.proofs.layout_write.Goals as goal

pub returns-in_err-h : goal.returns-in_err-h
returns-in_err-h c =
    let n : c.given_header.result ≡ None = search rules in
    let e : c.from_residual.result ≡ Err BadLayout = search rules in
    let whole = write_none _ _ _ _ _ (sym c.given_header.ensures ∙ n) in
    record { answer = ap answer e ∙ whole.0; dest = whole.1.0; out = whole.1.1 }

pub bounds-fields-5 : goal.bounds-fields-5
bounds-fields-5 c =
    let g : c.given_header.result ≡ Some c.in_ok-h.h = search rules in
    omega (arith, fit_fields _ (given_is c.args.fields.now c.in_ok-h.h (sym c.given_header.ensures ∙ g)).0)

pub returns : goal.returns
returns c =
    let g : c.given_header.result ≡ Some c.in_ok-h.h = search rules in
    let whole = write_header _ _ _ _ _ c.in_ok-h.h _ (sym c.given_header.ensures ∙ g) (count_of _) _ _ _ (c.write_given.ensures.answer, (c.write_given.ensures.dest, c.write_given.ensures.out)) in
    record { answer = whole.0; dest = whole.1.0; out = whole.1.1 }
