use mathlib.Core.Path.{◌≡◌, ap, sym, ◌∙◌}
use Rattle.std.proofs.Common.{rules}
use Rattle.std.specs.Prelude.{Err}
use Rattle.refusals.specs.Numbers.{answer}
use Rattle.capi_layout.proofs.LayoutNumbers.{read_bad, read_short, read_done}
use Rattle.capi_layout.proofs.layout_read.Goals as goal

pub returns-in_err-h : goal.returns-in_err-h
returns-in_err-h c =
    let e : c.from_residual.result ≡ Err c.in_err-h.field-0.0 = search rules in
    let whole = read_bad _ _ _ (sym c.read.ensures ∙ c.in_err-h.was) in
    record { answer = ap answer e ∙ whole.0; fields = whole.1 }

pub returns-then-fields-lt-HEADER_NUMBERS : goal.returns-then-fields-lt-HEADER_NUMBERS
returns-then-fields-lt-HEADER_NUMBERS c =
    let whole = read_short _ _ c.in_ok-h.h c.in_ok-h.count (sym c.read.ensures ∙ c.in_ok-h.was) c.if-fields-lt-HEADER_NUMBERS.true in
    record { answer = whole.0; fields = whole.1 }

pub returns : goal.returns
returns c =
    let whole = read_done _ _ c.in_ok-h.h c.in_ok-h.count (sym c.read.ensures ∙ c.in_ok-h.was) _ c.if-fields-lt-HEADER_NUMBERS.false c.put_header.ensures in
    record { answer = whole.0; fields = whole.1 }
