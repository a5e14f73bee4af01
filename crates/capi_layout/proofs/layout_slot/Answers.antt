use mathlib.Core.Path.{◌≡◌, ap, sym, ◌∙◌}
use Rattle.std.proofs.Common.{rules}
use Rattle.std.specs.Prelude.{Err}
use Rattle.refusals.specs.Numbers.{answer}
use Rattle.capi_layout.proofs.LayoutNumbers.{slot_bad, slot_short, slot_done}
use Rattle.capi_layout.proofs.layout_slot.Goals as goal

pub returns-in_err-s : goal.returns-in_err-s
returns-in_err-s c =
    let e : c.from_residual.result ≡ Err c.in_err-s.field-0.0 = search rules in
    let whole = slot_bad _ _ _ (sym c.read_slot.ensures ∙ c.in_err-s.was) in
    record { answer = ap answer e ∙ whole.0; out = whole.1 }

pub returns-then-out-lt-SLOT_NUMBERS : goal.returns-then-out-lt-SLOT_NUMBERS
returns-then-out-lt-SLOT_NUMBERS c =
    let whole = slot_short _ _ c.in_ok-s.s (sym c.read_slot.ensures ∙ c.in_ok-s.was) c.if-out-lt-SLOT_NUMBERS.true in
    record { answer = whole.0; out = whole.1 }

pub returns : goal.returns
returns c =
    let whole = slot_done _ _ c.in_ok-s.s (sym c.read_slot.ensures ∙ c.in_ok-s.was) _ c.if-out-lt-SLOT_NUMBERS.false c.put_slot.ensures in
    record { answer = whole.0; out = whole.1 }
