use mathlib.Core.Path.{◌≡◌, ap, sym, ◌∙◌}
use Rattle.std.proofs.Common.{rules}
use Rattle.std.specs.Prelude.{Err}
use Rattle.refusals.specs.Numbers.{answer}
use Rattle.capi_write.proofs.WriteNumbers.{write_refused, write_unplaced, write_stopped, write_done}
use Rattle.capi_write.proofs.write_given.Goals as goal

pub returns-then-not-may_write : goal.returns-then-not-may_write
returns-then-not-may_write c = let whole = write_refused _ _ _ _ _ _ (sym c.may_write.ensures ∙ c.if-not-may_write.true) in
    record { answer = whole.0; dest = whole.1.0; out = whole.1.1 }

pub returns-then-out-lt1 : goal.returns-then-out-lt1
returns-then-out-lt1 c = let whole = write_unplaced _ _ _ _ _ _ (sym c.may_write.ensures ∙ c.if-not-may_write.false) c.if-out-lt1.true in
    record { answer = whole.0; dest = whole.1.0; out = whole.1.1 }

pub returns-in_err-n : goal.returns-in_err-n
returns-in_err-n c =
    let e : c.from_residual.result ≡ Err c.in_err-n.field-0.0 = search rules in
    let whole = write_stopped _ _ _ _ _ _ _ _ (sym c.write.ensures.answer ∙ c.in_err-n.was) c.write.ensures.bytes in
    record { answer = ap answer e ∙ whole.0; dest = whole.1.0; out = whole.1.1 }

pub returns : goal.returns
returns c = let whole = write_done _ _ _ _ _ _ c.in_ok-n.n _ _ (sym c.write.ensures.answer ∙ c.in_ok-n.was) c.if-out-lt1.false c.write.ensures.bytes c.put.ensures in
    record { answer = whole.0; dest = whole.1.0; out = whole.1.1 }
