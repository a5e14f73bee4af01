use native.Mathlib.Omega.{arith}
use mathlib.Core.Path.{◌≡◌, ap, ◌∙◌}
use Rattle.std.proofs.Common.{rules}
use Rattle.std.specs.Prelude.{Some, None, Err}
use Rattle.refusals.specs.Numbers.{answer}
use Rattle.refusals.specs.declared.Refusal.TheVariants.{BadLayout}
use Rattle.capi_layout.proofs.LayoutNumbers.{rewrite_uneven, rewrite_none, rewrite_slot}
use Rattle.capi_layout.proofs.slot_rewrite.Goals as goal

pub returns-in_default : goal.returns-in_default
returns-in_default c =
    let whole = rewrite_uneven _ _ _ (λ e. omega (arith, e)) in
    record { answer = whole.0; layout = whole.1 }

pub returns-in_default-2 : goal.returns-in_default-2
returns-in_default-2 c =
    let whole = rewrite_uneven _ _ _ (λ e. omega (arith, e)) in
    record { answer = whole.0; layout = whole.1 }

pub returns-in_err-given : goal.returns-in_err-given
returns-in_err-given c =
    let n : c.given_from.result ≡ None = search rules in
    let e : c.from_residual.result ≡ Err BadLayout = search rules in
    let whole = rewrite_none _ _ _ _ (omega arith) c.given_from.ensures n in
    record { answer = ap answer e ∙ whole.0; layout = whole.1 }

pub returns : goal.returns
returns c =
    let g : c.given_from.result ≡ Some c.in_ok-given.given = search rules in
    let whole = rewrite_slot _ _ _ _ c.in_ok-given.given _ _ (omega arith) c.given_from.ensures g c.rewrite.ensures.answer c.rewrite.ensures.bytes in
    record { answer = whole.0; layout = whole.1 }
