use native.Mathlib.Omega.{arith}
use mathlib.Core.Path.{◌≡◌, ap, sym, ◌∙◌}
use Rattle.std.proofs.Common.{rules}
use Rattle.std.specs.Prelude.{Err}
use Rattle.refusals.specs.Numbers.{answer}
use Rattle.layout.proofs.LayoutLaws.{read_taken, rewrite_refused, rewrite_unfit, rewrite_past, rewrite_done, accepted_exact}
use Rattle.layout.proofs.rewrite.Goals as goal

pub returns-in_err-h : goal.returns-in_err-h
returns-in_err-h c =
    let e : c.from_residual.result ≡ Err c.in_err-h.field-0.0 = search rules in
    let whole = rewrite_refused _ _ _ _ (sym c.read.ensures ∙ c.in_err-h.was) in
    record { answer = ap answer e ∙ whole.0; bytes = whole.1 }

pub returns-then-not-allowed_slot : goal.returns-then-not-allowed_slot
returns-then-not-allowed_slot c =
    let whole = rewrite_unfit _ _ _ _ _ _ (sym c.read.ensures ∙ c.in_ok-h.was) c.with_holes.ensures c.if-not-allowed_slot.ensures in
    record { answer = whole.0; bytes = whole.1 }

pub returns-then-count-j : goal.returns-then-count-j
returns-then-count-j c =
    let whole = rewrite_past _ _ _ _ _ _ (sym c.read.ensures ∙ c.in_ok-h.was) c.with_holes.ensures c.if-not-allowed_slot.ensures (omega arith) in
    record { answer = whole.0; bytes = whole.1 }

pub change_slot-requires : goal.change_slot-requires
change_slot-requires c =
    let t = read_taken _ _ _ (sym c.read.ensures ∙ c.in_ok-h.was) in
    (accepted_exact _ t.0, omega (arith, t.2))

pub returns : goal.returns
returns c =
    let whole = rewrite_done _ _ _ _ _ _ (sym c.read.ensures ∙ c.in_ok-h.was) c.with_holes.ensures c.if-not-allowed_slot.ensures _ (omega arith) c.change_slot.ensures in
    record { answer = whole.0; bytes = whole.1 }
