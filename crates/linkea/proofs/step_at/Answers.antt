use native.Mathlib.Omega.{arith}
use mathlib.Core.Path.{sym, ap, ◌∙◌}
use Rattle.linkea.proofs.RecordLaws.{step_header, step_end, step_bad, step_record}
use Rattle.std.specs.Prelude.{Option, Some, Result, Ok}
use Rattle.refusals.specs.declared.Refusal.{Refusal}
use Rattle.linkea.specs.declared.Found.{Found}
use Rattle.linkea.proofs.step_at.Goals as goal

pub returns-then-p-lt-LINK_HEADER : goal.returns-then-p-lt-LINK_HEADER
returns-then-p-lt-LINK_HEADER c = let a = c.args in step_header a.l.now a.p (omega arith)

pub returns-then-l-p : goal.returns-then-l-p
returns-then-l-p c = let a = c.args in step_end a.l.now a.p (omega arith) (omega arith)

pub returns-then-bad_record : goal.returns-then-bad_record
returns-then-bad_record c =
    let a = c.args in
    step_bad a.l.now a.p (omega arith) (omega arith) (sym c.bad_record.ensures ∙ c.if-bad_record.true)

pub returns : goal.returns
returns c =
    let a = c.args in
    ap {B = Result (Option Found) Refusal} (λ x. Ok (Some x)) c.found_at.ensures ∙ step_record a.l.now a.p (omega arith) (omega arith) (sym c.bad_record.ensures ∙ c.if-bad_record.false)
