use mathlib.Core.Path.{refl, sym, ◌∙◌}
use Rattle.std.proofs.lemmas.Result.{err_from_is_err_and}
use Rattle.tables.proofs.CheckLaws.{refusal_not, check_refused, check_accepted}
use Rattle.tables.specs.Positions.{place}
use Rattle.writes.specs.Plan.{Decides}
use Rattle.repair.specs.StepBytes.{step_of}
use Rattle.capi_writes.proofs.WritesLaws.{Told, writes_refused, writes_end, writes_short, writes_ready, writes_told}
use Rattle.capi_writes.proofs.step_writes.Goals as goal

pub returns-in_err-check : goal.returns-in_err-check
unfolding Told place
returns-in_err-check c =
    let a = c.args in
    let at = place a.stage a.row a.part in
    let e = c.in_err-check.field-0.0 in
    let p = err_from_is_err_and c.from_residual.result c.from_residual.ensures.1 in
    let whole = writes_refused a.parents.now a.objects.now a.reserve.now a.policy at a.out.now _ (check_refused a.parents.now a.objects.now a.reserve.now a.policy at e c.in_err-check.ensures) (refusal_not e) in
    record { answer = rw (p.1, p.2) whole.0; out = whole.1 }

pub returns-then-is_end : goal.returns-then-is_end
unfolding Told place
returns-then-is_end c =
    let a = c.args in
    let whole = writes_end a.parents.now a.objects.now a.reserve.now a.policy (place a.stage a.row a.part) a.out.now 0 (check_accepted a.parents.now a.objects.now a.reserve.now a.policy (place a.stage a.row a.part) c.in_ok-check.ensures) refl (sym c.is_end.ensures ∙ c.if-is_end.true) in
    record { answer = whole.0; out = whole.1 }

pub returns-then-out-lt-WRITES_SIZE : goal.returns-then-out-lt-WRITES_SIZE
unfolding Told place
returns-then-out-lt-WRITES_SIZE c =
    let a = c.args in
    let whole = writes_short a.parents.now a.objects.now a.reserve.now a.policy (place a.stage a.row a.part) a.out.now 0 (check_accepted a.parents.now a.objects.now a.reserve.now a.policy (place a.stage a.row a.part) c.in_ok-check.ensures) refl (sym c.is_end.ensures ∙ c.if-is_end.false) c.if-out-lt-WRITES_SIZE.true in
    record { answer = whole.0; out = whole.1 }

pub decide-requires : goal.decide-requires
unfolding place
decide-requires c =
    let a = c.args in
    writes_ready a.parents.now a.objects.now a.reserve.now a.policy (place a.stage a.row a.part) a.out.now 0 (check_accepted a.parents.now a.objects.now a.reserve.now a.policy (place a.stage a.row a.part) c.in_ok-check.ensures) refl (sym c.is_end.ensures ∙ c.if-is_end.false)

pub returns : goal.returns
unfolding Told place Decides step_of
returns c =
    let k = c in
    let a = k.args in
    let whole = writes_told a.parents.now a.objects.now a.reserve.now a.policy (place a.stage a.row a.part) a.out.now 0 (check_accepted a.parents.now a.objects.now a.reserve.now a.policy (place a.stage a.row a.part) c.in_ok-check.ensures) refl (sym k.is_end.ensures ∙ k.if-is_end.false) k.if-out-lt-WRITES_SIZE.false _ c.decide.ensures _ _ c.tell.ensures.answer c.tell.ensures.out in
    record { answer = whole.0; out = whole.1 }
