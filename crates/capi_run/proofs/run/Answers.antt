use native.Mathlib.Omega.{arith}
use mathlib.Core.Path.{refl, sym, ◌∙◌}
use Rattle.tables.proofs.CheckLaws.{refusal_not, check_refused, check_accepted}
use Rattle.tables.specs.Bytes.{parse}
use Rattle.steps.proofs.Standing.{accepted_ready}
use Rattle.capi_tables.proofs.TableNumbers.{given_is}
use Rattle.capi_run.proofs.RunNumbers.{call_refused, call_short, call_done}
use Rattle.capi_run.proofs.run.Goals as goal

pub returns-in-Err : goal.returns-in-Err
returns-in-Err c =
    let a = c.args in
    let g = c.position_given-at in
    let n = c.number.ensures ∙ check_refused a.parents.now a.objects.now a.reserve.now a.policy g.result c.in-Err.refusal c.in-Err.ensures in
    let whole = call_refused a.parents.now a.objects.now a.reserve.now a.policy a.most a.position.now a.report.now _ _ g.ensures n (λ z. refusal_not c.in-Err.refusal (sym c.number.ensures ∙ z)) in
    record { answer = whole.0; parents = whole.1.0; objects = whole.1.1.0; position = whole.1.1.1.0; report = whole.1.1.1.1 }

pub returns-then-report-lt-REPORT_SIZE : goal.returns-then-report-lt-REPORT_SIZE
returns-then-report-lt-REPORT_SIZE c =
    let a = c.args in
    let g = c.position_given-at in
    let k = check_accepted a.parents.now a.objects.now a.reserve.now a.policy g.result c.in_default.ensures in
    let whole = call_short a.parents.now a.objects.now a.reserve.now a.policy a.most a.position.now a.report.now _ _ g.ensures k refl c.if-report-lt-REPORT_SIZE.true in
    record { answer = c.number-then-report-lt-REPORT_SIZE.ensures ∙ whole.0; parents = whole.1.0; objects = whole.1.1.0; position = whole.1.1.1.0; report = whole.1.1.1.1 }

pub steps-ran-requires : goal.steps-ran-requires
steps-ran-requires c =
    let a = c.args in
    let g = c.position_given-at in
    let k = check_accepted a.parents.now a.objects.now a.reserve.now a.policy g.result c.in_default.ensures in
    accepted_ready a.parents.now a.objects.now a.reserve.now a.policy g.result (sym k)

pub put_position-requires : goal.put_position-requires
put_position-requires c =
    let a = c.args in
    let g = c.position_given-at in
    let k = check_accepted a.parents.now a.objects.now a.reserve.now a.policy g.result c.in_default.ensures in
    omega (arith, given_is (parse a.parents.now a.objects.now) a.position.now g.result g.ensures (accepted_ready a.parents.now a.objects.now a.reserve.now a.policy g.result (sym k)).position)

pub returns : goal.returns
returns c =
    let a = c.args in
    let g = c.position_given-at in
    let k = check_accepted a.parents.now a.objects.now a.reserve.now a.policy g.result c.in_default.ensures in
    let e = c.steps-ran in
    let whole = call_done a.parents.now a.objects.now a.reserve.now a.policy a.most a.position.now a.report.now _ _ g.ensures k refl c.if-report-lt-REPORT_SIZE.false e.result _ _ _ _ e.ensures.report e.ensures.parents e.ensures.objects c.put_position.ensures c.put_report.ensures in
    record { answer = whole.0; parents = whole.1.0; objects = whole.1.1.0; position = whole.1.1.1.0; report = whole.1.1.1.1 }
