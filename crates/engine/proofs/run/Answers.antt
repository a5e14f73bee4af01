use Rattle.std.proofs.Common.{refl, sym, ◌∙◌}
use Rattle.tables.proofs.CheckLaws.{refusal_not, check_refused, check_accepted}
use Rattle.steps.proofs.Standing.{accepted_ready}
use Rattle.steps.proofs.RunLaws.{clauses}
use Rattle.engine.proofs.CheckFirst.{run_refused, run_accepted}
use Rattle.engine.proofs.run.Goals as goal

pub returns-in-Err : goal.returns-in-Err
returns-in-Err c =
    let a = c.args in
    let n = c.number.ensures ∙ check_refused a.parents.now a.objects.now a.reserve.now a.policy a.at c.in-Err.refusal c.in-Err.ensures in
    let whole = clauses (run_refused a.parents.now a.objects.now a.reserve.now a.policy a.most _ a.at n (λ z. refusal_not c.in-Err.refusal (sym c.number.ensures ∙ z)) _ c.none.ensures) in
    record { report = whole.0; parents = whole.1.0; objects = whole.1.1 }

pub steps-requires : goal.steps-requires
steps-requires c =
    let a = c.args in
    accepted_ready a.parents.now a.objects.now a.reserve.now a.policy a.at (sym (check_accepted a.parents.now a.objects.now a.reserve.now a.policy a.at c.in_default.ensures))

pub returns : goal.returns
returns c =
    let w = c in
    let a = w.args in
    let n = check_accepted a.parents.now a.objects.now a.reserve.now a.policy a.at c.in_default.ensures in
    let k = clauses (run_accepted a.parents.now a.objects.now a.reserve.now a.policy a.most _ a.at n refl) in
    record {
      report = w.steps.ensures.report ∙ k.0;
      parents = w.steps.ensures.parents ∙ k.1.0;
      objects = w.steps.ensures.objects ∙ k.1.1;
    }
