use mathlib.Core.Path.{sym, ap, ◌∙◌}
use Rattle.rules.specs.declared.Step.{Step}
use Rattle.rules.specs.Cuts.{targets}
use Rattle.capi_writes.specs.Writes.{step_number, told}
use Rattle.capi_writes.proofs.tell.Goals as goal

pub returns-in-Rests : goal.returns-in-Rests
unfolding step_number told targets
returns-in-Rests c =
    let a = c.args in
    let e = sym c.in-Rests.is in
    record {
      answer = ap step_number e;
      out = c.put_none.ensures ∙ ap (λ (d : Step). told d a.out.now) e;
    }

pub returns-in-Repairs : goal.returns-in-Repairs
unfolding step_number told targets
returns-in-Repairs c =
    let a = c.args in
    let e = sym c.in-Repairs.is in
    record {
      answer = ap step_number e;
      out = c.put_writes.ensures ∙ ap (λ (d : Step). told d a.out.now) e;
    }

pub returns-in-Stops : goal.returns-in-Stops
unfolding step_number told
returns-in-Stops c =
    let a = c.args in
    let e = sym c.in-Stops.is in
    record {
      answer = ap step_number e;
      out = ap (λ (d : Step). told d a.out.now) e;
    }
