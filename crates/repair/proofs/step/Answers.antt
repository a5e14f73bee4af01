use mathlib.Core.Path.{ap, sym, subst, ◌∙◌}
use Rattle.tables.specs.Bytes.{parse, render_parents, render_objects}
use Rattle.rules.specs.declared.Step.{Step}
use Rattle.rules.specs.Runs.{outcome, step_tables}
use Rattle.writes.specs.Plan.{Possible, Decides}
use Rattle.decide.proofs.FitLaws.{possible_step}
use Rattle.repair.specs.StepBytes.{step_of, parents_after, objects_after}
use Rattle.rules.specs.Settings.{settings_of}
use Rattle.repair.proofs.step.Goals as goal

pub act-requires : goal.act-requires
unfolding Decides
act-requires c =
    let d = c in
    let a = d.args in
    (d.requires.tables, subst (Possible a.parents.now a.objects.now) (sym c.decide-d.ensures) (possible_step a.parents.now a.objects.now a.reserve.now (settings_of a.policy a.reserve.now) a.at d.requires))

pub returns : goal.returns
unfolding step_of parents_after objects_after Decides
returns c = let a = c.args in let T = parse a.parents.now a.objects.now in let m = c.decide-d.ensures in record {
  outcome = c.act.ensures.outcome ∙ ap outcome m;
  parents = c.act.ensures.parents ∙ ap (λ (s : Step). render_parents (step_tables s T)) m;
  objects = c.act.ensures.objects ∙ ap (λ (s : Step). render_objects (step_tables s T)) m;
}
