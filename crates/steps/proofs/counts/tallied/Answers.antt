use mathlib.Core.Path.{ap, sym, ◌∙◌}
use Rattle.std.specs.Prelude.{Option, Ok}
use Rattle.rules.specs.Runs.{add_counts}
use Rattle.rules.specs.declared.Repair.{Repair}
use Rattle.steps.specs.Tallies.{tally}
use Rattle.steps.proofs.RunLaws.{rest_is}
use Rattle.steps.proofs.counts.tallied.Goals as goal

pub returns-in-Err : goal.returns-in-Err
unfolding tally
returns-in-Err g c = rest_is c.args.c c.requires c.args.o (ap tally c.in-Err.is)

pub returns-in-None : goal.returns-in-None
unfolding tally
returns-in-None g c = rest_is c.args.c c.requires c.args.o (ap tally (c.in-Ok.is ∙ ap (λ (k : Option Repair). Ok k) c.in-None.is))

pub returns-in-Some : goal.returns-in-Some
unfolding tally
returns-in-Some g c =
    c.counted.ensures
    ∙ ap (λ u. add_counts c.args.c (tally u)) (sym (c.in-Ok.is ∙ ap (λ (k : Option Repair). Ok k) c.in-Some.is))
