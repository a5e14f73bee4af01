use mathlib.Core.Path.{refl}
use Rattle.rules.specs.Runs.{no_counts}
use Rattle.steps.proofs.counts.none.Goals as goal

pub returns : goal.returns
unfolding no_counts
returns c = refl
