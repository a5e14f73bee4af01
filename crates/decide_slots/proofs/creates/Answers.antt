use mathlib.Core.Path.{refl}
use Rattle.rules.specs.Settings.{creates}
use Rattle.decide_slots.proofs.creates.Goals as goal

pub returns : goal.returns
unfolding creates
returns c = refl
