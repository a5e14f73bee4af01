use mathlib.Core.Path.{refl}
use Rattle.rules.specs.Settings.{adopts}
use Rattle.decide_objects.proofs.may_adopt.Goals as goal

pub returns : goal.returns
unfolding adopts
returns c = refl
