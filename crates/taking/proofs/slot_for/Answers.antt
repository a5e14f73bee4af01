use mathlib.Core.Path.{refl}
use Rattle.rules.specs.Repairs.{slot_for}
use Rattle.taking.proofs.slot_for.Goals as goal

pub returns : goal.returns
unfolding slot_for
returns c = refl
