use mathlib.Core.Path.{refl}
use Rattle.positions.proofs.object_count.Goals as goal

pub returns : goal.returns
returns c = refl
