use mathlib.Core.Path.{refl}
use Rattle.positions.proofs.parent_count.Goals as goal

pub returns : goal.returns
returns c = refl
