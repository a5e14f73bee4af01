use mathlib.Core.Path.{refl}
use Rattle.layout.specs.Layout.{with_holes}
use Rattle.layout.proofs.with_holes.Goals as goal

pub returns : goal.returns
unfolding with_holes
returns c = refl
