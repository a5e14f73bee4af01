use mathlib.Core.Path.{refl}
use Rattle.tables.specs.Positions.{place}
use Rattle.positions.proofs.end.Goals as goal

pub returns : goal.returns
unfolding place
returns c = refl
