use mathlib.Core.Path.{refl}
use Rattle.names_judge.specs.Levels.{ended_of}
use Rattle.names_judge.proofs.climb.told.Goals as goal

pub returns : goal.returns
unfolding ended_of
returns c = refl
