use mathlib.Core.Path.{refl}
use Rattle.stores.specs.Made.{made_header}
use Rattle.stores.proofs.parents.made_header.Goals as goal

pub returns : goal.returns
unfolding made_header
returns c = refl
