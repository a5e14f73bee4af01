use mathlib.Core.Path.{refl}
use Rattle.rules.specs.Repairs.{own_header}
use Rattle.stores.proofs.parents.own_header.Goals as goal

pub returns : goal.returns
unfolding own_header
returns c = refl
