use mathlib.Core.Path.{refl}
use Rattle.capi_keeper.specs.Keepers.{asked}
use Rattle.capi_keeper.proofs.asked_fid.Goals as goal

pub returns : goal.returns
unfolding asked
returns c = refl
