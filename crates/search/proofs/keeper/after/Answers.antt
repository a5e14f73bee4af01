use mathlib.Core.Path.{refl}
use Rattle.search.proofs.keeper.after.Goals as goal

pub returns : goal.returns
returns c = record {
  place = refl;
  compared = refl;
}
