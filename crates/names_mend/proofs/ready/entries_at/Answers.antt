use mathlib.Core.Path.{refl}
use Rattle.names_mend.specs.Ready.{entries_at}
use Rattle.names_mend.proofs.ready.entries_at.Goals as goal

pub returns : goal.returns
unfolding entries_at
returns c = refl
