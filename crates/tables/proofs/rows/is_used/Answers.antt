use mathlib.Core.Path.{refl}
use Rattle.tables.specs.Bytes.{is_used}
use Rattle.tables.proofs.rows.is_used.Goals as goal

pub returns : goal.returns
unfolding is_used
returns c = refl
