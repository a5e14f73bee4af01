use mathlib.Core.Path.{ap}
use Prim.Native.Nat.{ℕ}
use lib.Dec.{ltb}
use Rattle.names.specs.Rows.{decode_entry}
use Rattle.names.specs.Check.{child_there}
use Rattle.names_check.proofs.check.child_there.Goals as goal

pub returns : goal.returns
unfolding child_there decode_entry
returns c = ap (λ (k : ℕ). ltb k c.args.n) c.child_of.ensures
