use mathlib.Core.Path.{◌≡◌}
use Prim.Native.Nat.{◌-◌}
use lib.Dec.{eqb}
use Rattle.linkea.specs.Link.{places}
use Rattle.linkea.specs.Conditions.{some}
use Rattle.linkea.proofs.PlaceLaws.{from, AllGood}
use Rattle.linkea.proofs.begins.Given as goal

abbrev pub invariant-loop-at : goal.invariant-loop-at
invariant-loop-at l = AllGood l.l l.at × (some (eqb l.p) (places l.l) ≡ some (eqb l.p) (from l.l l.at))

abbrev pub decreases-loop-at : goal.decreases-loop-at
decreases-loop-at l = l.p - l.at
