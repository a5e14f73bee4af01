use mathlib.Core.Path.{◌≡◌}
use Prim.Native.Nat.{◌-◌, ◌≤◌}
use lib.ListN.{length}
use Rattle.linkea.specs.Link.{link_header}
use Rattle.linkea.proofs.PlaceLaws.{good_from}
use Rattle.linkea.proofs.good_records.Given as goal

abbrev pub invariant-loop-at : goal.invariant-loop-at
invariant-loop-at l = (l.k ≤ l.at) × (good_from l.l l.count 0 link_header ≡ good_from l.l l.count l.k l.at)

abbrev pub decreases-loop-at : goal.decreases-loop-at
decreases-loop-at l = length l.l - l.at
