use Prim.Native.Nat.{◌-◌}
use lib.ListN.{length}
use Rattle.names_links.proofs.KeepLaws.{Going}
use Rattle.names_links.proofs.keep.keep_all.Given as goal

abbrev pub invariant-loop-at : goal.invariant-loop-at
invariant-loop-at l = Going l.old l.flags l.initial.row l.row l.p l.at l.k

abbrev pub decreases-loop-at : goal.decreases-loop-at
decreases-loop-at l = length l.old - l.at
