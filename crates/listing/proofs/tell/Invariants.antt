use Prim.Native.Nat.{◌-◌, ◌≤◌}
use mathlib.Core.Path.{◌≡◌}
use mathlib.Core.Bool.{true}
use lib.ListN.{length}
use Rattle.tables.specs.Bytes.{parse}
use Rattle.tables.specs.Positions.{is_position}
use Rattle.listing.proofs.TellLaws.{Leaves}
use Rattle.listing.proofs.tell.Given as goal

abbrev pub invariant-loop-done : goal.invariant-loop-done
invariant-loop-done l = (l.done ≤ l.most) × (length l.out ≡ length l.initial.out) × (is_position (parse l.parents l.objects) l.position ≡ true)
    × Leaves (parse l.parents l.objects) l.most l.initial.position l.initial.out l.done l.position l.out

abbrev pub decreases-loop-done : goal.decreases-loop-done
decreases-loop-done l = l.most - l.done
