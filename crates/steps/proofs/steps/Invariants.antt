use Prim.Native.Nat.{◌-◌, ◌≤◌}
use mathlib.Core.Path.{◌≡◌}
use lib.ListN.{length}
use Rattle.steps.specs.Ready.{steps_bytes}
use Rattle.steps.specs.Tallies.{Within}
use Rattle.steps.proofs.Standing.{Stands}
use Rattle.steps.proofs.RunLaws.{from_here}
use Rattle.steps.proofs.steps.Given as goal

abbrev pub invariant-loop-done : goal.invariant-loop-done
invariant-loop-done l = (l.done ≤ l.most) × (length l.parents ≡ length l.initial.parents) × (length l.objects ≡ length l.initial.objects) × Within l.counts l.done × Stands l.parents l.objects l.position
    × (steps_bytes l.initial.parents l.initial.objects l.reserve l.policy l.most l.initial.position ≡ from_here l.parents l.objects l.reserve l.policy l.most l.counts l.position l.done)

abbrev pub decreases-loop-done : goal.decreases-loop-done
decreases-loop-done l = l.most - l.done
