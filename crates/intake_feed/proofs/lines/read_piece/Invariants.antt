use mathlib.Core.Path.{◌≡◌}
use Prim.Native.Nat.{◌-◌}
use lib.ListN.{length}
use Rattle.intake_feed.proofs.PieceLaws.{Reads}
use Rattle.intake_feed.proofs.lines.read_piece.Given as goal

abbrev pub invariant-loop-at : goal.invariant-loop-at
invariant-loop-at l = (length l.state ≡ length l.initial.state) × (length l.parents ≡ length l.initial.parents) × (length l.objects ≡ length l.initial.objects)
    × Reads l.initial.state l.initial.k l.piece l.file l.initial.parents l.initial.objects l.at l.state l.parents l.objects l.k

abbrev pub decreases-loop-at : goal.decreases-loop-at
decreases-loop-at l = length l.piece - l.at
