use mathlib.Core.Path.{◌≡◌}
use Prim.Native.Nat.{◌-◌, ◌≤◌}
use lib.ListN.{length}
use Rattle.layout_write.proofs.WriteLaws.{slots_done}
use Rattle.layout_write.proofs.write_slots.Given as goal

abbrev pub invariant-loop-j : goal.invariant-loop-j
invariant-loop-j l = (l.j ≤ l.count) × (length l.dest ≡ length l.initial.dest) × (l.dest ≡ slots_done l.initial.dest l.numbers l.start l.j)

abbrev pub decreases-loop-j : goal.decreases-loop-j
decreases-loop-j l = l.count - l.j
