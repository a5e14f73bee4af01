use mathlib.Core.Path.{◌≡◌}
use Prim.Native.Nat.{◌≤◌}
use lib.ListN.{length, take}
use Rattle.names.specs.Rows.{parse_children}
use Rattle.names.specs.Visible.{max_levels}
use Rattle.names_judge.specs.Levels.{Noted}
use Rattle.names_judge.proofs.JudgeLaws.{marked_to}
use Rattle.names_judge.proofs.judge.put_marks.Given as goal

abbrev pub invariant-loop-r : goal.invariant-loop-r
invariant-loop-r l = (l.r ≤ l.count) × (length l.room ≡ length l.initial.room) × (length l.mark-items ≡ l.count)
    × Noted (parse_children l.children) l.room × (l.mark-items ≡ marked_to max_levels (parse_children l.children) (take l.count l.fn.marks) l.r)
