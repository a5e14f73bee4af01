use mathlib.Core.Path.{◌≡◌}
use Prim.Native.Nat.{◌-◌, ◌≤◌}
use lib.ListN.{length}
use Rattle.names.specs.Rows.{parse_children}
use Rattle.names.specs.Visible.{max_levels, too_long}
use Rattle.names_judge.specs.Levels.{Noted}
use Rattle.names_judge.proofs.JudgeLaws.{long_from}
use Rattle.names_judge.proofs.judge.some_too_long.Given as goal

abbrev pub invariant-loop-r : goal.invariant-loop-r
invariant-loop-r l = (l.r ≤ l.count) × (length l.room ≡ length l.initial.room) × Noted (parse_children l.children) l.room
    × (too_long max_levels (parse_children l.children) ≡ long_from max_levels (parse_children l.children) l.r)

abbrev pub decreases-loop-r : goal.decreases-loop-r
decreases-loop-r l = l.count - l.r
