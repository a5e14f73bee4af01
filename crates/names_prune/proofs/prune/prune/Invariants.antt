use mathlib.Core.Path.{◌≡◌}
use Prim.Native.Nat.{◌-◌, ◌*◌, ◌≤◌}
use lib.ListN.{length}
use Rattle.names.specs.Rows.{parse_entries, parse_children}
use Rattle.names.specs.Visible.{seen_by}
use Rattle.names_prune.specs.Ready.{Ready, flag_room}
use Rattle.names_prune.proofs.PruneLaws.{Swept}
use Rattle.names_prune.proofs.prune.prune.Given as goal

abbrev pub invariant-loop-r : goal.invariant-loop-r
invariant-loop-r l = (l.r ≤ l.count) × (length l.children ≡ length l.initial.children) × (l.total ≤ flag_room * l.r)
    × Ready l.entries l.children l.marks l.index l.n l.places l.notes × (seen_by l.marks (parse_children l.children) ≡ seen_by l.marks (parse_children l.initial.children))
    × Swept (seen_by l.marks (parse_children l.initial.children)) (parse_entries l.entries) (parse_children l.initial.children) (parse_children l.children) l.r l.total

abbrev pub decreases-loop-r : goal.decreases-loop-r
decreases-loop-r l = l.count - l.r
