use mathlib.Core.Path.{◌≡◌}
use mathlib.Core.List.{◌++◌}
use Prim.Native.Nat.{◌-◌, ◌≤◌}
use lib.ListN.{length}
use Rattle.index.specs.Entries.{entries}
use Rattle.names.specs.Rows.{parse_entries}
use Rattle.names_prune.specs.ByChild.{entry_numbers}
use Rattle.names_prune.proofs.ByChildLaws.{listed_from}
use Rattle.names_prune.proofs.by_child.list.Given as goal

abbrev pub invariant-loop-i : goal.invariant-loop-i
invariant-loop-i l = (l.i ≤ l.count) × (length l.index ≡ length l.initial.index)
    × (entries l.i l.index ++ listed_from (parse_entries l.entries) l.i ≡ entry_numbers (parse_entries l.entries))

abbrev pub decreases-loop-i : goal.decreases-loop-i
decreases-loop-i l = l.count - l.i
