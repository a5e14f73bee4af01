use mathlib.Core.Path.{◌≡◌}
use mathlib.Core.List.{List, ◌++◌}
use Prim.Native.Nat.{◌-◌, ◌≤◌}
use lib.ListN.{length}
use Rattle.index.specs.Entries.{entries}
use Rattle.names.specs.Rows.{Child}
use Rattle.names_judge.specs.Listed.{child_numbers, Names}
use Rattle.names_judge.proofs.DirectoryLaws.{listed_from}
use Rattle.names_judge.proofs.listing.list_by.Given as goal

abbrev pub invariant-loop-r : goal.invariant-loop-r
invariant-loop-r g l = (l.r ≤ l.count) × (l.n ≤ l.r) × (length l.index ≡ length l.initial.index)
    × ((cs : List Child) → length cs ≡ l.count → Names (goal.F-post g l.name) cs → entries l.n l.index ++ listed_from cs l.r ≡ child_numbers cs)

abbrev pub decreases-loop-r : goal.decreases-loop-r
decreases-loop-r g l = l.count - l.r
