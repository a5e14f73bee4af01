use Prim.Native.Nat.{◌-◌, ◌≤◌}
use mathlib.Core.Path.{◌≡◌}
use Rattle.wire.specs.Rows.{rows}
use Rattle.tables.specs.Check.{none_twice}
use Rattle.tables.proofs.TwiceLaws.{none_from}
use Rattle.checks.proofs.twice.none_twice.Given as goal

abbrev pub invariant-loop-r : goal.invariant-loop-r
invariant-loop-r l = (l.r ≤ l.n) × (none_twice (rows l.size l.n l.table) ≡ none_from l.size l.table l.n l.r)

abbrev pub decreases-loop-r : goal.decreases-loop-r
decreases-loop-r l = l.n - l.r
