use Prim.Native.Nat.{◌≤◌}
use mathlib.Core.Path.{◌≡◌}
use mathlib.Core.Bool.{false}
use lib.ListN.{length, drop}
use Rattle.wire.specs.Numbers.{max_word}
use Rattle.intake.specs.Owners.{decimal}
use Rattle.intake_close.proofs.OwnerLaws.{left}
use Rattle.intake_close.proofs.owners.number.Given as goal

abbrev pub invariant-loop-at : goal.invariant-loop-at
invariant-loop-at l = (l.from ≤ l.at) × (l.at ≤ length l.line) × (l.n ≤ max_word) × (decimal false 0 (drop l.from l.line) ≡ left l.line l.from l.n l.at)
