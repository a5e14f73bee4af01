use Prim.Native.Nat.{◌-◌}
use mathlib.Core.Path.{◌≡◌}
use lib.ListN.{length}
use Rattle.intake_bytes.specs.declared.Half.TheVariants.{Even}
use Rattle.intake_bytes.specs.Lent.{DigitsFed}
use Rattle.intake_bytes.proofs.feed_pairs.Given as goal

abbrev pub invariant-loop-at : goal.invariant-loop-at
invariant-loop-at l = DigitsFed l.initial.buf l.fn.line l.piece l.from l.buf l.x l.at × (l.x.half ≡ Even)

abbrev pub decreases-loop-at : goal.decreases-loop-at
decreases-loop-at l = length l.piece - l.at
