use Rattle.intake_bytes.specs.Lent.{DigitsFed}
use Rattle.intake_bytes.proofs.feed_digits.Given as goal

abbrev pub invariant-loop-at : goal.invariant-loop-at
invariant-loop-at l = DigitsFed l.initial.buf l.initial.x l.piece l.from l.buf l.x l.at
