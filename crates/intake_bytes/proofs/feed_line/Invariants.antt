use lib.ListN.{length}
use Rattle.intake_bytes.specs.Lent.{want_of, Feeding}
use Rattle.intake_bytes.proofs.feed_line.Given as goal

abbrev pub invariant-loop-at : goal.invariant-loop-at
invariant-loop-at l = Feeding (want_of l.m (length l.initial.buf)) l.initial.buf l.initial.x l.piece l.from l.buf l.x l.at
