use Rattle.std.proofs.Common.{◌≡◌, length, ◌≤◌}
use Rattle.wire.proofs.Splice.{stored}
use Rattle.wire.proofs.put_bytes.Given as goal

abbrev pub invariant-loop-i : goal.invariant-loop-i
invariant-loop-i l = (l.i ≤ length l.v) × (length l.s ≡ length l.initial.s) × (l.s ≡ stored l.initial.s l.at l.v l.i)
