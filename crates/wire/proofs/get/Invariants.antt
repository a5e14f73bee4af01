use Rattle.std.proofs.Common.{◌≡◌, ◌≤◌, drop}
use Rattle.wire.proofs.PlaceLaws.{part}
use Rattle.wire.proofs.get.Given as goal

abbrev pub invariant-loop-i : goal.invariant-loop-i
invariant-loop-i g l = (l.i ≤ g.W.Word.SIZE) × (l.n ≡ part g.O.ByteOrder.order g.W.Word.SIZE l.i (drop l.at l.s))
