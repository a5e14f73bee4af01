use Rattle.std.proofs.Common.{◌≡◌, ◌/◌, ◌^◌, ◌≤◌}
use Rattle.wire.proofs.PlaceLaws.{written}
use Rattle.wire.proofs.put.Given as goal

abbrev pub invariant-loop-i : goal.invariant-loop-i
invariant-loop-i g l =
    let v = g.W.Word.value l.fn.v in
    (l.i ≤ g.W.Word.SIZE) × (l.n ≡ v / 256 ^ l.i) × (l.s ≡ written g.O.ByteOrder.order g.W.Word.SIZE l.i l.initial.s l.at v)
