use Rattle.std.proofs.Math.Nat.{div-one}
use Rattle.std.proofs.Common.{◌≡◌, length, sym, ◌∙◌, arith}
use Rattle.wire.proofs.PlaceLaws.{place_below, written_none, written_all, written_length, written_next, divided}
use Rattle.wire.proofs.put.Goals as goal

pub loop-i-init : goal.loop-i-init
loop-i-init g c = (omega arith, c.to_number-n.ensures ∙ sym (div-one _), written_none _ _ _ _ _)

pub overflow_add-s : goal.overflow_add-s
overflow_add-s g c = omega (arith, place_below g.O.ByteOrder.order c.SIZE.result c.loop-i.i)

pub bounds-s-at : goal.bounds-s-at
bounds-s-at g c =
    let same = written_length g.O.ByteOrder.order g.W.Word.SIZE c.loop-i.i c.args.s.now c.args.at (g.W.Word.value c.args.v) in
    let kept : length c.loop-i.s ≡ length c.args.s.now = cc in
    omega (arith, place_below g.O.ByteOrder.order c.SIZE.result c.loop-i.i)

pub loop-i-preserved : goal.loop-i-preserved
loop-i-preserved g c =
    let v = g.W.Word.value c.args.v in
    let next = written_next g.O.ByteOrder.order g.W.Word.SIZE c.loop-i.i c.args.s.now c.args.at v (omega arith) in
    (omega arith, rw c.loop-i.invariant.1 (divided v c.loop-i.i), rw (c.loop-i.invariant.2, c.loop-i.invariant.1, c.place.ensures, c.SIZE.ensures) next)

pub returns : goal.returns
returns g c =
    let v = g.W.Word.value c.args.v in
    let end : c.loop-i.i ≡ g.W.Word.SIZE = omega arith in
    let whole = written_all g.O.ByteOrder.order g.W.Word.SIZE c.args.s.now c.args.at v in
    cc (c.loop-i.invariant.2, end, whole, g.met.O.ByteOrder.stores g.W.Word.SIZE v)
