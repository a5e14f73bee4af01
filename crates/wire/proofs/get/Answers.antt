use Rattle.std.proofs.Common.{◌≡◌, ◌-◌, drop, arith}
use Rattle.wire.specs.Numbers.{Bytes}
use Rattle.wire.proofs.PlaceLaws.{part_none, part_from, part_all, part_small_at, place_below}
use Rattle.wire.proofs.get.Goals as goal

pub loop-i-init : goal.loop-i-init
loop-i-init g c = (omega (arith, c.SIZE-i.ensures), cc (part_none g.O.ByteOrder.order g.W.Word.SIZE (drop c.args.at c.args.s.now)))

pub overflow_mul-n : goal.overflow_mul-n
unfolding Bytes
overflow_mul-n g c =
    let bytes : Bytes c.args.s.now = λ i. omega (arith, c.type_inv.s i) in
    let more = part_from g.O.ByteOrder.order g.W.Word.SIZE c.loop-i.i c.args.s.now c.args.at c.loop-i.n bytes g.met.W.Word.small c.loop-i-test.true c.loop-i.invariant.0 c.requires c.loop-i.invariant.1 in
    omega (arith, more.1)

pub overflow_add-n : goal.overflow_add-n
overflow_add-n g c = omega (arith, place_below g.O.ByteOrder.order c.SIZE.result (c.loop-i.i - 1))

pub bounds-s-at : goal.bounds-s-at
bounds-s-at g c = omega (arith, place_below g.O.ByteOrder.order c.SIZE.result (c.loop-i.i - 1))

pub overflow_add-n-in-loop-i : goal.overflow_add-n-in-loop-i
unfolding Bytes
overflow_add-n-in-loop-i g c =
    let bytes : Bytes c.args.s.now = λ i. omega (arith, c.type_inv.s i) in
    let more = part_from g.O.ByteOrder.order g.W.Word.SIZE c.loop-i.i c.args.s.now c.args.at c.loop-i.n bytes g.met.W.Word.small c.loop-i-test.true c.loop-i.invariant.0 c.requires c.loop-i.invariant.1 in
    rw (c.place.ensures, c.SIZE.ensures) (omega (arith, more.1))

pub loop-i-preserved : goal.loop-i-preserved
unfolding Bytes
loop-i-preserved g c =
    let bytes : Bytes c.args.s.now = λ i. omega (arith, c.type_inv.s i) in
    let more = part_from g.O.ByteOrder.order g.W.Word.SIZE c.loop-i.i c.args.s.now c.args.at c.loop-i.n bytes g.met.W.Word.small c.loop-i-test.true c.loop-i.invariant.0 c.requires c.loop-i.invariant.1 in
    (omega arith, rw (c.place.ensures, c.SIZE.ensures) more.0)

pub from_number-requires : goal.from_number-requires
unfolding Bytes
from_number-requires g c =
    let bytes : Bytes c.args.s.now = λ i. omega (arith, c.type_inv.s i) in
    let end : c.loop-i.i ≡ 0 = omega (arith, c.loop-i-test.false) in
    rw (c.loop-i.invariant.1, end) (part_small_at g.O.ByteOrder.order g.W.Word.SIZE c.args.s.now c.args.at bytes)

pub returns : goal.returns
returns g c =
    let end : c.loop-i.i ≡ 0 = omega (arith, c.loop-i-test.false) in
    let whole = part_all g.O.ByteOrder.order g.W.Word.SIZE (drop c.args.at c.args.s.now) in
    let read = rw end at c.loop-i.invariant.1 in
    cc (c.from_number.ensures, read, whole, g.met.O.ByteOrder.numbers g.W.Word.SIZE (drop c.args.at c.args.s.now))
