use native.Mathlib.Omega.{arith}
use mathlib.Core.Path.{refl}
use Rattle.intake_feed.proofs.PieceLaws.{reads_start, reads_line, reads_all, reads_stop, reads_next}
use Rattle.intake_feed.proofs.lines.read_piece.Goals as goal

pub loop-at-init : goal.loop-at-init
loop-at-init c =
    let p = c in
    (refl, refl, refl, reads_start _ _ _ _ _ _ p.requires.1 p.requires.2 p.requires.0)

pub feed_line-fed-requires : goal.feed_line-fed-requires
feed_line-fed-requires c =
    let p = c in
    let l = c.loop-at.invariant.3 in
    record { long = l.going.kept.held.long; held = l.going.kept.held.held; counts = omega (arith, l.size, l.within, p.requires.2); within = omega arith }

pub returns-then-piece-end : goal.returns-then-piece-end
returns-then-piece-end c =
    let p = c in
    reads_all _ _ _ _ _ _ p.requires.1 p.requires.2 _ _ _ _ _ (reads_line _ _ _ _ _ _ p.requires.1 p.requires.2 _ _ _ _ _ c.loop-at.invariant.3 _ _ c.feed_line-fed.ensures _ c.with_line-k.ensures).reads (omega arith)

pub end_line-k-requires : goal.end_line-k-requires
end_line-k-requires c =
    let p = c in
    (reads_line _ _ _ _ _ _ p.requires.1 p.requires.2 _ _ _ _ _ c.loop-at.invariant.3 _ _ c.feed_line-fed.ensures _ c.with_line-k.ensures).reads.going

pub shape_of-state-then-k-ne0 : goal.shape_of-state-then-k-ne0
shape_of-state-then-k-ne0 c = omega (arith, c.loop-at.invariant.0, c.loop-at.invariant.1, c.loop-at.invariant.2, c.feed_line-fed.ensures.fed.long, c.state-1, c.parents-1, c.objects-1)

pub shape_of-parents-then-k-ne0 : goal.shape_of-parents-then-k-ne0
shape_of-parents-then-k-ne0 c = omega (arith, c.loop-at.invariant.0, c.loop-at.invariant.1, c.loop-at.invariant.2, c.feed_line-fed.ensures.fed.long, c.state-1, c.parents-1, c.objects-1)

pub shape_of-objects-then-k-ne0 : goal.shape_of-objects-then-k-ne0
shape_of-objects-then-k-ne0 c = omega (arith, c.loop-at.invariant.0, c.loop-at.invariant.1, c.loop-at.invariant.2, c.feed_line-fed.ensures.fed.long, c.state-1, c.parents-1, c.objects-1)

pub returns-then-k-ne0 : goal.returns-then-k-ne0
returns-then-k-ne0 c =
    let p = c in
    reads_stop _ _ _ _ _ _ p.requires.1 p.requires.2 _ _ _ _ _ (reads_line _ _ _ _ _ _ p.requires.1 p.requires.2 _ _ _ _ _ c.loop-at.invariant.3 _ _ c.feed_line-fed.ensures _ c.with_line-k.ensures) (omega arith) _ _ _ c.end_line-k.ensures c.if-k-ne0.true

pub overflow_add-at : goal.overflow_add-at
overflow_add-at c = omega (arith, c.feed_line-fed.ensures.fed.least, c.if-piece-end.false, c.requires.1, c.feed_line-fed.ensures.fed.within)

pub loop-at-smaller : goal.loop-at-smaller
loop-at-smaller c = omega (arith, c.feed_line-fed.ensures.fed.least, c.if-piece-end.false, c.requires.1, c.feed_line-fed.ensures.fed.within)

pub loop-at-preserved : goal.loop-at-preserved
loop-at-preserved c =
    let p = c in (
      omega (arith, c.loop-at.invariant.0, c.loop-at.invariant.1, c.loop-at.invariant.2, c.feed_line-fed.ensures.fed.long, c.state-1, c.parents-1, c.objects-1),
      omega (arith, c.loop-at.invariant.0, c.loop-at.invariant.1, c.loop-at.invariant.2, c.feed_line-fed.ensures.fed.long, c.state-1, c.parents-1, c.objects-1),
      omega (arith, c.loop-at.invariant.0, c.loop-at.invariant.1, c.loop-at.invariant.2, c.feed_line-fed.ensures.fed.long, c.state-1, c.parents-1, c.objects-1),
      reads_next _ _ _ _ _ _ p.requires.1 p.requires.2 _ _ _ _ _ (reads_line _ _ _ _ _ _ p.requires.1 p.requires.2 _ _ _ _ _ c.loop-at.invariant.3 _ _ c.feed_line-fed.ensures _ c.with_line-k.ensures) (omega arith) _ _ _ c.end_line-k.ensures c.if-k-ne0.false,
    )

pub returns : goal.returns
returns c =
    let p = c in
    reads_all _ _ _ _ _ _ p.requires.1 p.requires.2 _ _ _ _ _ c.loop-at.invariant.3 (omega arith)
