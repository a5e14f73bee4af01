use Prim.Native.Nat.{ℕ}
use lib.ListN.{length}
use native.Mathlib.Omega.{arith}
use mathlib.Core.Path.{refl, subst, sym}
use Rattle.intake_bytes.specs.Lent.{want_of, Feeding}
use Rattle.intake_bytes.proofs.FeedLaws.{reaches, feeding_start, feeding_step, held_at, step_at_lem, past_head, value_then}
use Rattle.intake_bytes.proofs.feed_line.Goals as goal

pub loop-at-init : goal.loop-at-init
loop-at-init c =
    let p = c in let a = p.args in feeding_start _ a.buf.now a.line a.piece.now a.from p.requires.held p.requires.within

pub feed_value-requires : goal.feed_value-requires
feed_value-requires c =
    let l = c.loop-at in let p = c in let a = p.args in
    past_head a.m a.buf.now a.line a.piece.now a.from l.buf l.x l.at l.invariant (omega arith) p.requires.counts

pub returns-then-x-ge-HEAD_SIZE : goal.returns-then-x-ge-HEAD_SIZE
returns-then-x-ge-HEAD_SIZE c =
    let l = c.loop-at in let p = c in let a = p.args in
    value_then a.m a.buf.now a.line a.piece.now a.from l.buf l.x l.at l.invariant _ _ c.feed_value.ensures

pub returns-then-b-eq-NEWLINE : goal.returns-then-b-eq-NEWLINE
returns-then-b-eq-NEWLINE c = record { fed = c.loop-at.invariant; stop = λ _. c.if-b-eq-NEWLINE.true }

pub head_byte-x-requires : goal.head_byte-x-requires
head_byte-x-requires c =
    let l = c.loop-at in let a = c.args in
    (omega arith, held_at a.m _ _ l.buf l.x (sym l.invariant.long) l.invariant.held, omega arith)

pub loop-at-preserved : goal.loop-at-preserved
loop-at-preserved c =
    let l = c.loop-at in let a = c.args in
    feeding_step _ a.buf.now a.line a.piece.now a.from l.buf l.x l.at _ _ _ l.invariant (omega arith) refl c.if-b-eq-NEWLINE.false
    (step_at_lem a.m _ _ l.buf l.x _ _ _ l.invariant.long c.head_byte-x.ensures)

pub returns : goal.returns
returns c = record { fed = subst (λ (n : ℕ). Feeding (want_of c.args.m (length c.args.buf.now)) c.args.buf.now c.args.line c.args.piece.now c.args.from c.loop-at.buf c.loop-at.x n) (reaches c.loop-at.at _ (omega arith) c.loop-at.invariant.within) c.loop-at.invariant; stop = λ h. absurd (omega arith) }
