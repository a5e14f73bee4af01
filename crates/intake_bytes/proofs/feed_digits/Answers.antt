use Prim.Native.Nat.{ℕ}
use lib.ListN.{length}
use native.Mathlib.Omega.{arith}
use mathlib.Core.Path.{refl, subst}
use Rattle.intake_bytes.specs.Lent.{want_of, ValueFed, Feeding}
use Rattle.intake_bytes.proofs.FeedLaws.{reaches, digits_start, digits_step}
use Rattle.intake_bytes.proofs.feed_digits.Goals as goal

pub loop-at-init : goal.loop-at-init
loop-at-init c = let p = c in let a = p.args in digits_start a.buf.now a.line a.piece.now a.from p.requires

pub returns-then-b-eq-NEWLINE : goal.returns-then-b-eq-NEWLINE
unfolding ValueFed
returns-then-b-eq-NEWLINE c = λ m g. record { fed = c.loop-at.invariant.fed m g; stop = λ _. c.if-b-eq-NEWLINE.true }

pub digit_byte-x-requires : goal.digit_byte-x-requires
digit_byte-x-requires c = c.loop-at.invariant.room

pub loop-at-preserved : goal.loop-at-preserved
loop-at-preserved c =
    let l = c.loop-at in let p = c in let a = p.args in
    digits_step a.buf.now a.line a.piece.now a.from l.buf l.x l.at _ _ _ l.invariant p.requires (omega arith) refl
    c.if-b-eq-NEWLINE.false c.digit_byte-x.ensures

pub returns : goal.returns
unfolding ValueFed
returns c = λ m g. record { fed = subst (λ (n : ℕ). Feeding (want_of m (length c.args.buf.now)) c.args.buf.now c.args.line c.args.piece.now c.args.from c.loop-at.buf c.loop-at.x n) (reaches c.loop-at.at _ (omega arith) c.loop-at.invariant.within) (c.loop-at.invariant.fed m g); stop = λ h. absurd (omega arith) }
