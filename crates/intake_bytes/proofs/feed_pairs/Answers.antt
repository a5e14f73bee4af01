use native.Mathlib.Omega.{arith}
use mathlib.Core.Path.{◌≡◌, refl, subst}
use Rattle.intake_bytes.specs.declared.Half.TheVariants.{Even}
use Rattle.intake_bytes.specs.declared.Unfinished.{Unfinished}
use Rattle.intake_bytes.specs.Lent.{valued, DigitsFed}
use Rattle.intake_bytes.proofs.StartsLaws.{digit_at}
use Rattle.intake_bytes.proofs.FeedLaws.{digits_start, pair_step}
use Rattle.intake_bytes.proofs.feed_pairs.Goals as goal

pub loop-at-init : goal.loop-at-init
loop-at-init c =
    let a = c.args in
    let z : a.line ≡ valued a.line Even a.line.size = rw (← c.requires.1) refl in
    (subst (λ (y : Unfinished). DigitsFed a.buf.now a.line a.piece.now a.from a.buf.now y a.from) z (digits_start a.buf.now a.line a.piece.now a.from c.requires.0), refl)

pub overflow_mul-high : goal.overflow_mul-high
overflow_mul-high c = omega (arith, (digit_at _ c.in-Some.high c.in-Some.ensures).1)

pub overflow_add-high : goal.overflow_add-high
overflow_add-high c = omega (arith, (digit_at _ c.in-Some.high c.in-Some.ensures).1, (digit_at _ c.in-Some-digit.low c.in-Some-digit.ensures).1)

pub loop-at-preserved : goal.loop-at-preserved
loop-at-preserved c =
    let l = c.loop-at in
    let a = c.args in
    let s = c.put_byte-x.ensures in (
      pair_step a.buf.now a.line a.piece.now a.from l.buf l.x l.at c.in-Some.high c.in-Some-digit.low _ _ _ l.invariant.0 c.requires.0 (omega arith) l.invariant.1
          (digit_at _ c.in-Some.high c.in-Some.ensures) (digit_at _ c.in-Some-digit.low c.in-Some-digit.ensures) refl s,
      s.half,
    )
