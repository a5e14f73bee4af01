use native.Mathlib.Omega.{arith}
use mathlib.Core.Path.{sym, ◌∙◌}
use lib.ListN.{get_or}
use Rattle.intake_close.proofs.OwnerLaws.{digit_is, decimal_least, decimal_most, left_start, left_next, told_other, told_wide, told_last}
use Rattle.intake_close.proofs.owners.number.Goals as goal

pub loop-at-init : goal.loop-at-init
loop-at-init c = (omega arith, omega arith, omega arith, left_start _ _)

pub told-requires : goal.told-requires
told-requires c = (omega arith, omega arith)

pub returns-then-not-is_ascii_digit : goal.returns-then-not-is_ascii_digit
returns-then-not-is_ascii_digit c = told_other _ _ _ _ c.loop-at.invariant.3 _ (omega arith) (digit_is _ ∙ sym c.is_ascii_digit.ensures.value ∙ c.if-not-is_ascii_digit.true) (omega arith) c.told.ensures

pub overflow_sub-n : goal.overflow_sub-n
overflow_sub-n c = decimal_least _ (digit_is _ ∙ sym c.is_ascii_digit.ensures.value ∙ c.if-not-is_ascii_digit.false)

pub overflow_cast-n : goal.overflow_cast-n
overflow_cast-n c = omega (arith, decimal_most (get_or c.args.line.now c.loop-at.at 0) (digit_is _ ∙ sym c.is_ascii_digit.ensures.value ∙ c.if-not-is_ascii_digit.false))

pub overflow_add-n : goal.overflow_add-n
overflow_add-n c = omega (arith, decimal_most (get_or c.args.line.now c.loop-at.at 0) (digit_is _ ∙ sym c.is_ascii_digit.ensures.value ∙ c.if-not-is_ascii_digit.false))

pub returns-then-n-gt-MAX_WORD : goal.returns-then-n-gt-MAX_WORD
returns-then-n-gt-MAX_WORD c = told_wide _ _ _ _ c.loop-at.invariant.3 (omega arith) (digit_is _ ∙ sym c.is_ascii_digit.ensures.value ∙ c.if-not-is_ascii_digit.false) (omega arith)

pub loop-at-preserved : goal.loop-at-preserved
loop-at-preserved c = (omega arith, omega arith, omega arith, c.loop-at.invariant.3 ∙ left_next _ _ _ _ (omega arith) (omega arith) (digit_is _ ∙ sym c.is_ascii_digit.ensures.value ∙ c.if-not-is_ascii_digit.false))

pub told-requires-2 : goal.told-requires-2
told-requires-2 c = (omega arith, omega arith)

pub returns : goal.returns
returns c = told_last _ _ _ _ c.loop-at.invariant.3 _ (omega arith) (omega arith) (omega arith) c.told-2.ensures
