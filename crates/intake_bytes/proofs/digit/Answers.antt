use native.Mathlib.Omega.{arith}
use mathlib.Core.Path.{refl, ◌∙◌}
use Rattle.intake_bytes.proofs.StartsLaws.{digit_low, digit_number, digit_gap, digit_upper, digit_gap_2, digit_lower, digit_high, digit_some, digit_none, from_55, from_87}
use Rattle.intake_bytes.proofs.digit.Goals as goal

pub returns-in-48-to-57 : goal.returns-in-48-to-57
returns-in-48-to-57 c = digit_some _ _ (digit_number _ _ refl (omega arith) (omega arith)) (omega arith)

pub returns-in-65-to-70 : goal.returns-in-65-to-70
returns-in-65-to-70 c = digit_some _ _ (from_55 _ (omega arith) ∙ digit_upper _ _ refl (omega arith) (omega arith)) (omega arith)

pub returns-in-97-to-102 : goal.returns-in-97-to-102
returns-in-97-to-102 c = digit_some _ _ (from_87 _ (omega arith) ∙ digit_lower _ _ refl (omega arith) (omega arith)) (omega arith)

pub returns-in_default : goal.returns-in_default
returns-in_default c = digit_none _ (digit_low _ (omega arith))

pub returns-in_default-2 : goal.returns-in_default-2
returns-in_default-2 c = digit_none _ (digit_gap _ (omega arith) (omega arith))

pub returns-in_default-3 : goal.returns-in_default-3
returns-in_default-3 c = digit_none _ (digit_gap_2 _ (omega arith) (omega arith))

pub returns-in_default-4 : goal.returns-in_default-4
returns-in_default-4 c = digit_none _ (digit_high _ (omega arith))
