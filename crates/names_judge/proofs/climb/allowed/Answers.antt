use Rattle.std.proofs.Common.{◌∙◌, arith}
use Rattle.names_judge.proofs.LookLaws.{within_endless, within_cut, within_fits}
use Rattle.names_judge.proofs.climb.allowed.Goals as goal

pub returns-in_err-levels : goal.returns-in_err-levels
returns-in_err-levels c = c.from_residual.ensures ∙ within_endless _ _ c.in_err-levels.was

pub returns-then-left-levels : goal.returns-then-left-levels
returns-then-left-levels c = within_cut _ _ _ _ c.in_ok-levels.was (omega arith)

pub returns : goal.returns
returns c = c.in_ok-levels.was ∙ within_fits _ _ _ _ c.in_ok-levels.was (omega arith)
