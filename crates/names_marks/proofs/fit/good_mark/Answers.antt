use mathlib.Core.Path.{ap, ◌∙◌}
use mathlib.Core.Bool.{not}
use native.Mathlib.Omega.{arith}
use Rattle.names_marks.proofs.FitLaws.{fit_below, fit_two}
use Rattle.names_marks.proofs.fit.good_mark.Goals as goal

pub returns-then-mark-lt-NO_SELF : goal.returns-then-mark-lt-NO_SELF
returns-then-mark-lt-NO_SELF c = let a = c.args in ap not c.is_none.ensures ∙ fit_below a.mark a.f (omega arith)

pub returns : goal.returns
returns c = let a = c.args in fit_two a.mark a.f (omega arith)
