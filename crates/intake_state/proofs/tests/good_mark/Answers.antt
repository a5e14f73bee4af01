use mathlib.Core.Path.{◌∙◌}
use Rattle.intake_state.proofs.TestLaws.{mark_none, mark_some}
use Rattle.intake_state.proofs.tests.good_mark.Goals as goal

pub returns-then-mark-eq0 : goal.returns-then-mark-eq0
returns-then-mark-eq0 c = mark_none _ _ c.if-mark-eq0.true

pub returns : goal.returns
returns c = c.good_size.ensures ∙ mark_some _ _ c.if-mark-eq0.false
