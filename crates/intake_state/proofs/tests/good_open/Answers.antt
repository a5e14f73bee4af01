use mathlib.Core.Path.{sym, ◌∙◌}
use Rattle.intake_state.proofs.TestLaws.{open_fid, open_lma, open_some, open_none}
use Rattle.intake_state.proofs.tests.good_open.Goals as goal

pub returns-then-not-good_mark : goal.returns-then-not-good_mark
returns-then-not-good_mark c = open_fid _ _ (sym c.good_mark.ensures ∙ c.if-not-good_mark.true)

pub returns-then-not-good_mark-2 : goal.returns-then-not-good_mark-2
returns-then-not-good_mark-2 c = open_lma _ _ (sym c.good_mark.ensures ∙ c.if-not-good_mark.false) (sym c.good_mark-2.ensures ∙ c.if-not-good_mark-2.true)

pub returns-then-from-ne0 : goal.returns-then-from-ne0
returns-then-from-ne0 c = open_some _ _ (sym c.good_mark.ensures ∙ c.if-not-good_mark.false) (sym c.good_mark-2.ensures ∙ c.if-not-good_mark-2.false) c.if-from-ne0.true

pub returns : goal.returns
returns c = c.bare.ensures ∙ open_none _ _ (sym c.good_mark.ensures ∙ c.if-not-good_mark.false) (sym c.good_mark-2.ensures ∙ c.if-not-good_mark-2.false) c.if-from-ne0.false
