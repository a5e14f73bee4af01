use mathlib.Core.Path.{sym, ◌∙◌}
use Rattle.intake_state.proofs.TestLaws.{kept_stop, kept_open, kept_line, kept_count}
use Rattle.intake_state.proofs.tests.good_kept.Goals as goal

pub returns-then-not-good_stop : goal.returns-then-not-good_stop
returns-then-not-good_stop c = let a = c.args in kept_stop a.k (sym c.good_stop.ensures ∙ c.if-not-good_stop.true)

pub returns-then-not-good_open : goal.returns-then-not-good_open
returns-then-not-good_open c = let a = c.args in kept_open a.k (sym c.good_stop.ensures ∙ c.if-not-good_stop.false) (sym c.good_open.ensures ∙ c.if-not-good_open.true)

pub returns-then-not-good_line : goal.returns-then-not-good_line
returns-then-not-good_line c = let a = c.args in kept_line a.k (sym c.good_stop.ensures ∙ c.if-not-good_stop.false) (sym c.good_open.ensures ∙ c.if-not-good_open.false) (sym c.good_line.ensures ∙ c.if-not-good_line.true)

pub returns : goal.returns
returns c = let a = c.args in kept_count a.k (sym c.good_stop.ensures ∙ c.if-not-good_stop.false) (sym c.good_open.ensures ∙ c.if-not-good_open.false) (sym c.good_line.ensures ∙ c.if-not-good_line.false)
