use native.Mathlib.Omega.{arith}
use mathlib.Core.Path.{◌∙◌}
use borrow.Author.Tests.{eq-eqb, lt-leb}
use Rattle.intake_state.proofs.TestLaws.{stop_none, stop_low, stop_high}
use Rattle.intake_state.proofs.tests.good_stop.Goals as goal

pub returns-then-answer-eq0 : goal.returns-then-answer-eq0
returns-then-answer-eq0 c = eq-eqb c.args.answer 0 c.if-answer-eq0.true ∙ stop_none _ c.if-answer-eq0.true

pub returns-then-least-answer : goal.returns-then-least-answer
returns-then-least-answer c = rw c.number-most.ensures (stop_high _ c.if-answer-eq0.false (omega (arith, c.number-least.ensures)))

pub returns-else-least-answer : goal.returns-else-least-answer
returns-else-least-answer c =
    lt-leb c.number-least.result c.args.answer c.if-least-answer.false
    ∙ stop_low _ c.if-answer-eq0.false (omega (arith, c.number-least.ensures))
