use native.Mathlib.Omega.{arith}
use mathlib.Core.Path.{sym, ◌∙◌}
use borrow.Author.Tests.{eq-eqb}
use Rattle.intake_state.proofs.TestLaws.{line_seen, line_half, line_size, line_head, line_digit, line_none}
use Rattle.intake_state.proofs.tests.good_line.Goals as goal

pub returns-then-x-gt-HEAD_SIZE : goal.returns-then-x-gt-HEAD_SIZE
returns-then-x-gt-HEAD_SIZE c = line_seen c.args.x (omega arith)

pub returns-then-not-good_half : goal.returns-then-not-good_half
returns-then-not-good_half c = line_half c.args.x (omega arith) (sym c.good_half.ensures ∙ c.if-not-good_half.true)

pub returns-then-x-gt-MAX_READ : goal.returns-then-x-gt-MAX_READ
returns-then-x-gt-MAX_READ c = line_size c.args.x (omega arith) (sym c.good_half.ensures ∙ c.if-not-good_half.false) (omega arith)

pub returns-then-x-eq-HEAD_SIZE : goal.returns-then-x-eq-HEAD_SIZE
returns-then-x-eq-HEAD_SIZE c =
    eq-eqb _ _ c.if-x-eq-HEAD_SIZE.true
    ∙ line_head c.args.x (omega arith) (sym c.good_half.ensures ∙ c.if-not-good_half.false) (omega arith) c.if-x-eq-HEAD_SIZE.true

pub returns-then-is_even : goal.returns-then-is_even
returns-then-is_even c =
    line_none c.args.x (omega arith) (sym c.good_half.ensures ∙ c.if-not-good_half.false) (omega arith) c.if-x-eq-HEAD_SIZE.false (sym c.is_even.ensures ∙ c.if-is_even.true)

pub returns-else-is_even : goal.returns-else-is_even
returns-else-is_even c =
    c.if-is_even.false
    ∙ line_digit c.args.x (omega arith) (sym c.good_half.ensures ∙ c.if-not-good_half.false) (omega arith) c.if-x-eq-HEAD_SIZE.false (sym c.is_even.ensures ∙ c.if-is_even.false)
