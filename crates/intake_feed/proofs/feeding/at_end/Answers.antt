use native.Mathlib.Omega.{arith}
use Rattle.intake_feed.proofs.EndLaws.{end_stopped, end_open, end_line, end_none}
use Rattle.intake_feed.proofs.feeding.at_end.Goals as goal

pub returns-then-k-ne0 : goal.returns-then-k-ne0
returns-then-k-ne0 c = let a = c.args in end_stopped a.k (omega arith) (c.requires.1 c.if-k-ne0.true) c.if-k-ne0.true

pub returns-then-x-ne0 : goal.returns-then-x-ne0
returns-then-x-ne0 c = let a = c.args in end_open a.k c.if-k-ne0.false _ c.if-x-ne0.true c.unclosed.ensures

pub returns-then-x-ne0-2 : goal.returns-then-x-ne0-2
returns-then-x-ne0-2 c = let a = c.args in end_line a.k c.if-k-ne0.false c.if-x-ne0.false _ c.if-x-ne0-2.true c.unclosed-then-x-ne0-2.ensures

pub returns : goal.returns
returns c = let a = c.args in end_none a.k c.if-k-ne0.false c.if-x-ne0.false c.if-x-ne0-2.false
