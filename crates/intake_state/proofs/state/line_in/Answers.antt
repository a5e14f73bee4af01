use native.Mathlib.Omega.{arith}
use Rattle.intake_state.proofs.NumberLaws.{line_short, line_full}
use Rattle.intake_state.proofs.state.line_in.Goals as goal

pub returns-then-seen-lt-HEAD_SIZE : goal.returns-then-seen-lt-HEAD_SIZE
returns-then-seen-lt-HEAD_SIZE c = let a = c.args in line_short a.state.now a.m a.seen a.half a.size c.if-seen-lt-HEAD_SIZE.true

pub returns : goal.returns
returns c = let a = c.args in line_full a.state.now a.m a.seen a.half a.size _ _ _ (omega arith) c.kind_of-k.ensures c.base_of.ensures c.most_of.ensures
