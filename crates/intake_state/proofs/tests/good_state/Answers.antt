use Rattle.intake_state.proofs.TestLaws.{state_size_lem, state_kept}
use Rattle.intake_state.proofs.tests.good_state.Goals as goal

pub returns-then-s-ne-STATE_SIZE : goal.returns-then-s-ne-STATE_SIZE
returns-then-s-ne-STATE_SIZE c = let a = c.args in state_size_lem a.s.now c.if-s-ne-STATE_SIZE.true

pub returns : goal.returns
returns c = let a = c.args in state_kept a.s.now _ _ c.if-s-ne-STATE_SIZE.false c.load.ensures c.good_kept.ensures
