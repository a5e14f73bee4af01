use Rattle.intake_state.proofs.NumberLaws.{three_put}
use Rattle.intake_state.proofs.state.put_three.Goals as goal

pub returns : goal.returns
returns c = three_put _ _ _ _ _ _ _ _ c.put.ensures c.put-2.ensures c.put-3.ensures
