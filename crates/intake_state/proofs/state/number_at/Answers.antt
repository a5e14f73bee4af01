use Rattle.intake_state.specs.State.{number_at}
use Rattle.intake_state.proofs.state.number_at.Goals as goal

pub returns : goal.returns
unfolding number_at
returns c = c.get.ensures
