use Rattle.intake_state.proofs.NumberLaws.{marks_are}
use Rattle.intake_state.proofs.state.marks_in.Goals as goal

pub returns : goal.returns
returns c = marks_are _ _ _ _ c.number_at.ensures c.number_at-2.ensures c.number_at-3.ensures
