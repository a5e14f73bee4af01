use Rattle.intake_state.proofs.NumberLaws.{kept_are}
use Rattle.intake_state.proofs.state.load.Goals as goal

pub returns : goal.returns
returns c = kept_are _ _ _ _ _ c.reader_in-reader.ensures c.number_at.ensures c.number_at-2.ensures c.number_at-3.ensures
