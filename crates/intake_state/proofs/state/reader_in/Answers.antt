use mathlib.Core.Path.{ap, ◌∙◌}
use Rattle.intake_state.specs.State.{half_of}
use Rattle.intake_state.proofs.NumberLaws.{reader_are}
use Rattle.intake_state.proofs.state.reader_in.Goals as goal

pub returns : goal.returns
returns c = reader_are _ _ _ _ _ _ _ _ c.marks_in-m.ensures c.number_at-seen.ensures (c.half_of-half.ensures ∙ ap half_of c.number_at.ensures) c.number_at-size.ensures c.line_in-line.ensures c.number_at-2.ensures c.number_at-3.ensures
