use mathlib.Core.Path.{ap, ◌∙◌}
use Rattle.layout.specs.Layout.{slot_start, header_size}
use Rattle.layout.proofs.slot_start.Goals as goal

pub returns : goal.returns
unfolding slot_start
returns c = c.header_size.ensures ∙ ap header_size c.get.ensures
