use Rattle.fid.proofs.SameLaws.{eq_same}
use mathlib.Core.Path.{ap, sym, ◌∙◌}
use Rattle.layout.specs.Slot.{slot_names}
use Rattle.layout.proofs.names.Goals as goal

pub returns-in-Hole : goal.returns-in-Hole
unfolding slot_names
returns-in-Hole c = ap (slot_names _) (sym c.in-Hole.is)

pub returns-in-Names : goal.returns-in-Names
unfolding slot_names
returns-in-Names c = c.eq.ensures ∙ eq_same _ _ ∙ ap (slot_names _) (sym c.in-Names.is)
