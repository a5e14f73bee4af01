use mathlib.Core.Path.{sym, ap, ◌∙◌}
use Rattle.rules.specs.Classes.{class_numbers}
use Rattle.capi_class.proofs.class_numbers.Goals as goal

pub returns-in-Header : goal.returns-in-Header
unfolding class_numbers
returns-in-Header c = c.header_numbers.ensures ∙ ap class_numbers (sym c.in-Header.is)

pub returns-in-Slot : goal.returns-in-Slot
unfolding class_numbers
returns-in-Slot c = c.slot_numbers.ensures ∙ ap class_numbers (sym c.in-Slot.is)

pub returns-in-Object : goal.returns-in-Object
unfolding class_numbers
returns-in-Object c = c.object_numbers.ensures ∙ ap class_numbers (sym c.in-Object.is)
