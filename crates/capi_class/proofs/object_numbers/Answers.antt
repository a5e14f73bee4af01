use mathlib.Core.Path.{sym, ap, ◌∙◌}
use Rattle.rules.specs.Classes.{object_numbers}
use Rattle.capi_class.proofs.object_numbers.Goals as goal

pub returns-in-SPARE : goal.returns-in-SPARE
unfolding object_numbers
returns-in-SPARE c = c.bare.ensures ∙ ap object_numbers (sym c.in-SPARE.is)

pub returns-in-EMPTY : goal.returns-in-EMPTY
unfolding object_numbers
returns-in-EMPTY c = c.bare-in-EMPTY.ensures ∙ ap object_numbers (sym c.in-EMPTY.is)

pub returns-in-ORPHAN : goal.returns-in-ORPHAN
unfolding object_numbers
returns-in-ORPHAN c = c.bare-in-ORPHAN.ensures ∙ ap object_numbers (sym c.in-ORPHAN.is)

pub returns-in-CONFLICT : goal.returns-in-CONFLICT
unfolding object_numbers
returns-in-CONFLICT c = c.bare-in-CONFLICT.ensures ∙ ap object_numbers (sym c.in-CONFLICT.is)

pub returns-in-KEPT : goal.returns-in-KEPT
unfolding object_numbers
returns-in-KEPT c = c.bare-in-KEPT.ensures ∙ ap object_numbers (sym c.in-KEPT.is)

pub returns-in-UNUSED : goal.returns-in-UNUSED
unfolding object_numbers
returns-in-UNUSED c = c.bare-in-UNUSED.ensures ∙ ap object_numbers (sym c.in-UNUSED.is)
