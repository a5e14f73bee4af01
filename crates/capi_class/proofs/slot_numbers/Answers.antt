use mathlib.Core.Path.{sym, ap, ◌∙◌}
use Rattle.rules.specs.Classes.{slot_numbers}
use Rattle.capi_class.proofs.slot_numbers.Goals as goal

pub returns-in-CLEAN : goal.returns-in-CLEAN
unfolding slot_numbers
returns-in-CLEAN c = c.bare.ensures ∙ ap slot_numbers (sym c.in-CLEAN.is)

pub returns-in-HOLE : goal.returns-in-HOLE
unfolding slot_numbers
returns-in-HOLE c = c.bare-in-HOLE.ensures ∙ ap slot_numbers (sym c.in-HOLE.is)

pub returns-in-MULTIPLE : goal.returns-in-MULTIPLE
unfolding slot_numbers
returns-in-MULTIPLE c = c.bare-in-MULTIPLE.ensures ∙ ap slot_numbers (sym c.in-MULTIPLE.is)

pub returns-in-DANGLING : goal.returns-in-DANGLING
unfolding slot_numbers
returns-in-DANGLING c = c.bare-in-DANGLING.ensures ∙ ap slot_numbers (sym c.in-DANGLING.is)

pub returns-in-BLANK : goal.returns-in-BLANK
unfolding slot_numbers
returns-in-BLANK c = c.bare-in-BLANK.ensures ∙ ap slot_numbers (sym c.in-BLANK.is)

pub returns-in-UNMATCHED : goal.returns-in-UNMATCHED
unfolding slot_numbers
returns-in-UNMATCHED c = ap slot_numbers (sym c.in-UNMATCHED.is)

pub returns-in-OWNER : goal.returns-in-OWNER
unfolding slot_numbers
returns-in-OWNER c = c.bare-in-OWNER.ensures ∙ ap slot_numbers (sym c.in-OWNER.is)

pub returns-in-WRONGOST : goal.returns-in-WRONGOST
unfolding slot_numbers
returns-in-WRONGOST c = c.bare-in-WRONGOST.ensures ∙ ap slot_numbers (sym c.in-WRONGOST.is)
