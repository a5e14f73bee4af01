use mathlib.Core.Path.{sym, ap, ◌∙◌}
use Rattle.rules.specs.Classes.{header_numbers}
use Rattle.capi_class.proofs.header_numbers.Goals as goal

pub returns-in-CLEAN : goal.returns-in-CLEAN
unfolding header_numbers
returns-in-CLEAN c = c.bare.ensures ∙ ap header_numbers (sym c.in-CLEAN.is)

pub returns-in-SELF : goal.returns-in-SELF
unfolding header_numbers
returns-in-SELF c = c.bare-in-SELF.ensures ∙ ap header_numbers (sym c.in-SELF.is)

pub returns-in-UNUSED : goal.returns-in-UNUSED
unfolding header_numbers
returns-in-UNUSED c = c.bare-in-UNUSED.ensures ∙ ap header_numbers (sym c.in-UNUSED.is)
