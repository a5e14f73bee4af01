use mathlib.Core.Path.{sym, ap}
use Rattle.intake_state.specs.State.{half_number}
use Rattle.intake_state.proofs.state.half_number.Goals as goal

pub returns-in-Even : goal.returns-in-Even
unfolding half_number
returns-in-Even c = sym (ap half_number c.in-Even.is)

pub returns-in-Odd : goal.returns-in-Odd
unfolding half_number
returns-in-Odd c = sym (ap half_number c.in-Odd.is)

pub returns-in-Broken : goal.returns-in-Broken
unfolding half_number
returns-in-Broken c = sym (ap half_number c.in-Broken.is)
