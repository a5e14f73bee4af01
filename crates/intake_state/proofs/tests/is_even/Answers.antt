use mathlib.Core.Path.{sym, ap}
use Rattle.intake_state.specs.State.{is_even}
use Rattle.intake_state.proofs.TestLaws.{not_even}
use Rattle.intake_state.proofs.tests.is_even.Goals as goal

pub returns-in-Even : goal.returns-in-Even
unfolding is_even
returns-in-Even c = sym (ap is_even c.in-Even.is)

pub returns-in_default : goal.returns-in_default
returns-in_default c = not_even c.args.half c.in_default.not-Even
