use mathlib.Core.Path.{sym, ap}
use Rattle.intake_state.specs.State.{good_half}
use Rattle.intake_state.proofs.TestLaws.{half_other}
use Rattle.intake_state.proofs.tests.good_half.Goals as goal

pub returns-in-Odd : goal.returns-in-Odd
unfolding good_half
returns-in-Odd c = sym (ap good_half c.in-Odd.is)

pub returns-in_default : goal.returns-in_default
returns-in_default c = half_other c.args.half c.in_default.not-Odd
