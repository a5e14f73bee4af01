use native.Mathlib.Omega.{arith}
use mathlib.Core.Path.{sym, ap}
use Rattle.intake_state.specs.State.{half_of}
use Rattle.intake_state.proofs.ReloadLaws.{half_odd}
use Rattle.intake_state.proofs.state.half_of.Goals as goal

pub returns-in-0 : goal.returns-in-0
unfolding half_of
returns-in-0 c = sym (ap half_of c.in-0.is)

pub returns-in-17 : goal.returns-in-17
unfolding half_of
returns-in-17 c = sym (ap half_of c.in-17.is)

pub returns-in_default : goal.returns-in_default
returns-in_default c = half_odd c.args.n (λ z. omega arith) (λ z. omega arith)
