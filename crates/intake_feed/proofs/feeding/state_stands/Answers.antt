use native.Mathlib.Omega.{arith}
use mathlib.Core.Path.{sym, ◌∙◌}
use Rattle.intake_feed.proofs.FedLaws.{stands_not, stands_if}
use Rattle.intake_state.proofs.TestLaws.{state_long}
use Rattle.intake_feed.proofs.feeding.state_stands.Goals as goal

pub owners_reach-requires : goal.owners_reach-requires
owners_reach-requires c = let a = c.args in omega (arith, state_long a.s.now (sym c.good_state.ensures ∙ c.if-good_state.true))

pub returns-then-good_state : goal.returns-then-good_state
returns-then-good_state c = let a = c.args in stands_if a.s.now a.file.now _ (sym c.good_state.ensures ∙ c.if-good_state.true) c.owners_reach.ensures

pub returns-else-good_state : goal.returns-else-good_state
returns-else-good_state c = let a = c.args in c.if-good_state.false ∙ stands_not a.s.now a.file.now (sym c.good_state.ensures ∙ c.if-good_state.false)
