use native.Mathlib.Omega.{arith}
use mathlib.Core.Path.{sym, ◌∙◌}
use Rattle.intake_feed.proofs.EndLaws.{ended_bad, ended_short, ended_told, end_requires}
use Rattle.intake_state.proofs.TestLaws.{state_long}
use Rattle.intake_feed.specs.End.{DumpEnded}
use Rattle.intake_feed.proofs.feeding.end.Goals as goal

pub returns-then-not-good_state : goal.returns-then-not-good_state
unfolding DumpEnded
returns-then-not-good_state c = let a = c.args in ended_bad a.s.now a.out.now (sym c.good_state.ensures ∙ c.if-not-good_state.true)

pub returns-then-out-lt1 : goal.returns-then-out-lt1
unfolding DumpEnded
returns-then-out-lt1 c = let a = c.args in ended_short a.s.now a.out.now (sym c.good_state.ensures ∙ c.if-not-good_state.false) (omega arith)

pub load-requires : goal.load-requires
load-requires c = let a = c.args in omega (arith, state_long a.s.now (sym c.good_state.ensures ∙ c.if-not-good_state.false))

pub at_end-requires : goal.at_end-requires
at_end-requires c = let a = c.args in end_requires a.s.now a.out.now (sym c.good_state.ensures ∙ c.if-not-good_state.false) _ c.load.ensures

pub returns : goal.returns
unfolding DumpEnded
returns c = let a = c.args in ended_told a.s.now a.out.now (sym c.good_state.ensures ∙ c.if-not-good_state.false) (omega arith) _ _ _ _ c.load.ensures c.at_end.ensures c.told.ensures
