use Rattle.intake_state.proofs.TestLaws.{bare_lov, bare_fid, bare_lma}
use Rattle.intake_state.proofs.tests.bare.Goals as goal

pub returns-then-m-ne0 : goal.returns-then-m-ne0
returns-then-m-ne0 c = bare_lov _ c.if-m-ne0.true

pub returns-then-m-ne0-2 : goal.returns-then-m-ne0-2
returns-then-m-ne0-2 c = bare_fid _ c.if-m-ne0.false c.if-m-ne0-2.true

pub returns : goal.returns
returns c = bare_lma _ c.if-m-ne0.false c.if-m-ne0-2.false
