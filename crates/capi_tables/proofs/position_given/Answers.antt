use Rattle.tables.specs.Positions.{place}
use Rattle.capi_tables.proofs.TableNumbers.{given_other, given_three}
use Rattle.capi_tables.proofs.position_given.Goals as goal

pub returns-then-position-ne3 : goal.returns-then-position-ne3
unfolding place
returns-then-position-ne3 c = given_other c.args.position.now c.if-position-ne3.true

pub returns : goal.returns
unfolding place
returns c = given_three c.args.position.now c.if-position-ne3.false
