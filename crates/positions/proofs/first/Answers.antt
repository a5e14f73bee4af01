use Rattle.tables.specs.Positions.{start}
use Rattle.positions.proofs.first.Goals as goal

pub returns : goal.returns
unfolding start
returns c = c.from_parent.ensures
