use Rattle.names.specs.Rows.{name_length}
use Rattle.names.proofs.rows.name_len.Goals as goal

pub returns : goal.returns
unfolding name_length
returns c = c.get.ensures
