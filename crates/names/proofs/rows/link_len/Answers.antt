use Rattle.names.specs.Rows.{link_length}
use Rattle.names.proofs.rows.link_len.Goals as goal

pub returns : goal.returns
unfolding link_length
returns c = c.get.ensures
