use Rattle.tables.specs.Bytes.{layout_length}
use Rattle.tables.proofs.rows.layout_len.Goals as goal

pub returns : goal.returns
unfolding layout_length
returns c = c.get.ensures
