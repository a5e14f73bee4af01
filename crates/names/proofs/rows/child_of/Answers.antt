use Rattle.names.specs.Rows.{decode_entry, child_row}
use Rattle.names.proofs.rows.child_of.Goals as goal

pub returns : goal.returns
unfolding decode_entry child_row
returns c = c.get.ensures
