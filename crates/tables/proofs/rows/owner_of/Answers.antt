use Rattle.tables.specs.Bytes.{decode_parent}
use Rattle.tables.proofs.rows.owner_of.Goals as goal

pub returns : goal.returns
unfolding decode_parent
returns c = c.owner_at.ensures
