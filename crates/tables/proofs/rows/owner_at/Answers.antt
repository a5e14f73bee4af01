use Rattle.tables.proofs.RowReads.{owner_is}
use Rattle.tables.proofs.rows.owner_at.Goals as goal

pub returns : goal.returns
returns c = let a = c.args in owner_is a.row.now a.at _ _ c.get.ensures c.get-2.ensures
