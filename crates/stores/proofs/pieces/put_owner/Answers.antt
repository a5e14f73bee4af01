use Rattle.stores.proofs.StoreLaws.{owner_nested}
use Rattle.stores.proofs.pieces.put_owner.Goals as goal

pub returns : goal.returns
returns c = let a = c.args in cc (owner_nested a.row.now a.at a.w)
