use Rattle.stores.proofs.StoreLaws.{holes_filled}
use Rattle.stores.proofs.pieces.put_holes.Goals as goal

pub returns : goal.returns
returns c = let a = c.args in holes_filled a.at a.count a.row.now _ (c.fill.ensures.after (λ y k. k)) c.requires
