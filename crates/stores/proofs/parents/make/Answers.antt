use Rattle.stores.proofs.RowStores.{made_nested}
use Rattle.stores.proofs.parents.make.Goals as goal

pub returns : goal.returns
returns c = let d = c in let a = d.args in cc (made_nested a.row.now a.f a.i a.w a.s d.requires.0 d.requires.1)
