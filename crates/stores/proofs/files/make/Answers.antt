use Rattle.stores.proofs.FileLaws.{make_part}
use Rattle.stores.proofs.files.make.Goals as goal

pub returns : goal.returns
returns c = let d = c in let a = d.args in make_part a.parents.now a.r a.f a.i a.w a.s _ d.requires.0 d.requires.1 c.make.ensures
