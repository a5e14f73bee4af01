use Rattle.stores.proofs.parents.put_front.Goals as goal

pub returns : goal.returns
returns c = cc
