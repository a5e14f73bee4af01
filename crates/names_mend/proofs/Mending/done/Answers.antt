use Rattle.names_mend.specs.Mending.{answer_of}
use Rattle.names_mend.proofs.Mending.done.Goals as goal

pub returns-then-self : goal.returns-then-self
unfolding answer_of
returns-then-self c = cc

pub returns : goal.returns
unfolding answer_of
returns c = cc
