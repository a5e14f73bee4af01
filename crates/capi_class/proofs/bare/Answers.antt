use Rattle.rules.specs.Classes.{only}
use Rattle.capi_class.proofs.bare.Goals as goal

pub returns : goal.returns
unfolding only
returns c = cc
