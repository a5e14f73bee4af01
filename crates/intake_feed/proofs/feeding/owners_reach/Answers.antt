use mathlib.Core.Path.{ap}
use lib.ListN.{length}
use lib.Dec.{leb}
use Rattle.intake_state.specs.declared.Kept.{Kept}
use Rattle.intake_feed.proofs.feeding.owners_reach.Goals as goal

pub returns : goal.returns
returns c = ap (λ (k : Kept). leb k.taken (length c.args.file.now)) c.load-k.ensures
