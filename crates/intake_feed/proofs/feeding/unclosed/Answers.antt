use Rattle.intake_feed.specs.End.{unclosed_at}
use Rattle.intake_feed.proofs.feeding.unclosed.Goals as goal

pub returns : goal.returns
unfolding unclosed_at
returns c = rw c.number.ensures
