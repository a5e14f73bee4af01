use Rattle.layout.specs.Layout.{stripe_count}
use Rattle.layout.proofs.stripe_count.Goals as goal

pub returns : goal.returns
unfolding stripe_count
returns c = c.get.ensures
