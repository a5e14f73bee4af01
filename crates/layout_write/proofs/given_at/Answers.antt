use Rattle.layout_write.specs.Writer.{given_at}
use Rattle.layout_write.proofs.given_at.Goals as goal

pub returns : goal.returns
unfolding given_at
returns c = c.given_from.ensures
