use Rattle.linkea.specs.Walk.{place_after}
use Rattle.linkea_walk.proofs.second.Goals as goal

pub returns : goal.returns
unfolding place_after
returns c = rw (c.next.ensures, c.rest.ensures.1, c.rest.ensures.0, c.open.ensures.1, c.open.ensures.0)
