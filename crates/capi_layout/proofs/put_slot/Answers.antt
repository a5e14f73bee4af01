use Rattle.capi_layout.proofs.LayoutNumbers.{hole_put, names_put}
use Rattle.capi_layout.proofs.put_slot.Goals as goal

pub returns-in-Hole : goal.returns-in-Hole
returns-in-Hole c = hole_put _ _ _ _ c.in-Hole.is c.put_four.ensures c.put.ensures

pub returns-in-Names : goal.returns-in-Names
returns-in-Names c = names_put _ _ _ _ c.in-Names.f c.in-Names.g c.in-Names.i c.in-Names.is c.put_four-in-Names.ensures c.put-in-Names.ensures
