use Rattle.linkea.specs.Walk.{onward}
use Rattle.linkea_walk.proofs.next_place.Goals as goal

pub returns-in-Ok-Some : goal.returns-in-Ok-Some
unfolding onward
returns-in-Ok-Some c = rw (← c.step_at.ensures, c.in-Ok-Some.is, c.in-Ok-Some.field-0-is)

pub returns-in-Ok-None : goal.returns-in-Ok-None
unfolding onward
returns-in-Ok-None c = rw (← c.step_at.ensures, c.in-Ok-None.is, c.in-Ok-None.field-0-is)

pub returns-in-Err : goal.returns-in-Err
unfolding onward
returns-in-Err c = rw (← c.step_at.ensures, c.in-Err.is)
