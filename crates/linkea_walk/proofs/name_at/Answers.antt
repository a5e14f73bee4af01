use Rattle.std.proofs.Common.{arith}
use Rattle.linkea.specs.Walk.{name_given}
use Rattle.linkea_walk.proofs.FoundLaws.{found_inside, name_part}
use Rattle.linkea_walk.proofs.name_at.Goals as goal

pub overflow_add-result : goal.overflow_add-result
overflow_add-result c =
    let h = found_inside c.args.l.now c.args.p c.in-Ok-Some.x (rw (← c.step_at.ensures, c.in-Ok-Some.is, c.in-Ok-Some.field-0-is)) in
    record { fits = omega (arith, h) }

pub slice_bounds-result-end : goal.slice_bounds-result-end
slice_bounds-result-end c =
    found_inside c.args.l.now c.args.p c.in-Ok-Some.x (rw (← c.step_at.ensures, c.in-Ok-Some.is, c.in-Ok-Some.field-0-is))

pub returns-in-Ok-Some : goal.returns-in-Ok-Some
returns-in-Ok-Some c = name_part c.args.l.now c.args.p c.in-Ok-Some.x (rw (← c.step_at.ensures, c.in-Ok-Some.is, c.in-Ok-Some.field-0-is))

pub returns-in-Ok-None : goal.returns-in-Ok-None
unfolding name_given
returns-in-Ok-None c = rw (← c.step_at.ensures, c.in-Ok-None.is, c.in-Ok-None.field-0-is)

pub returns-in-Err : goal.returns-in-Err
unfolding name_given
returns-in-Err c = rw (← c.step_at.ensures, c.in-Err.is)
