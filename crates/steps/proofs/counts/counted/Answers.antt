use native.Mathlib.Omega.{arith}
use Rattle.rules.proofs.CountLaws.{number_below}
use Rattle.steps.proofs.RunLaws.{counted_is}
use Rattle.steps.proofs.counts.counted.Goals as goal

pub offset_bounds-of-n : goal.offset_bounds-of-n
offset_bounds-of-n c = omega (arith, number_below c.args.r, c.repair_number-n.ensures)

pub bounds-of-n : goal.bounds-of-n
bounds-of-n c = omega (arith, number_below c.args.r, c.repair_number-n.ensures)

pub overflow_add-of : goal.overflow_add-of
overflow_add-of c = omega (arith, c.requires.most c.repair_number-n.result)

pub bounds-of-n-2 : goal.bounds-of-n-2
bounds-of-n-2 c = omega (arith, number_below c.args.r, c.repair_number-n.ensures)

pub returns : goal.returns
returns c = counted_is c.args.c c.requires c.args.r c.repair_number-n.result c.repair_number-n.ensures
