use Rattle.fid.specs.Fid.{good_object}
use Rattle.std.proofs.Common.{rules, arith}
use Rattle.layout.specs.Slot.{allowed_slot}
use Rattle.layout.proofs.allowed_slot.Goals as goal

pub returns-in-Hole : goal.returns-in-Hole
unfolding allowed_slot
returns-in-Hole c = search rules

pub returns-then-is_good : goal.returns-then-is_good
unfolding allowed_slot good_object
returns-then-is_good c = grind arith

pub returns-else-is_good : goal.returns-else-is_good
unfolding allowed_slot good_object
returns-else-is_good c = search rules
