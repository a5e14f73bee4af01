use Rattle.std.proofs.Common.{arith}
use Rattle.std.proofs.lemmas.Grind.{common_steps}
use Rattle.tables.specs.Positions.{in_stage_two}
use Rattle.tables.proofs.PositionLaws.{parsed_objects}
use Rattle.positions.proofs.in_stage_two.Goals as goal

pub returns-then-row-object_count : goal.returns-then-row-object_count
unfolding in_stage_two
returns-then-row-object_count c = grind (arith, common_steps, parsed_objects)

pub returns-else-row-object_count : goal.returns-else-row-object_count
unfolding in_stage_two
returns-else-row-object_count c = grind (arith, common_steps, parsed_objects)
