use Rattle.std.proofs.Common.{arith}
use Rattle.std.proofs.lemmas.Grind.{common_steps}
use Rattle.tables.specs.Positions.{in_stage_one}
use Rattle.tables.proofs.PositionLaws.{parsed_parents}
use Rattle.positions.proofs.in_stage_one.Goals as goal

pub returns-then-r-parent_count : goal.returns-then-r-parent_count
unfolding in_stage_one
returns-then-r-parent_count c = grind (arith, common_steps, parsed_parents)

pub returns-else-r-parent_count : goal.returns-else-r-parent_count
unfolding in_stage_one
returns-else-r-parent_count c = grind (arith, common_steps, parsed_parents)
