use Rattle.std.proofs.Common.{arith}
use Rattle.std.proofs.lemmas.Grind.{common_steps}
use Rattle.tables.specs.Bytes.{object_rows}
use Rattle.tables.specs.Check.{objects_whole}
use Rattle.checks.proofs.whole.objects_whole.Goals as goal

pub returns-then-used_marks : goal.returns-then-used_marks
unfolding objects_whole object_rows
returns-then-used_marks c = grind (arith, common_steps)

pub returns-else-used_marks : goal.returns-else-used_marks
unfolding objects_whole object_rows
returns-else-used_marks c = grind (arith, common_steps)
