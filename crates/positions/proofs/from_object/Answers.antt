use mathlib.Core.Path.{◌∙◌}
use native.Mathlib.Omega.{arith}
use Rattle.tables.specs.Positions.{place}
use Rattle.tables.proofs.PositionLaws.{object_past, object_is_lem}
use Rattle.positions.proofs.from_object.Goals as goal

pub returns-then-object_count-o : goal.returns-then-object_count-o
returns-then-object_count-o c = let a = c.args in c.end.ensures ∙ object_past a.objects.now a.o (omega arith)

pub returns : goal.returns
unfolding place
returns c = let a = c.args in object_is_lem a.objects.now a.o (omega arith)
