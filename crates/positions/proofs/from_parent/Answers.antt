use mathlib.Core.Path.{◌∙◌}
use native.Mathlib.Omega.{arith}
use Rattle.tables.specs.Positions.{place}
use Rattle.tables.proofs.PositionLaws.{parent_past, parent_is}
use Rattle.positions.proofs.from_parent.Goals as goal

pub returns-then-parent_count-r : goal.returns-then-parent_count-r
returns-then-parent_count-r c = let a = c.args in c.from_object.ensures ∙ parent_past a.parents.now a.objects.now a.r (omega arith)

pub returns : goal.returns
unfolding place
returns c = let a = c.args in parent_is a.parents.now a.objects.now a.r (omega arith)
