use mathlib.Core.Path.{◌∙◌}
use native.Mathlib.Omega.{arith}
use Rattle.tables.specs.Bytes.{parse}
use Rattle.tables.specs.Positions.{place}
use Rattle.tables.proofs.PositionLaws.{part_past, part_next}
use Rattle.positions.proofs.after_part.Goals as goal

pub returns-then-width-part : goal.returns-then-width-part
returns-then-width-part c =
    let a = c.args in
    c.from_parent.ensures
    ∙ part_past (parse a.parents.now a.objects.now) a.row a.part _
    c.width.ensures (omega arith)

pub returns : goal.returns
unfolding place
returns c =
    let a = c.args in
    part_next (parse a.parents.now a.objects.now) a.row a.part _
    c.width.ensures (omega arith)
