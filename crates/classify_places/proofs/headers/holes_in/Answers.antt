use mathlib.Core.Path.{sym, ◌∙◌}
use native.Mathlib.Omega.{arith}
use Rattle.tables.proofs.SoundLaws.{LayoutOf, layout_at_lem, layout_of_row}
use Rattle.classify_places.proofs.HeaderLaws.{holes_unused, holes_used}
use Rattle.classify_places.proofs.headers.holes_in.Goals as goal
use Rattle.classify_places.proofs.headers.holes_in.Goals.{Else-not-is_used}

facts : (c : goal.Else-not-is_used) → LayoutOf c.row_at-row.result.now
facts c =
    let a = c in
    layout_of_row _ c.row_at-row.ensures.1 (layout_at_lem a.args.parents.now _ a.args.r a.requires.0 a.requires.1 c.row_at-row.ensures.0)
    (sym c.is_used.ensures ∙ c.if-not-is_used.false)

pub returns-then-not-is_used : goal.returns-then-not-is_used
returns-then-not-is_used c =
    let a = c in
    holes_unused a.args.parents.now a.args.r _ a.requires.1 c.row_at-row.ensures.0 (sym c.is_used.ensures ∙ c.if-not-is_used.true)

pub layout_of-requires : goal.layout_of-requires
layout_of-requires c = (c.row_at-row.ensures.1, (facts c).room)

pub read_header-requires : goal.read_header-requires
read_header-requires c = omega (arith, facts (goal.at.read_header-requires c).Else-not-is_used, (facts (goal.at.read_header-requires c).Else-not-is_used).facts)

pub returns : goal.returns
returns c =
    let a = c in
    holes_used a.args.parents.now a.args.r _ a.requires.1 c.row_at-row.ensures.0 (sym c.is_used.ensures ∙ c.if-not-is_used.false)
    _ c.layout_of.ensures.0 _ c.read_header.ensures _ c.with_holes.ensures
