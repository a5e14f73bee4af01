use mathlib.Core.Path.{sym, ◌∙◌}
use native.Mathlib.Omega.{arith}
use Rattle.tables.proofs.SoundLaws.{LayoutOf, layout_at_lem, layout_of_row}
use Rattle.classify_places.proofs.HeaderLaws.{header_unused, header_clean, header_self}
use Rattle.classify_places.proofs.headers.header_class.Goals as goal
use Rattle.classify_places.proofs.headers.header_class.Goals.{Else-not-is_used}

facts : (c : goal.Else-not-is_used) → LayoutOf c.row_at-row.result.now
facts c =
    let a = c in
    layout_of_row _ c.row_at-row.ensures.1 (layout_at_lem a.args.parents.now _ a.args.r a.requires.0 a.requires.1 c.row_at-row.ensures.0)
    (sym c.is_used.ensures ∙ c.if-not-is_used.false)

pub returns-then-not-is_used : goal.returns-then-not-is_used
returns-then-not-is_used c =
    let a = c in
    header_unused a.args.parents.now a.args.r _ a.requires.1 c.row_at-row.ensures.0 (sym c.is_used.ensures ∙ c.if-not-is_used.true)

pub layout_of-requires : goal.layout_of-requires
layout_of-requires c = (c.row_at-row.ensures.1, (facts c).room)

pub read_header-header-requires : goal.read_header-header-requires
read_header-header-requires c = omega (arith, facts (goal.at.read_header-header-requires c).Else-not-is_used, (facts (goal.at.read_header-header-requires c).Else-not-is_used).facts)

pub returns-then-own_right : goal.returns-then-own_right
returns-then-own_right c =
    let a = c in
    header_clean a.args.parents.now a.args.r _ a.requires.1 c.row_at-row.ensures.0 (sym c.is_used.ensures ∙ c.if-not-is_used.false)
    _ c.layout_of.ensures.0 _ c.read_header-header.ensures _ c.self_of.ensures _ c.own_right.ensures c.if-own_right.true

pub returns-else-own_right : goal.returns-else-own_right
returns-else-own_right c =
    let a = c in
    header_self a.args.parents.now a.args.r _ a.requires.1 c.row_at-row.ensures.0 (sym c.is_used.ensures ∙ c.if-not-is_used.false)
    _ c.layout_of.ensures.0 _ c.read_header-header.ensures _ c.self_of.ensures _ c.own_right.ensures c.if-own_right.false
