use mathlib.Core.Path.{sym, ap, ◌∙◌}
use native.Mathlib.Omega.{arith}
use Rattle.layout.specs.Layout.{stripe_count}
use Rattle.tables.proofs.PositionLaws.{slots_unused, slots_used}
use Rattle.tables.proofs.SoundLaws.{LayoutOf, layout_of_row}
use Rattle.positions.proofs.row_width.Goals as goal
use Rattle.positions.proofs.row_width.Goals.{Else-not-is_used}

facts : (c : goal.Else-not-is_used) → LayoutOf c.args.row.now
facts c = layout_of_row _ c.requires.0 c.requires.1 (sym c.is_used.ensures ∙ c.if-not-is_used.false)

pub returns-then-not-is_used : goal.returns-then-not-is_used
returns-then-not-is_used c = slots_unused c.args.row.now (sym c.is_used.ensures ∙ c.if-not-is_used.true)

pub layout_of-requires : goal.layout_of-requires
layout_of-requires c = (c.requires.0, (facts c).room)

pub stripe_count-requires : goal.stripe_count-requires
stripe_count-requires c = omega (arith, facts (goal.at.stripe_count-requires c).Else-not-is_used)

pub returns : goal.returns
returns c =
    c.stripe_count.ensures ∙ ap stripe_count c.layout_of.ensures.0
    ∙ slots_used c.args.row.now (sym c.is_used.ensures ∙ c.if-not-is_used.false)
