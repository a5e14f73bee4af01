use mathlib.Core.Bool.{true}
use mathlib.Core.Path.{◌≡◌, sym, ap, ◌∙◌}
use native.Mathlib.Omega.{arith}
use Rattle.tables.proofs.SoundLaws.{LayoutOf, layout_of_row}
use Rattle.layout.specs.Layout.{accepted_layout}
use Rattle.layout.proofs.LayoutLaws.{LayoutFacts, accepted_facts}
use Rattle.search.proofs.SlotArea.{area_unused, area_used}
use Rattle.search.proofs.slots.slot_area.Goals as goal
use Rattle.search.proofs.slots.slot_area.Goals.{After-layout_of-layout, Else-not-is_used}

facts : (c : goal.Else-not-is_used) → LayoutOf c.args.row.now
facts c = layout_of_row _ c.requires.0 c.requires.1 (sym c.is_used.ensures ∙ c.if-not-is_used.false)

accepted : (c : goal.After-layout_of-layout) → accepted_layout c.layout_of-layout.result.now ≡ true
accepted c = ap accepted_layout c.layout_of-layout.ensures.0 ∙ ((layout_of_row _ c.requires.0 c.requires.1 (sym c.is_used.ensures ∙ c.if-not-is_used.false))).accepted

layout_facts : (c : goal.After-layout_of-layout) → LayoutFacts c.layout_of-layout.result.now
layout_facts c = accepted_facts _ (accepted c)

pub returns-then-not-is_used : goal.returns-then-not-is_used
returns-then-not-is_used c = area_unused _ (sym c.is_used.ensures ∙ c.if-not-is_used.true)

pub layout_of-layout-requires : goal.layout_of-layout-requires
layout_of-layout-requires c = (c.requires.0, (facts c).room)

pub slot_start-start-requires : goal.slot_start-start-requires
slot_start-start-requires c = omega (arith, layout_facts c)

pub slice_bounds-result-count : goal.slice_bounds-result-count
slice_bounds-result-count c = omega (arith, layout_facts (goal.at.slice_bounds-result-count c).After-layout_of-layout, c.slot_start-start.ensures)

pub slice_bounds-result-start : goal.slice_bounds-result-start
slice_bounds-result-start c = omega (arith, layout_facts (goal.at.slice_bounds-result-start c).After-layout_of-layout, c.slot_start-start.ensures)

pub returns : goal.returns
returns c =
    let d = c in
    area_used _ _ _ (sym d.is_used.ensures ∙ d.if-not-is_used.false) c.layout_of-layout.ensures.0 (accepted (goal.at.returns c).After-layout_of-layout) c.slot_start-start.ensures
