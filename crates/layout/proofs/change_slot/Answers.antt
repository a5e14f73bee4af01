use mathlib.Core.Path.{refl, sym, ◌∙◌}
use native.Mathlib.Omega.{arith}
use Rattle.std.proofs.Common.{rules}
use Rattle.wire.proofs.NumberLaws.{Bytes}
use Rattle.layout.proofs.LayoutLaws.{exact_long, exact_size, area_long, has_slot_is, placed, place_long, stays_spliced, spliced}
use Rattle.layout.proofs.StripeLaws.{slots_equal}
use Rattle.layout.proofs.change_slot.Goals as goal

pub slot_start-start-requires : goal.slot_start-start-requires
slot_start-start-requires c = omega (arith, exact_long _ c.requires.0)

pub slice_bounds-slot_at-count : goal.slice_bounds-slot_at-count
slice_bounds-slot_at-count c = omega (arith, exact_size _ c.requires.0, c.slot_start-start.ensures)

pub slice_bounds-slot_at-start : goal.slice_bounds-slot_at-start
slice_bounds-slot_at-start c = omega (arith, exact_size _ c.requires.0, c.slot_start-start.ensures)

pub slot_at-requires : goal.slot_at-requires
slot_at-requires c = omega (arith, c.requires.1, area_long _ _ _ c.requires.0 c.slot_start-start.ensures refl)

pub returns-then-eq : goal.returns-then-eq
unfolding Bytes
returns-then-eq c =
    let a = c.args in
    let h = has_slot_is _ _ _ _ _ _ c.slot_start-start.ensures c.slot_at.ensures (c.eq.ensures ∙ slots_equal _ _) in
    stays_spliced a.layout.now a.j a.s (λ i. search rules) c.requires.0 c.requires.1 (sym c.if-eq.true ∙ h)

pub get-g-requires : goal.get-g-requires
get-g-requires c = omega (arith, exact_long _ c.requires.0)

pub overflow_mul-a : goal.overflow_mul-a
overflow_mul-a c = omega (arith, c.requires.1, exact_size _ c.requires.0)

pub overflow_add-a : goal.overflow_add-a
overflow_add-a c = omega (arith, c.requires.1, exact_size _ c.requires.0, c.slot_start-start.ensures)

pub overflow_add-e : goal.overflow_add-e
overflow_add-e c = omega (arith, c.requires.1, exact_size _ c.requires.0, c.slot_start-start.ensures)

pub slice_bounds-put_slot-end : goal.slice_bounds-put_slot-end
slice_bounds-put_slot-end c = omega (arith, c.requires.1, exact_size _ c.requires.0, c.slot_start-start.ensures)

pub put-requires : goal.put-requires
put-requires c =
    let a = c.args in
    place_long a.layout.now a.j a.s _ c.requires.0 (placed _ _ _ _ _ c.requires.0 c.slot_start-start.ensures c.requires.1 c.put_slot.ensures)

pub returns : goal.returns
unfolding Bytes
returns c =
    let a = c.args in
    let h = has_slot_is _ _ _ _ _ _ c.slot_start-start.ensures c.slot_at.ensures (c.eq.ensures ∙ slots_equal _ _) in
    let p = placed _ _ _ _ _ c.requires.0 c.slot_start-start.ensures c.requires.1 c.put_slot.ensures in
    spliced a.layout.now a.j a.s (λ i. search rules) c.requires.0 c.requires.1 _ _ _ _
    (sym c.if-eq.false ∙ h) c.get-g.ensures p c.next_generation.ensures c.put.ensures
