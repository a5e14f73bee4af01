use native.Mathlib.Omega.{arith}
use mathlib.Core.Path.{sym, ◌∙◌}
use Rattle.layout.proofs.LayoutLaws.{accepted_length, accepted_rules, area_slots, exact_long, exact_size}
use Rattle.layout.proofs.accepted.Goals as goal

pub returns-then-not-exact_length : goal.returns-then-not-exact_length
returns-then-not-exact_length c = accepted_length _ (sym c.exact_length.ensures ∙ c.if-not-exact_length.true)

pub read_header-h-requires : goal.read_header-h-requires
read_header-h-requires c = exact_long _ (sym c.exact_length.ensures ∙ c.if-not-exact_length.false)

pub stripe_count-n-requires : goal.stripe_count-n-requires
stripe_count-n-requires c = omega (arith, exact_long _ (sym c.exact_length.ensures ∙ c.if-not-exact_length.false))

pub slot_start-start-requires : goal.slot_start-start-requires
slot_start-start-requires c = omega (arith, exact_long _ (sym c.exact_length.ensures ∙ c.if-not-exact_length.false))

pub slice_bounds-allowed_slots-count : goal.slice_bounds-allowed_slots-count
slice_bounds-allowed_slots-count c =
    let x = (sym c.exact_length.ensures ∙ c.if-not-exact_length.false) in
    omega (arith, exact_size _ x, c.slot_start-start.ensures)

pub slice_bounds-allowed_slots-start : goal.slice_bounds-allowed_slots-start
slice_bounds-allowed_slots-start c =
    let x = (sym c.exact_length.ensures ∙ c.if-not-exact_length.false) in
    omega (arith, exact_size _ x, c.slot_start-start.ensures)

pub returns-then-n-le-MAX_SLOTS : goal.returns-then-n-le-MAX_SLOTS
returns-then-n-le-MAX_SLOTS c =
    let x = (sym c.exact_length.ensures ∙ c.if-not-exact_length.false) in
    let a = accepted_rules _ _ _ c.read_header-h.ensures c.stripe_count-n.ensures x in
    let s = area_slots _ _ _ x c.slot_start-start.ensures c.stripe_count-n.ensures in
    grind (arith, a, s)

pub returns-else-n-le-MAX_SLOTS : goal.returns-else-n-le-MAX_SLOTS
returns-else-n-le-MAX_SLOTS c =
    let a = accepted_rules _ _ _ c.read_header-h.ensures c.stripe_count-n.ensures (sym c.exact_length.ensures ∙ c.if-not-exact_length.false) in
    grind (arith, a)
