use native.Mathlib.Omega.{arith}
use mathlib.Core.Path.{◌≡◌, sym, ◌∙◌}
use Rattle.std.proofs.Common.{rules}
use Rattle.std.specs.Prelude.{Err}
use Rattle.layout.proofs.LayoutLaws.{read_taken, slot_bad, slot_past, slot_is, accepted_exact, accepted_long, accepted_size, area_long}
use Rattle.layout.proofs.read_slot.Goals as goal

pub returns-in_err-count : goal.returns-in_err-count
returns-in_err-count c =
    let e : c.from_residual.result ≡ Err c.in_err-count.field-0.0 = search rules in
    e ∙ slot_bad _ _ _ (sym c.read.ensures ∙ c.in_err-count.was)

pub returns-then-count-j : goal.returns-then-count-j
returns-then-count-j c =
    let t = read_taken _ _ _ (sym c.read.ensures ∙ c.in_ok-count.was) in
    slot_past _ _ _ t.0 (sym t.2) (omega arith)

pub slot_start-start-requires : goal.slot_start-start-requires
slot_start-start-requires c =
    let t = read_taken _ _ _ (sym c.read.ensures ∙ c.in_ok-count.was) in
    omega (arith, accepted_long _ t.0)

pub slice_bounds-slot_at-count : goal.slice_bounds-slot_at-count
slice_bounds-slot_at-count c =
    let t = read_taken _ _ _ (sym c.read.ensures ∙ c.in_ok-count.was) in
    omega (arith, accepted_size _ _ _ t.0 c.slot_start-start.ensures (sym t.2))

pub slice_bounds-slot_at-start : goal.slice_bounds-slot_at-start
slice_bounds-slot_at-start c =
    let t = read_taken _ _ _ (sym c.read.ensures ∙ c.in_ok-count.was) in
    omega (arith, accepted_size _ _ _ t.0 c.slot_start-start.ensures (sym t.2))

pub slot_at-requires : goal.slot_at-requires
slot_at-requires c =
    let t = read_taken _ _ _ (sym c.read.ensures ∙ c.in_ok-count.was) in
    omega (arith, area_long _ _ _ (accepted_exact _ t.0) c.slot_start-start.ensures (sym t.2))

pub returns : goal.returns
returns c =
    let t = read_taken _ _ _ (sym c.read.ensures ∙ c.in_ok-count.was) in
    slot_is _ _ _ _ _ t.0 (sym t.2) c.slot_start-start.ensures (omega arith) c.slot_at.ensures
