-- Tables of earlier editions that are refused: their rows aren't whole, or a stripe size is impossible. Assumes nothing.
use Prim.Native.Nat.{ℕ, zero, suc, ◌-◌, ◌*◌, ◌/◌, ◌≤◌}
use native.Mathlib.Nat.{mul-suc}
use native.Mathlib.Omega.{arith}
use mathlib.Core.Path.{◌≡◌, refl, sym, ◌∙◌}
use mathlib.Core.Bool.{Bool, true, false, ◌&&◌, true≢false}
use mathlib.Core.List.{List}
use lib.ListN.{length}
use lib.Dec.{eqb, leb}
use borrow.Author.Tests.{ne_eqb}
use Rattle.layout.specs.Layout.{decode_header, known_version, known_pattern, possible_stripe, good_header, accepted_layout}
use Rattle.wire.proofs.Both.{and_second}
use Rattle.layout.proofs.LayoutLaws.{accepted_facts}
use Rattle.tables.specs.Bytes.{parent_size, layout_length, layout_bytes, layout_room}
use Rattle.tables.specs.Check.{max_parents, whole_rows, parents_whole, tables_whole, first_failing, tables_tests, tables_number, input_tests, check_number, good_layout, good_layouts}
use Rattle.tables.proofs.SoundLaws.{used_passes, layout_at_lem}
use Rattle.examples.specs.Earlier.{narrow_size, Narrow, EveryNarrow, Impossible, EveryImpossible}

-- ## At most 160 slots

-- 3,205 rows of then would be the first to be whole rows of now: n rows are, only where 3,205 divides n
never_whole : (n q : ℕ) → 1 ≤ n → n ≤ max_parents → parent_size * q ≡ narrow_size * n → ⊥
never_whole n q some few e = go (1756 * q - 143 * n) (omega arith)
  where
    go : (k : ℕ) → n ≡ 3205 * k → ⊥
    go zero d = omega arith
    go (suc k) d = omega (arith, mul-suc 3205 k)

not_whole : (l : List ℕ) → Narrow l → whole_rows parent_size max_parents l ≡ false
unfolding whole_rows
not_whole l w =
    let f : eqb (parent_size * (length l / parent_size)) (length l) ≡ false =
    ne_eqb (parent_size * (length l / parent_size)) (length l)
    (λ e. never_whole w.rows (length l / parent_size) w.some w.few (e ∙ w.long)) in
    rw f

pub every_narrow : EveryNarrow
unfolding EveryNarrow tables_number tables_tests check_number input_tests first_failing tables_whole parents_whole
every_narrow l w = record { tables = λ o. rw (not_whole l w); input = λ o s policy at. rw (not_whole l w) }

-- ## Any stripe size

-- a good header's stripe size is possible
stripe_of : (l : List ℕ) → good_header (decode_header l) ≡ true → possible_stripe (decode_header l).stripe ≡ true
unfolding good_header
stripe_of l g =
    and_second (known_version (decode_header l) && known_pattern (decode_header l)) (possible_stripe (decode_header l).stripe) g

row_stripe : (row : List ℕ) → good_layout row ≡ true → possible_stripe (decode_header (layout_bytes row)).stripe ≡ true
unfolding good_layout
row_stripe row g =
    stripe_of (layout_bytes row) (accepted_facts (layout_bytes row) (and_second (leb (layout_length row) layout_room) (accepted_layout (layout_bytes row)) g)).known

not_good : (p : List ℕ) → Impossible p → good_layouts p ≡ false
not_good p w = go (good_layouts p) refl
  where
    go : (b : Bool) → good_layouts p ≡ b → b ≡ false
    go false e = refl
    go true e =
        let g = used_passes good_layout w.row (layout_at_lem p w.row w.r e w.there w.stands) w.in_use in
        absurd (true≢false (sym (row_stripe w.row g) ∙ w.size))

pub every_impossible : EveryImpossible
unfolding EveryImpossible tables_number tables_tests check_number input_tests first_failing
every_impossible p w =
    let f = not_good p w in
    record { tables = λ o k. rw (k, f); input = λ o s policy at k m. rw (k, m, f) }
