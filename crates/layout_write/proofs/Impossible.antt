-- No function on a layout takes an impossible stripe size. Assumes nothing.
use Prim.Native.Nat.{ℕ, ◌-◌, ◌*◌}
use mathlib.Core.Path.{◌≡◌}
use mathlib.Core.Bool.{false, ◌&&◌}
use mathlib.Core.List.{List}
use lib.ListN.{length}
use lib.Dec.{eqb}
use Rattle.wire.proofs.Both.{and_none}
use Rattle.layout.specs.Layout.{plain_header, header_size, decode_header, decode_layout, known_version, known_pattern, possible_stripe, good_header, exact_length, layout_rules, accepted_layout}
use Rattle.layout.specs.Answers.{read_layout, read_number, read_slot, slot_read_number, rewrite_answer, rewrite_bytes}
use Rattle.layout.specs.declared.Header.{Header}
use Rattle.layout.specs.declared.Slot.{Slot}
use Rattle.layout_write.specs.Writer.{slot_numbers, all_given, given_slots, writable, write_layout, written_number, left_by, write_bytes}
use Rattle.layout_write.specs.Impossible.{EveryImpossibleLayout, EveryImpossibleFields}

rules_refuse : (h : Header) (ss : List Slot) → possible_stripe h.stripe ≡ false → layout_rules h ss ≡ false
unfolding layout_rules good_header
rules_refuse h ss e = rw (e, and_none (known_version h && known_pattern h))

not_accepted : (l : List ℕ) → possible_stripe (decode_header l).stripe ≡ false → accepted_layout l ≡ false
unfolding accepted_layout
not_accepted l e = rw (rules_refuse (decode_header l) (decode_layout l).slots e) (and_none (exact_length l))

pub every_impossible_layout : EveryImpossibleLayout
unfolding EveryImpossibleLayout read_layout read_number read_slot slot_read_number rewrite_answer rewrite_bytes
every_impossible_layout l e =
    let a = not_accepted l e in
    record { read = rw a; slot = λ j. rw a; rewrite = λ j s. rw a; stays = λ j s. rw a }

not_writable : (h : Header) (n : ℕ) (pool numbers : List ℕ) → possible_stripe h.stripe ≡ false → writable h n pool numbers ≡ false
unfolding writable
not_writable h n pool numbers e =
    rw (rules_refuse h (given_slots numbers n 0) e)
    (and_none (eqb (length numbers) (slot_numbers * n) && all_given numbers n 0 && eqb (length pool) (header_size h.magic - plain_header)))

pub every_impossible_fields : EveryImpossibleFields
unfolding EveryImpossibleFields write_layout written_number write_bytes left_by
every_impossible_fields h n pool numbers dest e =
    let w = not_writable h n pool numbers e in
    record { answer = rw w; stays = rw w }
