-- An impossible stripe size in every function on a layout. "Refuse them with 13, also for layouts with no slots": whatever else is wrong, so before
-- 16 and 17, and nothing is written. Document 02, 2026-08.
use Rattle.std.specs.Prelude.{ℕ, ◌≡◌, false, List}
use Rattle.layout.specs.Layout.{decode_header, possible_stripe}
use Rattle.layout.specs.Answers.{read_layout, read_number, read_slot, slot_read_number, rewrite_answer, rewrite_bytes}
use Rattle.layout.specs.declared.Header.{Header}
use Rattle.layout.specs.declared.Slot.{Slot}
use Rattle.layout_write.specs.Writer.{write_layout, written_number, write_bytes}

-- bytes whose stripe size is impossible: to the reader, the slot reader and the slot rewrite
pub record LayoutRefused (l : List ℕ) : Type 0 where
  pub read : read_number (read_layout l) ≡ 13
  pub slot : (j : ℕ) → slot_read_number (read_slot l j) ≡ 13
  pub rewrite : (j : ℕ) (s : Slot) → rewrite_answer l j s ≡ 13
  pub stays : (j : ℕ) (s : Slot) → rewrite_bytes l j s ≡ l

-- fields whose stripe size is impossible: to the writer, whatever stripe count, pool name and slots go with them
pub record FieldsRefused (h : Header) (n : ℕ) (pool numbers dest : List ℕ) : Type 0 where
  pub answer : written_number (write_layout h n pool numbers dest) ≡ 13
  pub stays : write_bytes h n pool numbers dest ≡ dest

unfoldable pub EveryImpossibleLayout : Type 0
EveryImpossibleLayout = (l : List ℕ) → possible_stripe (decode_header l).stripe ≡ false → LayoutRefused l

unfoldable pub EveryImpossibleFields : Type 0
EveryImpossibleFields = (h : Header) (n : ℕ) (pool numbers dest : List ℕ) → possible_stripe h.stripe ≡ false → FieldsRefused h n pool numbers dest
