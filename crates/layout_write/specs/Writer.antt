-- What the writer takes, answers and leaves in the destination, refusals first. Document 01, "The striping layout".
use Rattle.std.specs.Prelude.{ℕ, zero, suc, ◌+◌, ◌*◌, ◌-◌, List, [], ◌∷◌, Bool, true, false, cond, ◌&&◌, length, get_or, leb, eqb, Option, Some, None, Result, Ok, Err}
use Rattle.std.proofs.lemmas.List.Edits.{sets}
use Rattle.wire.specs.Numbers.{max_word}
use Rattle.layout.specs.Layout.{Layout, plain_header, encode_layout, header_size, layout_size, layout_rules}
use Rattle.layout.specs.declared.Header.{Header}
use Rattle.layout.specs.declared.Slot.{Slot}
use Rattle.layout.specs.declared.Slot.TheVariants.{Hole, Names}
use Rattle.refusals.specs.Numbers.{answer}
use Rattle.refusals.specs.declared.Refusal.{Refusal}
use Rattle.refusals.specs.declared.Refusal.TheVariants.{BadLayout, TooShort}

-- ## Slots as numbers

-- slots are handed in and out as five numbers each
abbrev pub slot_numbers : ℕ
slot_numbers = 5

-- "0 hole or 1 named, sequence, id, generation, OST index"
unfoldable pub slot_fields : Slot → List ℕ
slot_fields Hole = 0 ∷ 0 ∷ 0 ∷ 0 ∷ 0 ∷ []
slot_fields (Names f g i) = 1 ∷ f.0.seq ∷ f.0.oid ∷ g ∷ i ∷ []

-- the numbers of what the slot reader says
unfoldable pub slot_read_fields : Result Slot Refusal → List ℕ
slot_read_fields (Err e) = []
slot_read_fields (Ok s) = slot_fields s

-- handed in, a hole where all are 0
unfoldable pub zero_given : ℕ → ℕ → ℕ → ℕ → ℕ → Bool
zero_given k s o g i = eqb k 0 && eqb s 0 && eqb o 0 && eqb g 0 && eqb i 0

-- else 1, sequence, id, generation and OST index, of which the last three fit 32 bits
unfoldable pub names_given : ℕ → ℕ → ℕ → ℕ → Bool
names_given k o g i = eqb k 1 && leb o max_word && leb g max_word && leb i max_word

-- any other first number, or one that doesn't fit its field, is no slot
unfoldable pub given_from : ℕ → ℕ → ℕ → ℕ → ℕ → Option Slot
given_from k s o g i =
    cond (zero_given k s o g i) (Some Hole)
    (cond (names_given k o g i) (Some (Names (record { 0 = record { seq = s; oid = o; ver = 0 } }) g i)) None)

unfoldable pub given_at : List ℕ → ℕ → Option Slot
given_at l j = given_from (get_or l (slot_numbers * j) 0) (get_or l (slot_numbers * j + 1) 0) (get_or l (slot_numbers * j + 2) 0) (get_or l (slot_numbers * j + 3) 0) (get_or l (slot_numbers * j + 4) 0)

unfoldable pub is_slot : Option Slot → Bool
is_slot None = false
is_slot (Some s) = true

unfoldable pub slot_given : Option Slot → Slot
slot_given None = Hole
slot_given (Some s) = s

-- the n slots from the j-th on
unfoldable pub given_slots : List ℕ → ℕ → ℕ → List Slot
given_slots l zero j = []
given_slots l (suc n) j = slot_given (given_at l j) ∷ given_slots l n (suc j)

unfoldable pub all_given : List ℕ → ℕ → ℕ → Bool
all_given l zero j = true
all_given l (suc n) j = is_slot (given_at l j) && all_given l n (suc j)

-- ## The writer

-- the layout that is handed to the writer
unfoldable pub given_layout : Header → ℕ → List ℕ → List ℕ → Layout
given_layout h n pool numbers = record { header = h; pool = pool; slots = given_slots numbers n 0 }

-- "the writer refuses fields or slots outside these rules with 13": as many slots as counted, each a slot,
-- a pool name with version 3 alone, and the rules of a layout
unfoldable pub writable : Header → ℕ → List ℕ → List ℕ → Bool
writable h n pool numbers =
    eqb (length numbers) (slot_numbers * n) && all_given numbers n 0 && eqb (length pool) (header_size h.magic - plain_header)
    && layout_rules h (given_slots numbers n 0)

-- "before it looks at the room (17)"
unfoldable pub write_layout : Header → ℕ → List ℕ → List ℕ → List ℕ → Result ℕ Refusal
write_layout h n pool numbers dest =
    cond (writable h n pool numbers)
    (cond (leb (layout_size h.magic n) (length dest)) (Ok (layout_size h.magic n)) (Err TooShort)) (Err BadLayout)

unfoldable pub written_number : Result ℕ Refusal → ℕ
written_number = answer

-- the destination: the layout's bytes in front, all else unchanged
unfoldable pub left_by : Result ℕ Refusal → List ℕ → List ℕ → List ℕ
left_by (Err e) layout dest = dest
left_by (Ok n) layout dest = sets dest 0 layout

unfoldable pub write_bytes : Header → ℕ → List ℕ → List ℕ → List ℕ → List ℕ
write_bytes h n pool numbers dest = left_by (write_layout h n pool numbers dest) (encode_layout (given_layout h n pool numbers)) dest
