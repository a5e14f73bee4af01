-- The striping layout as its bytes and back, and its rules one by one. Document 01, "The striping layout".
use Rattle.std.specs.Prelude.{ℕ, ◌+◌, ◌-◌, ◌*◌, ◌%◌, List, ◌++◌, Bool, cond, not, ◌&&◌, ◌||◌, length, take, drop, set, leb, eqb}
use Rattle.wire.specs.Numbers.{le, bytes}
use Rattle.layout.specs.Slot.{slot_size, decode_slots, encode_slots, allowed_slots, same_slots}
use Rattle.layout.specs.declared.Header.{Header}
use Rattle.layout.specs.declared.Slot.{Slot}

-- a header, the pool name of version 3, and the slots; the stripe count is the number of slots
pub record Layout : Type 0 where
  pub header : Header
  pub pool : List ℕ
  pub slots : List Slot

-- "Version 1, magic 0x0BD10BD0", "Version 3, magic 0x0BD30BD0"
abbrev pub magic_one : ℕ
magic_one = 0x0bd10bd0

abbrev pub magic_three : ℕ
magic_three = 0x0bd30bd0

-- "magic 4, pattern 4, own id 8, own sequence 8, stripe size 4, stripe count 2, generation 2": where each stands
abbrev pub pattern_at : ℕ
pattern_at = 4

abbrev pub own_id_at : ℕ
own_id_at = pattern_at + 4

abbrev pub own_sequence_at : ℕ
own_sequence_at = own_id_at + 8

abbrev pub stripe_size_at : ℕ
stripe_size_at = own_sequence_at + 8

abbrev pub stripe_count_at : ℕ
stripe_count_at = stripe_size_at + 4

abbrev pub generation_at : ℕ
generation_at = stripe_count_at + 2

-- "header 32 bytes"
abbrev pub plain_header : ℕ
plain_header = generation_at + 2

-- "the same and 16 bytes of pool name, 48 in all"
abbrev pub pool_size : ℕ
pool_size = 16

abbrev pub pool_header : ℕ
pool_header = plain_header + pool_size

unfoldable pub header_size : ℕ → ℕ
header_size magic = cond (eqb magic magic_three) pool_header plain_header

unfoldable pub decode_header : List ℕ → Header
decode_header l =
    record {
      magic = le 4 l;
      pattern = le 4 (drop pattern_at l);
      oid = le 8 (drop own_id_at l);
      seq = le 8 (drop own_sequence_at l);
      stripe = le 4 (drop stripe_size_at l);
      generation = le 2 (drop generation_at l);
    }

unfoldable pub stripe_count : List ℕ → ℕ
stripe_count l = le 2 (drop stripe_count_at l)

-- the plain header with a stripe count
unfoldable pub encode_header : Header → ℕ → List ℕ
encode_header h count =
    bytes 4 h.magic ++ bytes 4 h.pattern ++ bytes 8 h.oid ++ bytes 8 h.seq ++ bytes 4 h.stripe
    ++ bytes 2 count ++ bytes 2 h.generation

-- where the slots start: after the header
unfoldable pub slot_start : List ℕ → ℕ
slot_start l = header_size (le 4 l)

-- "The slots follow the header and are handled as the part of the bytes after it"
unfoldable pub decode_layout : List ℕ → Layout
decode_layout l =
    record {
      header = decode_header l;
      pool = take (slot_start l - plain_header) (drop plain_header l);
      slots = decode_slots (stripe_count l) (drop (slot_start l) l);
    }

unfoldable pub encode_layout : Layout → List ℕ
encode_layout L = encode_header L.header (length L.slots) ++ L.pool ++ encode_slots L.slots

-- ## Other slots

-- the greatest generation, and how many there are
abbrev pub last_generation : ℕ
last_generation = 65535

abbrev pub generations : ℕ
generations = last_generation + 1

-- "raises that layout's generation by one, 65,535 going to 0"
unfoldable pub next_generation : ℕ → ℕ
next_generation g = cond (eqb g last_generation) 0 (g + 1)

unfoldable pub at_generation : Header → ℕ → Header
at_generation h g = record { magic = h.magic; pattern = h.pattern; oid = h.oid; seq = h.seq; stripe = h.stripe; generation = g }

-- the header of a layout whose slots have changed
unfoldable pub raised : Header → Header
raised h = at_generation h (next_generation h.generation)

-- the generation of a layout that comes to have these slots: raised exactly where the slots, or their number, differ
unfoldable pub generation_with : Layout → List Slot → ℕ
generation_with L ss = cond (same_slots L.slots ss) L.header.generation (next_generation L.header.generation)

-- the layout with these slots in place of its own: the one place where a generation changes
unfoldable pub restriped : Layout → List Slot → Layout
restriped L ss = record { header = at_generation L.header (generation_with L ss); pool = L.pool; slots = ss }

-- a changed slot: the layout with slot j changed
unfoldable pub changed : Layout → ℕ → Slot → Layout
changed L j s = restriped L (set L.slots j s)

-- ## The rules

unfoldable pub known_version : Header → Bool
known_version h = eqb h.magic magic_one || eqb h.magic magic_three

abbrev pub plain_pattern : ℕ
plain_pattern = 1

abbrev pub hole_pattern : ℕ
hole_pattern = 0x40000001

-- "Pattern 1, or 0x40000001 (with holes)"
unfoldable pub known_pattern : Header → Bool
known_pattern h = eqb h.pattern plain_pattern || eqb h.pattern hole_pattern

unfoldable pub with_holes : Header → Bool
with_holes h = eqb h.pattern hole_pattern

-- of what a stripe size is a multiple: "65,536"
abbrev pub stripe_unit : ℕ
stripe_unit = 65536

-- "layouts whose stripe size was 0 or not a multiple of 65,536" are refused
unfoldable pub possible_stripe : ℕ → Bool
possible_stripe size = not (eqb size 0) && eqb (size % stripe_unit) 0

-- the rules on a header, whatever its slots: "also for layouts with no slots"
unfoldable pub good_header : Header → Bool
good_header h = known_version h && known_pattern h && possible_stripe h.stripe

-- "Raise 160 to 2,000 slots"
abbrev pub max_slots : ℕ
max_slots = 2000

unfoldable pub few_slots : ℕ → Bool
few_slots n = leb n max_slots

-- the bytes of the longest layout, which the room of a row holds: 48 of header and 24 times the slots, "48,048 bytes"
abbrev pub max_layout : ℕ
max_layout = pool_header + slot_size * max_slots

-- the bytes of a layout of n slots
unfoldable pub layout_size : ℕ → ℕ → ℕ
layout_size magic n = header_size magic + slot_size * n

-- "The length is exactly header plus 24 times count"
unfoldable pub exact_length : List ℕ → Bool
exact_length l = eqb (length l) (layout_size (le 4 l) (stripe_count l))

-- the rules on header and slots. "Own id and sequence [..], generations and pool name may be anything"
unfoldable pub layout_rules : Header → List Slot → Bool
layout_rules h ss = good_header h && few_slots (length ss) && allowed_slots (with_holes h) ss

-- the layouts that are read: anything else is 13
unfoldable pub accepted_layout : List ℕ → Bool
accepted_layout l = exact_length l && layout_rules (decode_header l) (decode_layout l).slots
