-- E2 through the writer: "Layout of P with A = [0x240000400:0x10:0] on OST 3, 56 bytes, in full". Assumes nothing.
use mathlib.Core.Path.{◌≡◌, refl}
use mathlib.Core.List.{List, [], ◌∷◌, ◌++◌}
use Prim.Native.Nat.{ℕ}
use lib.ListN.{replicate}
use Rattle.wire.specs.Numbers.{bytes}
use Rattle.fid.specs.Fid.{encode_fid, good_sequence, good_number, good_fid, good_object}
use Rattle.layout.specs.declared.Header.{Header}
use Rattle.layout.specs.Slot.{encode_slot, encode_slots, allowed_slot, allowed_slots}
use Rattle.layout.specs.Layout.{magic_one, plain_pattern, header_size, encode_header, encode_layout, known_version, known_pattern, possible_stripe, good_header, with_holes, few_slots, layout_size, layout_rules}
use Rattle.std.specs.Prelude.{Ok}
use Rattle.layout_write.specs.Writer.{zero_given, names_given, given_from, given_at, is_slot, slot_given, given_slots, all_given, given_layout, writable, write_layout, left_by, write_bytes}

-- P's header: version 1, no holes, own id and sequence those of P = [0x200000401:1:0], stripe size 1,048,576, generation 0
pub header : Header
header = record { magic = magic_one; pattern = plain_pattern; oid = 1; seq = 0x200000401; stripe = 1048576; generation = 0 }

-- slot 0: A, generation 0, OST 3
pub numbers : List ℕ
numbers = 1 ∷ 0x240000400 ∷ 0x10 ∷ 0 ∷ 3 ∷ []

pub E2 : List ℕ
E2 =
    208 ∷ 11 ∷ 209 ∷ 11 ∷ 1 ∷ 0 ∷ 0 ∷ 0 ∷ 1 ∷ 0 ∷ 0 ∷ 0 ∷ 0 ∷ 0 ∷ 0 ∷ 0 ∷
    1 ∷ 4 ∷ 0 ∷ 0 ∷ 2 ∷ 0 ∷ 0 ∷ 0 ∷ 0 ∷ 0 ∷ 16 ∷ 0 ∷ 1 ∷ 0 ∷ 0 ∷ 0 ∷
    0 ∷ 4 ∷ 0 ∷ 64 ∷ 2 ∷ 0 ∷ 0 ∷ 0 ∷ 16 ∷ 0 ∷ 0 ∷ 0 ∷ 0 ∷ 0 ∷ 0 ∷ 0 ∷
    0 ∷ 0 ∷ 0 ∷ 0 ∷ 3 ∷ 0 ∷ 0 ∷ 0 ∷ []

-- written over 58 bytes, it leaves the last two
pub E2-written : (write_layout header 1 [] numbers (replicate 58 7) ≡ Ok 56) × (write_bytes header 1 [] numbers (replicate 58 7) ≡ E2 ++ 7 ∷ 7 ∷ [])
unfolding header numbers E2 bytes encode_fid good_sequence good_number good_fid good_object encode_slot encode_slots allowed_slot allowed_slots header_size encode_header encode_layout known_version known_pattern possible_stripe good_header with_holes few_slots layout_size layout_rules zero_given names_given given_from given_at is_slot slot_given given_slots all_given given_layout writable write_layout left_by write_bytes
E2-written = (refl, refl)
