-- The slots of a striping layout: a slot as its 24 bytes, and the slots of a slot area.
use Rattle.std.specs.Prelude.{ℕ, zero, suc, ◌+◌, ◌*◌, List, [], ◌∷◌, ◌++◌, Bool, true, false, cond, ◌&&◌, drop, replicate, leb, eqb}
use Rattle.wire.specs.Numbers.{le, bytes}
use Rattle.fid.specs.Fid.{fid_size, decode_fid, encode_fid, good_object, same_fid}
use Rattle.fid.specs.declared.Fid.{Fid}
use Rattle.fid.specs.declared.OstFid.{OstFid}
use Rattle.layout.specs.declared.Slot.{Slot}
use Rattle.layout.specs.declared.Slot.TheVariants.{Hole, Names}

-- "24 bytes: object FID 16, generation 4, OST index 4": where generation and index stand
abbrev pub slot_generation_at : ℕ
slot_generation_at = fid_size

abbrev pub slot_index_at : ℕ
slot_index_at = slot_generation_at + 4

abbrev pub slot_size : ℕ
slot_size = slot_index_at + 4

-- "24 zero bytes are a hole", told by the five numbers of a slot
unfoldable pub zero_slot : Fid → ℕ → ℕ → Bool
zero_slot f g i = eqb f.seq 0 && eqb f.oid 0 && eqb f.ver 0 && eqb g 0 && eqb i 0

unfoldable pub slot_from : Fid → ℕ → ℕ → Slot
slot_from f g i = cond (zero_slot f g i) Hole (Names (record { 0 = f }) g i)

-- the slot that a list begins with
unfoldable pub decode_slot : List ℕ → Slot
decode_slot l = slot_from (decode_fid l) (le 4 (drop slot_generation_at l)) (le 4 (drop slot_index_at l))

-- and its bytes
unfoldable pub encode_slot : Slot → List ℕ
encode_slot Hole = replicate slot_size 0
encode_slot (Names f g i) = encode_fid f.0 ++ bytes 4 g ++ bytes 4 i

-- the first n slots of a slot area
unfoldable pub decode_slots : ℕ → List ℕ → List Slot
decode_slots zero area = []
decode_slots (suc n) area = decode_slot area ∷ decode_slots n (drop slot_size area)

unfoldable pub encode_slots : List Slot → List ℕ
encode_slots [] = []
encode_slots (s ∷ ss) = encode_slot s ++ encode_slots ss

-- slot j of a slot area
unfoldable pub slot_of : List ℕ → ℕ → Slot
slot_of area j = decode_slot (drop (slot_size * j) area)

-- the greatest OST index
abbrev pub max_index : ℕ
max_index = 65535

-- "A slot has a good FID and an index of at most 65,535; under the hole pattern only, 24 zero bytes are a hole"
unfoldable pub allowed_slot : Bool → Slot → Bool
allowed_slot holes Hole = holes
allowed_slot holes (Names f g i) = good_object f && leb i max_index

unfoldable pub allowed_slots : Bool → List Slot → Bool
allowed_slots holes [] = true
allowed_slots holes (s ∷ ss) = allowed_slot holes s && allowed_slots holes ss

-- whether two slots are the same
unfoldable pub same_slot : Slot → Slot → Bool
same_slot Hole Hole = true
same_slot Hole (Names f g i) = false
same_slot (Names f g i) Hole = false
same_slot (Names f g i) (Names h n k) = same_fid f.0 h.0 && eqb g n && eqb i k

-- whether two lists of slots are the same, in number too
unfoldable pub same_slots : List Slot → List Slot → Bool
same_slots [] [] = true
same_slots [] (t ∷ ts) = false
same_slots (s ∷ ss) [] = false
same_slots (s ∷ ss) (t ∷ ts) = same_slot s t && same_slots ss ts

-- whether a slot names an object
unfoldable pub slot_names : OstFid → Slot → Bool
slot_names f Hole = false
slot_names f (Names g n i) = same_fid g.0 f.0
