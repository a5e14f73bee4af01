-- What the readers and the slot rewrite answer and leave in the lent bytes, refusals first.
use Rattle.std.specs.Prelude.{ℕ, ◌+◌, ◌*◌, ◌≡◌, List, Bool, false, cond, ◌&&◌, ◌||◌, length, get_or, leb, ltb, eqb, Result, Ok, Err}
use Rattle.refusals.specs.Numbers.{answer}
use Rattle.refusals.specs.declared.Refusal.{Refusal}
use Rattle.refusals.specs.declared.Refusal.TheVariants.{BadLayout, NoPlace}
use Rattle.layout.specs.Slot.{slot_size, allowed_slot}
use Rattle.layout.specs.Layout.{generation_at, slot_start, decode_header, decode_layout, encode_layout, changed, accepted_layout, stripe_count, with_holes}
use Rattle.layout.specs.declared.Header.{Header}
use Rattle.layout.specs.declared.Slot.{Slot}
use Rattle.layout.specs.declared.Slot.TheVariants.{Hole}

-- ## The reader

-- header and stripe count of a layout that the rules accept
unfoldable pub read_layout : List ℕ → Result (Header × ℕ) Refusal
read_layout l = cond (accepted_layout l) (Ok (decode_header l, stripe_count l)) (Err BadLayout)

-- "13: layout not as above"
unfoldable pub read_number : Result (Header × ℕ) Refusal → ℕ
read_number = answer

-- ## The slot reader

-- "A slot at or past the count is 16, after 13"
unfoldable pub read_slot : List ℕ → ℕ → Result Slot Refusal
read_slot l j = cond (accepted_layout l) (cond (ltb j (stripe_count l)) (Ok (get_or (decode_layout l).slots j Hole)) (Err NoPlace)) (Err BadLayout)

unfoldable pub slot_read_number : Result Slot Refusal → ℕ
slot_read_number = answer

-- ## The slot rewrite

-- a slot that the pattern doesn't allow is 13 too, before 16
unfoldable pub rewrite_answer : List ℕ → ℕ → Slot → ℕ
rewrite_answer l j s =
    cond (accepted_layout l && allowed_slot (with_holes (decode_header l)) s) (cond (ltb j (stripe_count l)) 0 16) 13

-- the bytes of the layout with slot j changed: "The slot rewrite now touches two more bytes, unless the slot stays as it was".
-- A refusal changes nothing
unfoldable pub rewrite_bytes : List ℕ → ℕ → Slot → List ℕ
rewrite_bytes l j s = cond (eqb (rewrite_answer l j s) 0) (encode_layout (changed (decode_layout l) j s)) l

-- whether byte i is one of n from a place on
unfoldable pub within : ℕ → ℕ → ℕ → Bool
within at n i = leb at i && ltb i (at + n)

-- the 26 bytes that a rewrite of slot j may change: the slot's 24 and the generation's 2
unfoldable pub in_rewrite : List ℕ → ℕ → ℕ → Bool
in_rewrite l j i = within (slot_start l + slot_size * j) slot_size i || within generation_at 2 i

-- no others change, whatever is answered, and none is added or lost
unfoldable pub OthersStay : List ℕ → ℕ → Slot → Type 0
OthersStay l j s =
    (length (rewrite_bytes l j s) ≡ length l) × ((i : ℕ) → in_rewrite l j i ≡ false → get_or (rewrite_bytes l j s) i 0 ≡ get_or l i 0)
