-- Laws of slots: the tests case by case, the round trips, and the slots of a slot area. Assumes nothing.
use mathlib.Core.Path.{◌≡◌, refl, sym, ap, ◌∙◌}
use mathlib.Core.List.{List, [], ◌∷◌, ◌++◌, append_assoc, append-nil}
use mathlib.Core.Bool.{Bool, true, false, cond, ◌&&◌}
use Prim.Native.Nat.{ℕ, zero, suc, ◌+◌, ◌-◌, ◌*◌, ◌≤◌, ◌<◌, ◌^◌}
use borrow.Author.Tests.{ne_eqb, eqb-true}
use native.Mathlib.Omega.{arith}
use Rattle.std.proofs.lemmas.List.{drop-take}
use native.Mathlib.Nat.{mod-eq_of_lt, not-suc-le-zero}
use lib.Dec.{eqb, leb}
use lib.ListN.{length, take, drop, set, get_or, length-append, length-drop, replicate}
use lib.Seq.{sets, drop-drop, take-add, drop_at}
use Rattle.std.specs.List.{list_all}
use Rattle.wire.specs.Numbers.{le, bytes}
use Rattle.wire.proofs.Both.{and_first, and_second}
use Rattle.wire.specs.Rows.{rows}
use Rattle.wire.proofs.Splice.{sets_at, sets_whole, sets_mid}
use Rattle.wire.proofs.NumberLaws.{Bytes, bytes_drop, bytes_le, length_bytes, le_bytes, le_small_at}
use Rattle.fid.specs.Fid.{decode_fid, encode_fid, good_object}
use Rattle.fid.specs.declared.Fid.{Fid}
use Rattle.fid.specs.declared.OstFid.{OstFid}
use Rattle.fid.proofs.SameLaws.{eq_same}
use Rattle.fid.proofs.FidLaws.{length_encode, decode_encode, encode_decode, Fits, fid_fits, good_positive}
use Rattle.layout.specs.declared.Slot.{Slot}
use Rattle.layout.specs.declared.Slot.TheVariants.{Hole, Names}
use Rattle.layout.specs.Slot.{slot_generation_at, slot_index_at, slot_size, zero_slot, slot_from, slot_of, decode_slot, encode_slot, decode_slots, encode_slots, allowed_slot, allowed_slots, max_index, slot_names}

-- ## The tests

module _ (f : Fid) (g i : ℕ) where
  pub zero_seq : (f.seq ≡ 0 → ⊥) → false ≡ zero_slot f g i
  unfolding zero_slot
  zero_seq h = simp (ne_eqb _ _ h)

  -- the slot of three numbers that were read at slot j's place
  pub slot_hole : (area : List ℕ) (j : ℕ) → f ≡ decode_fid (drop (slot_size * j) area) → g ≡ le 4 (drop (slot_size * j + slot_generation_at) area) →
      i ≡ le 4 (drop (slot_size * j + slot_index_at) area) → zero_slot f g i ≡ true → Hole ≡ slot_of area j
  unfolding slot_of decode_slot slot_from
  slot_hole area j p q r h = rw (drop-drop slot_generation_at (slot_size * j) area, drop-drop slot_index_at (slot_size * j) area, ← p, ← q, ← r, h)

  pub slot_names_lem : (area : List ℕ) (j : ℕ) → f ≡ decode_fid (drop (slot_size * j) area) → g ≡ le 4 (drop (slot_size * j + slot_generation_at) area) →
      i ≡ le 4 (drop (slot_size * j + slot_index_at) area) → zero_slot f g i ≡ false → Names (record { 0 = f }) g i ≡ slot_of area j
  unfolding slot_of decode_slot slot_from
  slot_names_lem area j p q r h = rw (drop-drop slot_generation_at (slot_size * j) area, drop-drop slot_index_at (slot_size * j) area, ← p, ← q, ← r, h)

-- a slot of another FID doesn't name the object, be it a hole or not: what `==` computes is the answer
pub other_fid : (f : OstFid) (h : Fid) (area : List ℕ) (j : ℕ) {r : Bool} → h ≡ decode_fid (drop (slot_size * j) area) →
    r ≡ (eqb h.seq f.0.seq && (eqb h.oid f.0.oid && eqb h.ver f.0.ver)) → r ≡ false → r ≡ slot_names f (slot_of area j)
unfolding slot_of decode_slot slot_from slot_names
other_fid f h area j p e n = n ∙ go (zero_slot d g i)
  where
    d : Fid
    d = decode_fid (drop (slot_size * j) area)

    g : ℕ
    g = le 4 (drop slot_generation_at (drop (slot_size * j) area))

    i : ℕ
    i = le 4 (drop slot_index_at (drop (slot_size * j) area))

    go : (b : Bool) → false ≡ slot_names f (cond b Hole (Names (record { 0 = d }) g i))
    go true = refl
    go false = sym (rw p at (sym (eq_same h f.0) ∙ sym e ∙ n))

-- ## The bytes of a slot

pub length_slot : (s : Slot) → length (encode_slot s) ≡ slot_size
unfolding encode_slot
length_slot Hole = refl
length_slot (Names f g i) = simp (length-append, length_bytes, length_encode)

-- the stores of put_slot, over 24 bytes
pub put_hole : (l a b x : List ℕ) (s : Slot) → length l ≡ slot_size → s ≡ Hole → a ≡ sets l 0 (bytes 8 0) → b ≡ sets a 8 (bytes 8 0) →
    x ≡ sets b 16 (bytes 8 0) → x ≡ encode_slot s
unfolding encode_slot bytes
put_hole l a b x s e h p q r = rw (r, q, p, h) (sets_whole (encode_slot Hole) l e)

pub put_names : (l a b x : List ℕ) (s : Slot) (f : OstFid) (g i : ℕ) → length l ≡ slot_size → s ≡ Names f g i → a ≡ sets l 0 (encode_fid f.0) →
    b ≡ sets a slot_generation_at (bytes 4 g) → x ≡ sets b slot_index_at (bytes 4 i) → x ≡ encode_slot s
unfolding encode_slot
put_names l a b x s f g i e h p q r =
    rw (
      r,
      q,
      p,
      h,
      sets_at (encode_fid f.0) (bytes 4 g) l 0 slot_generation_at (length_encode f.0),
      sets_at (encode_fid f.0 ++ bytes 4 g) (bytes 4 i) l 0 slot_index_at (simp (length-append, length_bytes, length_encode)),
    )
    (sets_whole _ l (simp (length-append, length_bytes, length_encode) e))

-- the numbers of a slot fit their fields
unfoldable pub FitSlot : Slot → Type 0
FitSlot Hole = Unit {0}
FitSlot (Names f g i) = Fits f.0 × (g < 2 ^ 32) × (i < 2 ^ 32)

decode_hole : (r : List ℕ) → decode_slot (encode_slot Hole ++ r) ≡ Hole
unfolding decode_slot encode_slot slot_from zero_slot decode_fid le
decode_hole r = refl

-- an allowed slot, written and read
pub slot_read_back : (holes : Bool) (s : Slot) (r : List ℕ) → FitSlot s → allowed_slot holes s ≡ true → decode_slot (encode_slot s ++ r) ≡ s
unfolding decode_slot encode_slot FitSlot slot_from allowed_slot good_object
slot_read_back holes Hole r h t = decode_hole r
slot_read_back holes (Names f g i) r h t =
    let a : List ℕ = encode_fid f.0 in
    let b : List ℕ = bytes 4 g in
    let d : List ℕ = bytes 4 i in
    let p : decode_fid (((a ++ b) ++ d) ++ r) ≡ f.0 = simp append_assoc (decode_encode f.0 (b ++ (d ++ r)) h.0) in
    let q : le 4 (drop slot_generation_at (((a ++ b) ++ d) ++ r)) ≡ g =
    simp (append_assoc, drop_at a (b ++ (d ++ r)) slot_generation_at (length_encode f.0)) (le_bytes 4 g (d ++ r) ∙ mod-eq_of_lt h.1) in
    let u : le 4 (drop slot_index_at (((a ++ b) ++ d) ++ r)) ≡ i =
    rw (append_assoc (a ++ b) d r, drop_at (a ++ b) (d ++ r) slot_index_at (simp (length-append, length_bytes, length_encode)))
    (le_bytes 4 i r ∙ mod-eq_of_lt h.2) in
    let z : 0 < f.0.seq = good_positive f.0 (and_first (good_object f) (leb i max_index) t) in
    rw (p, q, u, ← zero_seq f.0 g i (λ e. omega arith))

names_written : (l : List ℕ) → Bytes l → slot_size ≤ length l →
    encode_fid (decode_fid l) ++ bytes 4 (le 4 (drop slot_generation_at l)) ++ bytes 4 (le 4 (drop slot_index_at l)) ≡ take slot_size l
names_written l h k =
    rw (
      encode_decode l h (omega arith),
      bytes_le 4 (drop slot_generation_at l) (bytes_drop slot_generation_at l h) (rw length-drop (omega arith)),
      bytes_le 4 (drop slot_index_at l) (bytes_drop slot_index_at l h) (rw length-drop (omega arith)),
      ← take-add slot_generation_at 4 l,
      ← take-add slot_index_at 4 l,
    )

zero_bytes : (f : Fid) (g i : ℕ) → zero_slot f g i ≡ true → replicate slot_size 0 ≡ encode_fid f ++ bytes 4 g ++ bytes 4 i
unfolding zero_slot encode_fid bytes
zero_bytes f g i e =
    let s : Bool = eqb f.seq 0 in
    let o : Bool = eqb f.oid 0 in
    let v : Bool = eqb f.ver 0 in
    let u : Bool = eqb g 0 in
    let e4 : (s && o && v && u) ≡ true = and_first (s && o && v && u) (eqb i 0) e in
    let e3 : (s && o && v) ≡ true = and_first (s && o && v) u e4 in
    let e2 : (s && o) ≡ true = and_first (s && o) v e3 in
    let es : f.seq ≡ 0 = eqb-true f.seq 0 (and_first s o e2) in
    let eo : f.oid ≡ 0 = eqb-true f.oid 0 (and_second s o e2) in
    let ev : f.ver ≡ 0 = eqb-true f.ver 0 (and_second (s && o) v e3) in
    let eg : g ≡ 0 = eqb-true g 0 (and_second (s && o && v) u e4) in
    let ei : i ≡ 0 = eqb-true i 0 (and_second (s && o && v && u) (eqb i 0) e) in
    rw (es, eo, ev, eg, ei)

-- any 24 bytes, read and written
pub slot_written_back : (l : List ℕ) → Bytes l → slot_size ≤ length l → encode_slot (decode_slot l) ≡ take slot_size l
unfolding decode_slot slot_from encode_slot
slot_written_back l h k = go (zero_slot (decode_fid l) (le 4 (drop slot_generation_at l)) (le 4 (drop slot_index_at l))) refl
  where
    f : Fid
    f = decode_fid l

    g : ℕ
    g = le 4 (drop slot_generation_at l)

    i : ℕ
    i = le 4 (drop slot_index_at l)

    go : (b : Bool) → zero_slot f g i ≡ b → encode_slot (cond b Hole (Names (record { 0 = f }) g i)) ≡ take slot_size l
    go true e = zero_bytes f g i e ∙ names_written l h k
    go false e = names_written l h k

-- ## The slots of a slot area

pub length_slots : (n : ℕ) (l : List ℕ) → length (decode_slots n l) ≡ n
unfolding decode_slots
length_slots zero l = refl
length_slots (suc n) l = ap suc (length_slots n (drop slot_size l))

pub slots_at : (n j : ℕ) (l : List ℕ) (d : Slot) → j < n → get_or (decode_slots n l) j d ≡ slot_of l j
unfolding decode_slots slot_of
slots_at zero j l d h = absurd (not-suc-le-zero h)
slots_at (suc n) zero l d h = refl
slots_at (suc n) (suc j) l d h =
    let m : slot_size * suc j ≡ slot_size + slot_size * j = omega arith in
    slots_at n j (drop slot_size l) d (omega arith) ∙ rw (m, drop-drop (slot_size * j) slot_size l)

pub length_encode_slots : (ss : List Slot) → length (encode_slots ss) ≡ slot_size * length ss
unfolding encode_slots
length_encode_slots [] = refl
length_encode_slots (s ∷ ss) = rw (length-append, length_slot s, length_encode_slots ss) (omega arith)

-- slots one after the other, and one of them changed
pub encode_append : (ss ts : List Slot) → encode_slots (ss ++ ts) ≡ encode_slots ss ++ encode_slots ts
unfolding encode_slots
encode_append [] ts = refl
encode_append (s ∷ ss) ts = rw (encode_append ss ts) (sym (append_assoc (encode_slot s) (encode_slots ss) (encode_slots ts)))

pub encode_set : (ss : List Slot) (j : ℕ) (s : Slot) → j < length ss → encode_slots (set ss j s) ≡ sets (encode_slots ss) (slot_size * j) (encode_slot s)
unfolding encode_slots
encode_set [] j s h = absurd (not-suc-le-zero h)
encode_set (x ∷ ss) zero s h =
    let w : sets (encode_slot x) 0 (encode_slot s) ≡ encode_slot s = sets_whole (encode_slot s) (encode_slot x) (length_slot x ∙ sym (length_slot s)) in
    sym (sets_mid [] (encode_slots ss) (encode_slot s) (encode_slot x) 0 (omega (arith, length_slot s, length_slot x)) ∙ ap (λ (l : List ℕ). l ++ encode_slots ss) w)
encode_set (x ∷ ss) (suc j) s h =
    let k : slot_size * suc j ≡ length (encode_slot x) + slot_size * j = omega (arith, length_slot x) in
    let m : slot_size * j + length (encode_slot s) ≤ length (encode_slots ss) = omega (arith, length_slot s, length_encode_slots ss) in
    let e : sets (encode_slot x ++ (encode_slots ss ++ [])) (length (encode_slot x) + slot_size * j) (encode_slot s) ≡ encode_slot x ++ (sets (encode_slots ss) (slot_size * j) (encode_slot s) ++ []) =
    sets_mid (encode_slot x) [] (encode_slot s) (encode_slots ss) (slot_size * j) m in
    rw (k, encode_set ss j s (omega arith)) (sym (rw (append-nil (encode_slots ss), append-nil (sets (encode_slots ss) (slot_size * j) (encode_slot s))) at e))

-- slots, read and written
pub slots_written_back : (n : ℕ) (l : List ℕ) → Bytes l → slot_size * n ≤ length l → encode_slots (decode_slots n l) ≡ take (slot_size * n) l
unfolding decode_slots encode_slots
slots_written_back zero l h k = refl
slots_written_back (suc n) l h k =
    let m : slot_size * suc n ≡ slot_size + slot_size * n = omega arith in
    rw (
      m,
      take-add slot_size (slot_size * n) l,
      slot_written_back l h (omega arith),
      slots_written_back n (drop slot_size l) (bytes_drop slot_size l h) (rw length-drop (omega arith)),
    )

-- every slot of a list fits its fields
unfoldable pub FitSlots : List Slot → Type 0
FitSlots [] = Unit {0}
FitSlots (s ∷ ss) = FitSlot s × FitSlots ss

-- what is read from bytes fits
slot_fits : (l : List ℕ) → Bytes l → FitSlot (decode_slot l)
unfolding decode_slot slot_from FitSlot
slot_fits l h = go (zero_slot (decode_fid l) (le 4 (drop slot_generation_at l)) (le 4 (drop slot_index_at l)))
  where
    go : (b : Bool) → FitSlot (cond b Hole (Names (record { 0 = decode_fid l }) (le 4 (drop slot_generation_at l)) (le 4 (drop slot_index_at l))))
    go true = tt
    go false = (fid_fits l h, le_small_at 4 slot_generation_at l h, le_small_at 4 slot_index_at l h)

pub slots_fit : (n : ℕ) (l : List ℕ) → Bytes l → FitSlots (decode_slots n l)
unfolding decode_slots FitSlots
slots_fit zero l h = tt
slots_fit (suc n) l h = (slot_fits l h, slots_fit n (drop slot_size l) (bytes_drop slot_size l h))

pub fit_set : (ss : List Slot) (j : ℕ) (s : Slot) → FitSlots ss → FitSlot s → FitSlots (set ss j s)
unfolding FitSlots
fit_set [] j s f h = tt
fit_set (x ∷ ss) zero s f h = (h, f.1)
fit_set (x ∷ ss) (suc j) s f h = (f.0, fit_set ss j s f.1 h)

-- allowed slots, written and read
pub slots_read_back : (holes : Bool) (ss : List Slot) (r : List ℕ) → FitSlots ss → allowed_slots holes ss ≡ true →
    decode_slots (length ss) (encode_slots ss ++ r) ≡ ss
unfolding decode_slots encode_slots FitSlots allowed_slots
slots_read_back holes [] r h t = refl
slots_read_back holes (s ∷ ss) r h t =
    rw (
      append_assoc (encode_slot s) (encode_slots ss) r,
      slot_read_back holes s (encode_slots ss ++ r) h.0 (and_first (allowed_slot holes s) (allowed_slots holes ss) t),
      drop_at (encode_slot s) (encode_slots ss ++ r) slot_size (length_slot s),
    )
    (ap (λ (l : List Slot). s ∷ l) (slots_read_back holes ss r h.1 (rw (and_first (allowed_slot holes s) (allowed_slots holes ss) t) at t)))

-- ## The test of all slots

-- the slot of a part of 24 bytes
le_part : (n m : ℕ) (l : List ℕ) → n ≤ m → le n (take m l) ≡ le n l
unfolding le
le_part zero m l h = refl
le_part (suc n) zero l h = absurd (not-suc-le-zero h)
le_part (suc n) (suc m) [] h = refl
le_part (suc n) (suc m) (b ∷ l) h = ap (λ v. b + 256 * v) (le_part n m l (omega arith))

le_in : (k n m : ℕ) (l : List ℕ) → k + n ≤ m → le n (drop k (take m l)) ≡ le n (drop k l)
le_in k n m l h =
    let e : m ≡ k + (m - k) = omega arith in
    ap (λ (j : ℕ). le n (drop k (take j l))) e ∙ ap (le n) (drop-take k (m - k) l) ∙ le_part n (m - k) (drop k l) (omega arith)

pub slot_part : (area : List ℕ) → slot_of (take slot_size area) 0 ≡ decode_slot area
unfolding slot_of decode_slot decode_fid
slot_part area =
    rw (
      le_part 8 slot_size area (omega arith),
      le_in 8 4 slot_size area (omega arith),
      le_in 12 4 slot_size area (omega arith),
      le_in 16 4 slot_size area (omega arith),
      le_in 20 4 slot_size area (omega arith),
    )

-- the test of each part of a slot area is that of its slots
pub allowed_parts : (holes : Bool) (n : ℕ) (area : List ℕ) → list_all (λ part. allowed_slot holes (slot_of part 0)) (rows slot_size n area) ≡ allowed_slots holes (decode_slots n area)
unfolding rows decode_slots allowed_slots
allowed_parts holes zero area = refl
allowed_parts holes (suc n) area = rw (slot_part area, allowed_parts holes n (drop slot_size area))
