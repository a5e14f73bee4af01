-- The stores of a parent row, over what the row says. Assumes nothing.
use mathlib.Core.Path.{◌≡◌, refl, sym, ap, ◌∙◌}
use mathlib.Core.List.{List, [], ◌∷◌, ◌++◌, append_assoc}
use Prim.Native.Nat.{ℕ, suc, ◌+◌, ◌-◌, ◌*◌, ◌≤◌, ◌<◌}
use native.Mathlib.Omega.{arith}
use lib.ListN.{length, take, drop, set, replicate, length-append, length-replicate, length-set, take-append-drop}
use lib.Seq.{sets, sets-eq, drop-drop, length-take-le}
use Rattle.wire.specs.Numbers.{bytes}
use Rattle.wire.proofs.NumberLaws.{length_bytes}
use Rattle.wire.proofs.Splice.{sets_at, sets_mid}
use Rattle.fid.specs.Fid.{encode_fid}
use Rattle.fid.specs.declared.MdtFid.{MdtFid}
use Rattle.fid.proofs.FidLaws.{length_encode}
use Rattle.layout.specs.declared.Header.{Header}
use Rattle.layout.specs.declared.Slot.{Slot}
use Rattle.layout.specs.declared.Slot.TheVariants.{Hole}
use Rattle.layout.specs.Slot.{encode_slot, encode_slots}
use Rattle.layout.specs.Layout.{Layout, header_size, magic_one, encode_header, encode_layout, layout_size, raised, generation_with, restriped, changed}
use Rattle.layout.proofs.SlotLaws.{length_slot, length_encode_slots, encode_append}
use Rattle.layout.proofs.HeaderLaws.{length_header}
use Rattle.layout.proofs.LayoutLaws.{slot_bytes, length_changed}
use Rattle.layout.proofs.StripeLaws.{slots_longer}
use Rattle.tables.specs.Records.{Parent, used}
use Rattle.tables.specs.Bytes.{encode_owner, encode_parent, render_parent, render_row}
use Rattle.tables.specs.Positions.{slots_of}
use Rattle.tables.specs.declared.Owner.{Owner}
use Rattle.rules.specs.Rows.{tail_of}
use Rattle.rules.specs.Repairs.{with_slots, with_slot, own_header, with_own, made, grown}
use Rattle.stores.specs.Made.{made_header}
use Rattle.stores.proofs.StoreLaws.{over, length_owner, length_holes}

-- ## What a used row is made of

-- the 27 bytes in front of a layout of n bytes
lead : MdtFid → Owner → ℕ → List ℕ
lead f w n = 1 ∷ (encode_fid f.0 ++ encode_owner w ++ bytes 2 n)

abbrev front : Parent → ℕ → List ℕ
front p n = lead p.self p.owner n

length_front : (p : Parent) (n : ℕ) → length (front p n) ≡ 27
unfolding lead
length_front p n = simp (length-append, length_encode, length_owner, length_bytes)

-- the bytes of a layout, counted
layout_length_lem : (L : Layout) → length (encode_layout L) ≡ 32 + length L.pool + 24 * length L.slots
unfolding encode_layout
layout_length_lem L = rw (length-append, length-append, length_header L.header (length L.slots), length_encode_slots L.slots) (omega arith)

-- a row spread out: front, header, pool name, slots, tail
spread : (p : Parent) → render_parent (used p) ≡ front p (length (encode_layout p.layout)) ++ (encode_header p.layout.header (length p.layout.slots) ++ (p.layout.pool ++ (encode_slots p.layout.slots ++ p.tail)))
unfolding render_parent render_row encode_parent encode_layout lead
spread p = simp append_assoc

whole : (p : Parent) → render_parent (used p) ≡ front p (length (encode_layout p.layout)) ++ (encode_layout p.layout ++ p.tail)
unfolding render_parent render_row encode_parent lead
whole p = simp append_assoc

-- the front's last two bytes apart
front_spread : (p : Parent) (n : ℕ) (X : List ℕ) → front p n ++ X ≡ (1 ∷ (encode_fid p.self.0 ++ encode_owner p.owner)) ++ (bytes 2 n ++ X)
unfolding lead
front_spread p n X = ap (λ (l : List ℕ). 1 ∷ l) (append_assoc (encode_fid p.self.0 ++ encode_owner p.owner) (bytes 2 n) X)

-- ## Own id

own : Parent → Parent
own p = record { self = p.self; owner = p.owner; layout = record { header = own_header p.layout.header p.self; pool = p.layout.pool; slots = p.layout.slots }; tail = p.tail }

pub own_render : (p : Parent) → sets (render_parent (used p)) 27 (encode_header (own_header p.layout.header p.self) (length p.layout.slots)) ≡ render_parent (with_own (used p))
unfolding with_own own
own_render p =
    let h : Header = own_header p.layout.header p.self in
    let n : ℕ = length p.layout.slots in
    let rest : List ℕ = p.layout.pool ++ (encode_slots p.layout.slots ++ p.tail) in
    let q : length (encode_layout (own p).layout) ≡ length (encode_layout p.layout) = layout_length_lem (own p).layout ∙ sym (layout_length_lem p.layout) in
    let e : sets (render_parent (used p)) 27 (encode_header h n) ≡ front p (length (encode_layout p.layout)) ++ (encode_header h n ++ rest) =
    rw (spread p) (over (front p (length (encode_layout p.layout))) (encode_header p.layout.header n) rest (encode_header h n) 27 (length_front p (length (encode_layout p.layout))) (length_header h n ∙ sym (length_header p.layout.header n))) in
    e ∙ ap (λ (m : ℕ). front p m ++ (encode_header h n ++ rest)) (sym q) ∙ sym (spread (own p))

-- ## A slot

slotted : Parent → ℕ → Slot → Parent
slotted p j s = record { self = p.self; owner = p.owner; layout = changed p.layout j s; tail = p.tail }

slotted_is : (p : Parent) (j : ℕ) (s : Slot) → with_slot (used p) j s ≡ used (slotted p j s)
unfolding with_slot slotted
slotted_is p j s = refl

-- a row whose layout is changed in one slot: other bytes of the same number in its place
changed_render : (p : Parent) (j : ℕ) (s : Slot) → j < length p.layout.slots →
    render_parent (with_slot (used p) j s) ≡ front p (length (encode_layout p.layout)) ++ (encode_layout (changed p.layout j s) ++ p.tail)
unfolding slotted
changed_render p j s h =
    ap render_parent (slotted_is p j s) ∙ whole (slotted p j s)
    ∙ ap (λ (n : ℕ). front p n ++ (encode_layout (changed p.layout j s) ++ p.tail)) (length_changed p.layout j s h)

-- the whole layout, with the slot changed
pub slot_put : (p : Parent) (j : ℕ) (s : Slot) → j < length p.layout.slots →
    sets (render_parent (used p)) 27 (encode_layout (changed p.layout j s)) ≡ render_parent (with_slot (used p) j s)
slot_put p j s h =
    let n : ℕ = length (encode_layout p.layout) in
    rw (whole p, over (front p n) (encode_layout p.layout) p.tail (encode_layout (changed p.layout j s)) 27 (length_front p n) (length_changed p.layout j s h))
    (sym (changed_render p j s h))

-- ## A slot set, the header as it stands

filled : Parent → ℕ → Slot → Parent
filled p j s =
    record { self = p.self; owner = p.owner; layout = record { header = p.layout.header; pool = p.layout.pool; slots = set p.layout.slots j s }; tail = p.tail }

filled_render : (p : Parent) (j at : ℕ) (s : Slot) → j < length p.layout.slots → at ≡ 59 + length p.layout.pool + 24 * j →
    sets (render_parent (used p)) at (encode_slot s) ≡ render_parent (used (filled p j s))
unfolding filled
filled_render p j at s h a =
    let n : ℕ = length (encode_layout p.layout) in
    let i : ℕ = 32 + length p.layout.pool + 24 * j in
    let k : at ≡ length (front p n) + i = omega (arith, length_front p n) in
    let m : i + length (encode_slot s) ≤ n = omega (arith, length_slot s, layout_length_lem p.layout) in
    let q : length (encode_layout (filled p j s).layout) ≡ n =
    layout_length_lem (filled p j s).layout ∙ rw (length-set p.layout.slots j s) (sym (layout_length_lem p.layout)) in
    rw (whole p, k, sets_mid (front p n) p.tail (encode_slot s) (encode_layout p.layout) i m, ← slot_bytes p.layout j s h)
    (sym (whole (filled p j s) ∙ ap (λ (z : ℕ). front p z ++ (encode_layout (filled p j s).layout ++ p.tail)) q))

-- ## Growth

-- by holes, with another header
pub lengthened : Parent → Header → ℕ → Parent
lengthened p hd more = record { self = p.self; owner = p.owner; layout = record { header = hd; pool = p.layout.pool; slots = p.layout.slots ++ replicate more Hole }; tail = drop (24 * more) p.tail }

grown_filled : (p : Parent) (i : ℕ) (s : Slot) → length p.layout.slots ≤ i →
    grown (used p) i s ≡ used (filled (lengthened p (raised p.layout.header) (suc i - length p.layout.slots)) i s)
unfolding grown with_slots slots_of tail_of lengthened filled restriped generation_with raised
grown_filled p i s h =
    let more : ℕ = suc i - length p.layout.slots in
    let ss : List Slot = p.layout.slots ++ replicate more Hole in
    let lm : length ss ≡ suc i = rw (length-append, length-replicate more Hole) (omega arith) in
    rw (slots_longer p.layout.slots (set ss i s) (rw (length-set ss i s, lm) (omega arith)))

pub grown_render : (p : Parent) (hd : Header) (i size at : ℕ) (b c d : List ℕ) → length p.layout.slots ≤ i → size ≡ 32 + length p.layout.pool + 24 * (i + 1) →
    at ≡ 59 + length p.layout.pool + 24 * length p.layout.slots → 24 * (i + 1 - length p.layout.slots) ≤ length p.tail →
    b ≡ sets (render_parent (used p)) 25 (bytes 2 size) → c ≡ sets b 27 (encode_header hd (i + 1)) →
    d ≡ sets c at (encode_slots (replicate (i + 1 - length p.layout.slots) Hole)) → d ≡ render_parent (used (lengthened p hd (suc i - length p.layout.slots)))
unfolding lengthened
grown_render p hd i size at b c d h sz a tl s1 s2 s3 =
    let n : ℕ = length p.layout.slots in
    let more : ℕ = suc i - n in
    let me : i + 1 - n ≡ more = omega arith in
    let ie : i + 1 ≡ suc i = omega arith in
    let F : List ℕ = encode_fid p.self.0 ++ encode_owner p.owner in
    let N : List ℕ = bytes 2 (length (encode_layout p.layout)) in
    let N' : List ℕ = bytes 2 size in
    let h0 : List ℕ = encode_header p.layout.header n in
    let h1 : List ℕ = encode_header hd (suc i) in
    let pool : List ℕ = p.layout.pool in
    let SS : List ℕ = encode_slots p.layout.slots in
    let Z : List ℕ = encode_slots (replicate more Hole) in
    let T : List ℕ = drop (24 * more) p.tail in
    let r0 : render_parent (used p) ≡ (1 ∷ F) ++ (N ++ (h0 ++ (pool ++ (SS ++ p.tail)))) = spread p ∙ front_spread p (length (encode_layout p.layout)) (h0 ++ (pool ++ (SS ++ p.tail))) in
    let l0 : length (1 ∷ F) ≡ 25 = simp (length-append, length_encode, length_owner) in
    let r1 : b ≡ (1 ∷ F) ++ (N' ++ (h0 ++ (pool ++ (SS ++ p.tail)))) =
    rw (s1, r0) (over (1 ∷ F) N (h0 ++ (pool ++ (SS ++ p.tail))) N' 25 l0 (length_bytes 2 size ∙ sym (length_bytes 2 (length (encode_layout p.layout))))) in
    let r1' : b ≡ front p size ++ (h0 ++ (pool ++ (SS ++ p.tail))) = r1 ∙ sym (front_spread p size (h0 ++ (pool ++ (SS ++ p.tail)))) in
    let r2 : c ≡ front p size ++ (h1 ++ (pool ++ (SS ++ p.tail))) =
    rw (s2, r1', ie) (over (front p size) h0 (pool ++ (SS ++ p.tail)) h1 27 (length_front p size) (length_header hd (suc i) ∙ sym (length_header p.layout.header n))) in
    let pre : List ℕ = front p size ++ (h1 ++ (pool ++ SS)) in
    let r2' : c ≡ pre ++ (take (24 * more) p.tail ++ T) = r2 ∙ rw (take-append-drop (24 * more) p.tail) (simp append_assoc) in
    let lp : length pre ≡ at = rw (length-append, length-append, length-append, length_front p size, length_header hd (suc i), length_encode_slots p.layout.slots) (omega arith) in
    let lt : length Z ≡ length (take (24 * more) p.tail) = rw (length_holes more, length-take-le (24 * more) p.tail (omega arith)) in
    let r3 : d ≡ pre ++ (Z ++ T) = rw (s3, me, r2') (over pre (take (24 * more) p.tail) T Z at lp lt) in
    let lm : length (p.layout.slots ++ replicate more Hole) ≡ suc i = rw (length-append, length-replicate more Hole) (omega arith) in
    let q : length (encode_layout (lengthened p hd more).layout) ≡ size = rw (layout_length_lem (lengthened p hd more).layout, lm) (omega arith) in
    let w : render_parent (used (lengthened p hd more)) ≡ pre ++ (Z ++ T) =
    spread (lengthened p hd more) ∙ rw (q, lm, encode_append p.layout.slots (replicate more Hole)) (simp append_assoc) in
    r3 ∙ sym w

-- the last of the slots that it grew to
pub grown_slot : (p : Parent) (i at : ℕ) (s : Slot) → length p.layout.slots ≤ i → at ≡ 59 + length p.layout.pool + 24 * i →
    sets (render_parent (used (lengthened p (raised p.layout.header) (suc i - length p.layout.slots)))) at (encode_slot s) ≡ render_parent (grown (used p) i s)
unfolding lengthened
grown_slot p i at s h a =
    let more : ℕ = suc i - length p.layout.slots in
    let lm : length (p.layout.slots ++ replicate more Hole) ≡ suc i = rw (length-append, length-replicate more Hole) (omega arith) in
    filled_render (lengthened p (raised p.layout.header) more) i at s (omega arith) a ∙ ap render_parent (sym (grown_filled p i s h))

-- ## A parent made

front_stores : (a b c d e : List ℕ) (p : Parent) (n : ℕ) → b ≡ set a 0 1 → c ≡ sets b 1 (encode_fid p.self.0) → d ≡ sets c 17 (encode_owner p.owner) →
    e ≡ sets d 25 (bytes 2 n) → e ≡ sets a 0 (front p n)
unfolding lead
front_stores a b c d e p n s1 s2 s3 s4 =
    let F : List ℕ = encode_fid p.self.0 in
    let W : List ℕ = encode_owner p.owner in
    let N : List ℕ = bytes 2 n in
    let k1 : c ≡ sets a 0 (1 ∷ F) = rw (s2, s1) (sets_at (1 ∷ []) F a 0 1 refl) in
    let k2 : d ≡ sets a 0 (1 ∷ (F ++ W)) = rw (s3, k1) (sets_at (1 ∷ F) W a 0 17 (simp length_encode)) in
    rw (s4, k2) (sets_at (1 ∷ (F ++ W)) N a 0 25 (simp (length-append, length_encode, length_owner)))

pub maker : MdtFid → ℕ → Owner → List ℕ → Parent
maker f i w l = record { self = f; owner = w; layout = record { header = made_header f; pool = []; slots = replicate (suc i) Hole }; tail = drop (26 + layout_size magic_one (suc i)) l }

made_filled : (f : MdtFid) (i : ℕ) (w : Owner) (s : Slot) (l : List ℕ) → made f i w s l ≡ used (filled (maker f i w l) i s)
unfolding made maker made_header filled
made_filled f i w s l = refl

size_one : (n : ℕ) → layout_size magic_one n ≡ 32 + 24 * n
unfolding layout_size header_size
size_one n = refl

maker_tail : (f : MdtFid) (i : ℕ) (w : Owner) (a : List ℕ) → (maker f i w (drop 1 a)).tail ≡ drop (59 + 24 * suc i) a
unfolding maker
maker_tail f i w a =
    let e : 1 + (26 + (32 + 24 * suc i)) ≡ 59 + 24 * suc i = omega arith in
    rw (size_one (suc i), drop-drop (26 + (32 + 24 * suc i)) 1 a, e)

maker_render : (f : MdtFid) (i : ℕ) (w : Owner) (a : List ℕ) →
    render_parent (used (maker f i w (drop 1 a))) ≡
    front (maker f i w (drop 1 a)) (32 + 24 * suc i) ++ (encode_header (made_header f) (suc i) ++ (encode_slots (replicate (suc i) Hole) ++ drop (59 + 24 * suc i) a))
unfolding maker
maker_render f i w a =
    let m : Parent = maker f i w (drop 1 a) in
    let n : length (replicate (suc i) Hole) ≡ suc i = length-replicate (suc i) Hole in
    let q : length (encode_layout m.layout) ≡ 32 + 24 * suc i = rw (layout_length_lem m.layout, n) (omega arith) in
    spread m ∙ rw (q, n, maker_tail f i w a)

pub made_render : (f : MdtFid) (i size : ℕ) (w : Owner) (a b c d e g h : List ℕ) → 59 + 24 * (i + 1) ≤ length a → size ≡ 32 + 24 * (i + 1) →
    b ≡ set a 0 1 → c ≡ sets b 1 (encode_fid f.0) → d ≡ sets c 17 (encode_owner w) → e ≡ sets d 25 (bytes 2 size) →
    g ≡ sets e 27 (encode_header (made_header f) (i + 1)) → h ≡ sets g 59 (encode_slots (replicate (i + 1) Hole)) →
    h ≡ render_parent (used (maker f i w (drop 1 a)))
unfolding maker
made_render f i size w a b c d e g h room sz s1 s2 s3 s4 s5 s6 =
    let m : Parent = maker f i w (drop 1 a) in
    let ie : i + 1 ≡ suc i = omega arith in
    let n : ℕ = 32 + 24 * suc i in
    let ze : size ≡ n = omega arith in
    let H : List ℕ = encode_header (made_header f) (suc i) in
    let Z : List ℕ = encode_slots (replicate (suc i) Hole) in
    let k1 : e ≡ sets a 0 (front m n) = front_stores a b c d e m n s1 s2 s3 (rw ze at s4) in
    let k2 : g ≡ sets a 0 (front m n ++ H) = rw (s5, k1, ie) (sets_at (front m n) H a 0 27 (length_front m n)) in
    let l2 : length (front m n ++ H) ≡ 59 = rw (length-append, length_front m n, length_header (made_header f) (suc i)) in
    let k3 : h ≡ sets a 0 (front m n ++ H ++ Z) = rw (s6, k2, ie) (sets_at (front m n ++ H) Z a 0 59 l2) in
    let l3 : length (front m n ++ H ++ Z) ≡ 59 + 24 * suc i = rw (length-append, l2, length_holes (suc i)) in
    let k4 : sets a 0 (front m n ++ H ++ Z) ≡ take 0 a ++ (front m n ++ H ++ Z) ++ drop (0 + length (front m n ++ H ++ Z)) a = sets-eq (front m n ++ H ++ Z) a 0 (omega arith) in
    let z : 0 + length (front m n ++ H ++ Z) ≡ 59 + 24 * suc i = omega arith in
    let k5 : sets a 0 (front m n ++ H ++ Z) ≡ (front m n ++ H ++ Z) ++ drop (59 + 24 * suc i) a = rw z at k4 in
    k3 ∙ k5 ∙ simp append_assoc (sym (maker_render f i w a))

pub made_slot : (f : MdtFid) (i : ℕ) (w : Owner) (s : Slot) (a : List ℕ) →
    sets (render_parent (used (maker f i w (drop 1 a)))) (59 + 24 * i) (encode_slot s) ≡ render_parent (made f i w s (drop 1 a))
unfolding maker
made_slot f i w s a =
    let n : length (replicate (suc i) Hole) ≡ suc i = length-replicate (suc i) Hole in
    filled_render (maker f i w (drop 1 a)) i (59 + 24 * i) s (omega arith) refl ∙ ap render_parent (sym (made_filled f i w s (drop 1 a)))
