-- The stores of a used parent row that passed the check, over its bytes. Assumes nothing.
use mathlib.Core.Path.{◌≡◌, refl, sym, ap, ◌∙◌}
use mathlib.Core.List.{List}
use Prim.Native.Nat.{ℕ, suc, ◌+◌, ◌-◌, ◌*◌, ◌≤◌, ◌<◌}
use mathlib.Core.Bool.{true}
use native.Mathlib.Omega.{arith}
use borrow.Author.Tests.{eqb-true}
use lib.ListN.{length, take, drop, set, get_or, replicate, length-drop, length-set}
use lib.Seq.{sets, length-sets, length-take-le}
use Rattle.wire.specs.Numbers.{bytes, Bytes}
use Rattle.wire.proofs.NumberLaws.{bytes_drop, bytes_take}
use borrow.Rule.Slice.PartMut.{put_mid}
use Rattle.fid.specs.Fid.{encode_fid, good_file}
use Rattle.fid.specs.declared.MdtFid.{MdtFid}
use Rattle.layout.specs.declared.Header.{Header}
use Rattle.layout.specs.declared.Slot.{Slot}
use Rattle.layout.specs.declared.Slot.TheVariants.{Hole}
use Rattle.layout.specs.Slot.{encode_slot, encode_slots}
use Rattle.layout.specs.Layout.{Layout, max_slots, decode_header, encode_header, raised, stripe_count, slot_start, decode_layout, encode_layout, changed, exact_length}
use Rattle.layout.proofs.SlotLaws.{length_slots}
use Rattle.layout.proofs.LayoutLaws.{start_most, accepted_exact, length_changed, written_back}
use Rattle.tables.specs.Records.{Parent, ParentRow, used}
use Rattle.tables.specs.Bytes.{parent_size, layout_room, is_used, encode_owner, layout_length, layout_bytes, decode_parent, parse_parent, render_parent}
use Rattle.tables.specs.Check.{when_used, good_parent}
use Rattle.tables.specs.declared.Owner.{Owner}
use Rattle.tables.proofs.SoundLaws.{ParentFacts, layout_of_row}
use Rattle.tables.proofs.RenderLaws.{parent_row_back}
use Rattle.rules.specs.Repairs.{with_slot, own_header, with_own, made, grown}
use Rattle.search.proofs.ParsedRows.{parent_used}
use Rattle.stores.specs.Made.{made_header}
use Rattle.stores.specs.UsedRow.{UsedRow}
use Rattle.stores.proofs.StoreLaws.{part_whole}
use Rattle.stores.proofs.ParentStores.{own_render, slot_put, lengthened, grown_render, grown_slot, made_render, made_slot}

-- ## What is known of a used row

pub used_facts : (row : List ℕ) → UsedRow row → ParentFacts row
unfolding when_used good_parent good_file
used_facts row u =
    let l = layout_of_row row u.size (rw u.used u.layout) u.used in
    let f = l.facts in
    record {
      size = u.size;
      self = u.self;
      room = l.room;
      least = omega (arith, l.bytes, f.size, f.head);
      accepted = l.accepted;
      bytes = l.bytes;
      layout = f;
    }

marked : (row : List ℕ) → is_used row ≡ true → get_or row 0 0 ≡ 1
unfolding is_used
marked row u = eqb-true (get_or row 0 0) 1 u

-- the row is what is written of what it says
used_back : (row : List ℕ) → Bytes row → UsedRow row → render_parent (used (decode_parent row)) ≡ row
used_back row b u =
    let m : get_or row 0 0 ≡ 1 = marked row u.used in
    ap render_parent (sym (parent_used row u.used)) ∙ parent_row_back row b u.size (omega arith) (λ z. used_facts row u)

header_of : (row : List ℕ) → (decode_parent row).layout.header ≡ decode_header (layout_bytes row)
unfolding decode_parent decode_layout
header_of row = refl

pub count_of : (row : List ℕ) → length (decode_parent row).layout.slots ≡ stripe_count (layout_bytes row)
unfolding decode_parent decode_layout
count_of row = length_slots (stripe_count (layout_bytes row)) (drop (slot_start (layout_bytes row)) (layout_bytes row))

pool_of : (row : List ℕ) → ParentFacts row → 32 + length (decode_parent row).layout.pool ≡ slot_start (layout_bytes row)
unfolding decode_parent decode_layout
pool_of row f =
    let l : List ℕ = layout_bytes row in
    let k = f.layout in
    let d : length (drop 32 l) ≡ length l - 32 = length-drop 32 l in
    let e : length (take (slot_start l - 32) (drop 32 l)) ≡ slot_start l - 32 = length-take-le (slot_start l - 32) (drop 32 l) (omega (arith, k.size, k.head)) in
    omega (arith, k.head)

tail_of : (row : List ℕ) → ParentFacts row → length (decode_parent row).tail ≡ parent_size - (27 + layout_length row)
unfolding decode_parent
tail_of row f = rw length-drop (ap (λ (n : ℕ). n - (27 + layout_length row)) f.size)

-- the layout of a used row, lent as a part of it, has exact length, and slot j lies in it
pub part_layout : (row : List ℕ) (n j : ℕ) → UsedRow row → n ≡ layout_length row → j < stripe_count (layout_bytes row) →
    (exact_length (take (27 + n - 27) (drop 27 row)) ≡ true) × (j < stripe_count (take (27 + n - 27) (drop 27 row)))
unfolding layout_bytes
part_layout row n j u q h =
    let z : 27 + n - 27 ≡ n = omega arith in
    rw (z, q) (accepted_exact (layout_bytes row) (used_facts row u).accepted, h)

-- where the slots of a used row start, as the code reads it
pub record RowStart (row : List ℕ) (n : ℕ) : Type 0 where
  pub is : n ≡ slot_start (layout_bytes row)
  pub least : 32 ≤ n
  pub most : n ≤ 48
  pub room : n + 24 * stripe_count (layout_bytes row) ≤ layout_room
  pub few : stripe_count (layout_bytes row) ≤ max_slots

pub row_start : (row l : List ℕ) (n : ℕ) → UsedRow row → l ≡ layout_bytes row → n ≡ slot_start l → RowStart row n
row_start row l n u e h =
    let f = used_facts row u in
    let q : n ≡ slot_start (layout_bytes row) = h ∙ ap slot_start e in
    let k = f.layout in
    record {
      is = q;
      least = omega (arith, k.head);
      most = start_most (layout_bytes row) q;
      room = omega (arith, k.size, f.bytes, f.room);
      few = k.few;
    }

pub row_count : (row l : List ℕ) (n : ℕ) → l ≡ layout_bytes row → n ≡ stripe_count l → n ≡ stripe_count (layout_bytes row)
row_count row l n e h = h ∙ ap stripe_count e

-- ## The stores

module _ (row : List ℕ) (b : Bytes row) (u : UsedRow row) where
  pub own_nested : sets row 27 (encode_header (own_header (decode_header (layout_bytes row)) (decode_parent row).self) (stripe_count (layout_bytes row))) ≡ render_parent (with_own (parse_parent row))
  own_nested =
      let p : Parent = decode_parent row in
      let q : sets (render_parent (used p)) 27 (encode_header (own_header p.layout.header p.self) (length p.layout.slots)) ≡ render_parent (with_own (used p)) = own_render p in
      let t : sets row 27 (encode_header (own_header p.layout.header p.self) (length p.layout.slots)) ≡ render_parent (with_own (used p)) = rw (used_back row b u) at q in
      rw (← header_of row, ← count_of row, parent_used row u.used) t

  pub own_length : length (render_parent (with_own (parse_parent row))) ≡ parent_size
  own_length = ap length (sym own_nested) ∙ length-sets row 27 (encode_header (own_header (decode_header (layout_bytes row)) (decode_parent row).self) (stripe_count (layout_bytes row))) ∙ u.size

  module _ (j : ℕ) (s : Slot) (h : j < stripe_count (layout_bytes row)) where
    pub slot_nested : sets row 27 (encode_layout (changed (decode_layout (layout_bytes row)) j s)) ≡ render_parent (with_slot (parse_parent row) j s)
    unfolding decode_parent
    slot_nested =
        let p : Parent = decode_parent row in
        let n : length p.layout.slots ≡ stripe_count (layout_bytes row) = count_of row in
        ap (λ (l : List ℕ). sets l 27 (encode_layout (changed p.layout j s))) (sym (used_back row b u)) ∙ slot_put p j s (omega arith)
        ∙ ap (λ (w : ParentRow). render_parent (with_slot w j s)) (sym (parent_used row u.used))

    -- the layout as a part of the row that comes back changed
    pub slot_back : (n : ℕ) (y : List ℕ) → n ≡ layout_length row →
        y ≡ encode_layout (changed (decode_layout (take (27 + n - 27) (drop 27 row))) j s) →
        put_mid 27 (27 + n - 27) row y ≡ render_parent (with_slot (parse_parent row) j s)
    unfolding layout_bytes decode_parent
    slot_back n y q e =
        let f = used_facts row u in
        let L : Layout = decode_layout (layout_bytes row) in
        let z : 27 + n - 27 ≡ n = omega arith in
        let c : length L.slots ≡ stripe_count (layout_bytes row) = count_of row in
        let k : length (encode_layout (changed L j s)) ≡ layout_length row =
        length_changed L j s (omega arith) ∙ ap length (written_back (layout_bytes row) (bytes_take (layout_length row) (drop 27 row) (bytes_drop 27 row b)) f.accepted) ∙ f.bytes in
        part_whole 27 n row (encode_layout (changed L j s)) y (rw (z, q) at e) (k ∙ sym q) (omega (arith, f.room, f.size)) ∙ slot_nested

    pub slot_length : length (render_parent (with_slot (parse_parent row) j s)) ≡ parent_size
    slot_length = ap length (sym slot_nested) ∙ length-sets row 27 (encode_layout (changed (decode_layout (layout_bytes row)) j s)) ∙ u.size

  module _ (i : ℕ) (s : Slot) (h : stripe_count (layout_bytes row) ≤ i) (m : i < max_slots) where
    -- length, header, holes
    longer_row : List ℕ
    longer_row =
        let l : List ℕ = layout_bytes row in
        sets (sets (sets row 25 (bytes 2 (slot_start l + 24 * (i + 1)))) 27 (encode_header (raised (decode_header l)) (i + 1))) (27 + slot_start l + 24 * stripe_count l)
        (encode_slots (replicate (i + 1 - stripe_count l) Hole))

    longer_is : let p = decode_parent row in longer_row ≡ render_parent (used (lengthened p (raised p.layout.header) (suc i - length p.layout.slots)))
    unfolding longer_row
    longer_is =
        let l : List ℕ = layout_bytes row in
        let p : Parent = decode_parent row in
        let f = used_facts row u in
        let n : length p.layout.slots ≡ stripe_count l = count_of row in
        let k : 32 + length p.layout.pool ≡ slot_start l = pool_of row f in
        let t : length p.tail ≡ parent_size - (27 + layout_length row) = tail_of row f in
        let z : slot_start l ≤ 48 = start_most l refl in
        let q : (layout_length row) ≡ slot_start l + 24 * stripe_count l = sym f.bytes ∙ f.layout.size in
        grown_render p (raised p.layout.header) i (slot_start l + 24 * (i + 1)) (27 + slot_start l + 24 * stripe_count l)
        (sets row 25 (bytes 2 (slot_start l + 24 * (i + 1)))) (sets (sets row 25 (bytes 2 (slot_start l + 24 * (i + 1)))) 27 (encode_header (raised (decode_header l)) (i + 1)))
        (sets (sets (sets row 25 (bytes 2 (slot_start l + 24 * (i + 1)))) 27 (encode_header (raised (decode_header l)) (i + 1))) (27 + slot_start l + 24 * stripe_count l) (encode_slots (replicate (i + 1 - stripe_count l) Hole)))
        (omega arith) (omega arith) (omega arith) (omega arith)
        (ap (λ (y : List ℕ). sets y 25 (bytes 2 (slot_start l + 24 * (i + 1)))) (sym (used_back row b u)))
        (rw (header_of row))
        (rw (count_of row))

    pub grow_nested : sets (sets (sets (sets row 25 (bytes 2 (slot_start (layout_bytes row) + 24 * (i + 1)))) 27 (encode_header (raised (decode_header (layout_bytes row))) (i + 1)))
        (27 + slot_start (layout_bytes row) + 24 * stripe_count (layout_bytes row)) (encode_slots (replicate (i + 1 - stripe_count (layout_bytes row)) Hole)))
        (27 + slot_start (layout_bytes row) + 24 * i) (encode_slot s) ≡ render_parent (grown (parse_parent row) i s)
    unfolding longer_row
    grow_nested =
        let l : List ℕ = layout_bytes row in
        let p : Parent = decode_parent row in
        let n : length p.layout.slots ≡ stripe_count l = count_of row in
        let k : 32 + length p.layout.pool ≡ slot_start l = pool_of row (used_facts row u) in
        let e : sets longer_row (27 + slot_start l + 24 * i) (encode_slot s) ≡ sets (render_parent (used (lengthened p (raised p.layout.header) (suc i - length p.layout.slots)))) (27 + slot_start l + 24 * i) (encode_slot s) =
        ap (λ (y : List ℕ). sets y (27 + slot_start l + 24 * i) (encode_slot s)) longer_is in
        e ∙ grown_slot p i (27 + slot_start l + 24 * i) s (omega arith) (omega arith)
        ∙ ap (λ (w : ParentRow). render_parent (grown w i s)) (sym (parent_used row u.used))

    pub grow_stores : (l : List ℕ) → l ≡ layout_bytes row → (hd : Header) → hd ≡ decode_header l → (up : Header) → up ≡ raised hd → (st : ℕ) → st ≡ slot_start l → (n : ℕ) → n ≡ stripe_count l → (x1 x2 x3 x4 : List ℕ) →
        x1 ≡ sets row 25 (bytes 2 (st + 24 * (i + 1))) → x2 ≡ sets x1 27 (encode_header up (i + 1)) → x3 ≡ sets x2 (27 + st + 24 * n) (encode_slots (replicate (i + 1 - n) Hole)) →
        x4 ≡ sets x3 (27 + st + 24 * i) (encode_slot s) → x4 ≡ render_parent (grown (parse_parent row) i s)
    grow_stores l el hd eh up eu st es n en x1 x2 x3 x4 q1 q2 q3 q4 = rw (q4, q3, q2, q1, en, es, eu, eh, el) grow_nested

    pub grow_length : length (render_parent (grown (parse_parent row) i s)) ≡ parent_size
    grow_length =
        let l : List ℕ = layout_bytes row in
        ap length (sym grow_nested)
        ∙ length-sets (sets (sets (sets row 25 (bytes 2 (slot_start l + 24 * (i + 1)))) 27 (encode_header (raised (decode_header l)) (i + 1))) (27 + slot_start l + 24 * stripe_count l) (encode_slots (replicate (i + 1 - stripe_count l) Hole))) (27 + slot_start l + 24 * i) (encode_slot s)
        ∙ length-sets (sets (sets row 25 (bytes 2 (slot_start l + 24 * (i + 1)))) 27 (encode_header (raised (decode_header l)) (i + 1))) (27 + slot_start l + 24 * stripe_count l) (encode_slots (replicate (i + 1 - stripe_count l) Hole))
        ∙ length-sets (sets row 25 (bytes 2 (slot_start l + 24 * (i + 1)))) 27 (encode_header (raised (decode_header l)) (i + 1))
        ∙ length-sets row 25 (bytes 2 (slot_start l + 24 * (i + 1))) ∙ u.size

-- ## A parent made

module _ (row : List ℕ) (f : MdtFid) (i : ℕ) (w : Owner) (s : Slot) (z : length row ≡ parent_size) (m : i < max_slots) where
  pub made_nested : sets (sets (sets (sets (sets (sets (set row 0 1) 1 (encode_fid f.0)) 17 (encode_owner w)) 25 (bytes 2 (32 + 24 * (i + 1)))) 27 (encode_header (made_header f) (i + 1)))
      59 (encode_slots (replicate (i + 1) Hole))) (59 + 24 * i) (encode_slot s) ≡ render_parent (made f i w s (drop 1 row))
  made_nested =
      ap (λ (y : List ℕ). sets y (59 + 24 * i) (encode_slot s)) (made_render f i (32 + 24 * (i + 1)) w row _ _ _ _ _ _ (omega arith) refl refl refl refl refl refl refl)
      ∙ made_slot f i w s row

  pub made_length : length (render_parent (made f i w s (drop 1 row))) ≡ parent_size
  made_length =
      let a : List ℕ = sets (sets (set row 0 1) 1 (encode_fid f.0)) 17 (encode_owner w) in
      let b : List ℕ = sets a 25 (bytes 2 (32 + 24 * (i + 1))) in
      let c : List ℕ = sets b 27 (encode_header (made_header f) (i + 1)) in
      let d : List ℕ = sets c 59 (encode_slots (replicate (i + 1) Hole)) in
      ap length (sym made_nested) ∙ length-sets d (59 + 24 * i) (encode_slot s) ∙ length-sets c 59 (encode_slots (replicate (i + 1) Hole))
      ∙ length-sets b 27 (encode_header (made_header f) (i + 1)) ∙ length-sets a 25 (bytes 2 (32 + 24 * (i + 1)))
      ∙ length-sets (sets (set row 0 1) 1 (encode_fid f.0)) 17 (encode_owner w) ∙ length-sets (set row 0 1) 1 (encode_fid f.0) ∙ length-set row 0 1 ∙ z
