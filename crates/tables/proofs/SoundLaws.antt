-- What is known of tables that pass the check, table by table and row by row: the facts that later functions draw on. Assumes nothing.
use mathlib.Core.Path.{◌≡◌, refl, sym}
use mathlib.Core.List.{List, []}
use mathlib.Core.Bool.{Bool, true, false, not, ◌&&◌}
use Prim.Native.Nat.{ℕ, ◌*◌, ◌/◌, ◌≤◌, ◌<◌}
use native.Mathlib.Omega.{arith}
use borrow.Author.Tests.{eqb-true, leb-true, eq-eqb}
use lib.Dec.{leb, eqb}
use lib.ListN.{length, get_or, take, drop}
use Rattle.wire.specs.Numbers.{le}
use Rattle.wire.proofs.Both.{and_first, and_second}
use Rattle.fid.specs.Fid.{good_fid, same_fid, zero_fid, good_object as good_object_fid, good_file}
use Rattle.layout.specs.Slot.{max_index}
use Rattle.layout.specs.Layout.{accepted_layout}
use Rattle.layout.proofs.LayoutLaws.{LayoutFacts, accepted_facts}
use Rattle.tables.specs.Bytes.{parent_size, object_size, layout_room, is_used, layout_length, layout_bytes, parent_rows, object_rows, reserve_entries, claimed_fid, self_fid}
use Rattle.tables.specs.Check.{all, when_used, max_parents, max_objects, whole_rows, is_mark, used_mark, fresh_mark, parents_whole, objects_whole, reserve_whole, tables_whole, good_layout, good_layouts, good_parent, good_index, good_claim, fresh_claims, good_object, good_entry, good_fids, none_twice, all_different, Sound}
use Rattle.tables.proofs.AllLaws.{part_length, all_at}
use Rattle.tables.proofs.RowReads.{layout_bytes_lem}
use Rattle.tables.proofs.CheckLaws.{sound_pass}

-- ## The tables

pub record SoundFacts (p o : List ℕ) : Type 0 where
  pub parents_length : parent_size * (length p / parent_size) ≡ length p
  pub parents_few : length p / parent_size ≤ max_parents
  pub parents_marks : all used_mark (parent_rows p) ≡ true
  pub objects_length : object_size * (length o / object_size) ≡ length o
  pub objects_few : length o / object_size ≤ max_objects
  pub objects_marks : all used_mark (object_rows o) ≡ true
  pub fresh_marks : all (when_used fresh_mark) (object_rows o) ≡ true
  pub layouts : good_layouts p ≡ true
  pub selves : all (when_used good_parent) (parent_rows p) ≡ true
  pub objects : all (when_used good_object) (object_rows o) ≡ true
  pub parents_differ : none_twice (parent_rows p) ≡ true
  pub objects_differ : none_twice (object_rows o) ≡ true

pub record WholeFacts (size most : ℕ) (l : List ℕ) : Type 0 where
  pub exact : size * (length l / size) ≡ length l
  pub few : length l / size ≤ most

pub whole_facts : (size most : ℕ) (l : List ℕ) → whole_rows size most l ≡ true → WholeFacts size most l
unfolding whole_rows
whole_facts size most l h =
    let a : Bool = eqb (size * (length l / size)) (length l) in
    let b : Bool = leb (length l / size) most in
    record {
      exact = eqb-true (size * (length l / size)) (length l) (and_first a b h);
      few = leb-true (length l / size) most (and_second a b h);
    }

pub sound_facts : (p o : List ℕ) → Sound p o → SoundFacts p o
unfolding tables_whole parents_whole objects_whole good_fids all_different
sound_facts p o h =
    let k = sound_pass p o h in
    let w : (parents_whole p && objects_whole o) ≡ true = and_first (parents_whole p && objects_whole o) (reserve_whole []) k.whole in
    let a : Bool = whole_rows parent_size max_parents p in
    let b : Bool = all used_mark (parent_rows p) in
    let pw : (a && b) ≡ true = and_first (parents_whole p) (objects_whole o) w in
    let d : Bool = whole_rows object_size max_objects o in
    let e : Bool = all used_mark (object_rows o) in
    let f : Bool = all (when_used fresh_mark) (object_rows o) in
    let ow : (d && e && f) ≡ true = and_second (parents_whole p) (objects_whole o) w in
    let m : Bool = all (when_used good_parent) (parent_rows p) in
    let n : Bool = all (when_used good_object) (object_rows o) in
    let g : (m && n) ≡ true = and_first (m && n) (all good_entry (reserve_entries [])) k.fids in
    let wp = whole_facts parent_size max_parents p (and_first a b pw) in
    let wo = whole_facts object_size max_objects o (and_first d e (and_first (d && e) f ow)) in
    record {
      parents_length = wp.exact;
      parents_few = wp.few;
      parents_marks = and_second a b pw;
      objects_length = wo.exact;
      objects_few = wo.few;
      objects_marks = and_second d e (and_first (d && e) f ow);
      fresh_marks = and_second (d && e) f ow;
      layouts = k.layouts;
      selves = and_first m n g;
      objects = and_second m n g;
      parents_differ = and_first (none_twice (parent_rows p)) (none_twice (object_rows o)) k.different;
      objects_differ = and_second (none_twice (parent_rows p)) (none_twice (object_rows o)) k.different;
    }

-- ## The rows

-- a test of used rows, at a used row
pub used_passes : (test : List ℕ → Bool) (row : List ℕ) → when_used test row ≡ true → is_used row ≡ true → test row ≡ true
unfolding when_used
used_passes test row h u = rw u at h

pub layout_at_lem : (p row : List ℕ) (r : ℕ) → good_layouts p ≡ true → r < length p / parent_size → row ≡ take parent_size (drop (parent_size * r) p) →
    when_used good_layout row ≡ true
unfolding good_layouts parent_rows
layout_at_lem p row r h k e = rw e (all_at (when_used good_layout) parent_size (length p / parent_size) r p h k)

-- the layout of a row that is used
pub record LayoutOf (row : List ℕ) : Type 0 where
  pub room : layout_length row ≤ layout_room
  pub accepted : accepted_layout (layout_bytes row) ≡ true
  pub bytes : length (layout_bytes row) ≡ layout_length row
  pub facts : LayoutFacts (layout_bytes row)

pub layout_of_row : (row : List ℕ) → length row ≡ parent_size → when_used good_layout row ≡ true → is_used row ≡ true → LayoutOf row
unfolding good_layout
layout_of_row row n h u =
    let g : (leb (layout_length row) layout_room && accepted_layout (layout_bytes row)) ≡ true = used_passes good_layout row h u in
    let a = and_second (leb (layout_length row) layout_room) (accepted_layout (layout_bytes row)) g in
    let r : layout_length row ≤ layout_room =
    leb-true (layout_length row) layout_room (and_first (leb (layout_length row) layout_room) (accepted_layout (layout_bytes row)) g) in
    record {
      room = r;
      accepted = a;
      bytes = layout_bytes_lem row n r;
      facts = accepted_facts (layout_bytes row) a;
    }

-- a fresh object has a claim
fresh_claimed : (row : List ℕ) → fresh_claims row ≡ true → get_or row 45 0 ≡ 1 → same_fid (claimed_fid row) zero_fid ≡ false
unfolding fresh_claims
fresh_claimed row h k = not_is (same_fid (claimed_fid row) zero_fid) (rw (eq-eqb _ _ k) at h)
  where
    not_is : (b : Bool) → not b ≡ true → b ≡ false
    not_is true e = sym e
    not_is false e = refl

-- a used parent row
pub record ParentFacts (row : List ℕ) : Type 0 where
  pub size : length row ≡ parent_size
  pub self : good_fid (self_fid row) ≡ true
  pub room : layout_length row ≤ layout_room
  pub least : 32 ≤ layout_length row
  pub accepted : accepted_layout (layout_bytes row) ≡ true
  pub bytes : length (layout_bytes row) ≡ layout_length row
  pub layout : LayoutFacts (layout_bytes row)

-- a used object row
pub record ObjectFacts (row : List ℕ) : Type 0 where
  pub size : length row ≡ object_size
  pub mark : get_or row 45 0 ≤ 1
  pub self : good_fid (self_fid row) ≡ true
  pub index : le 4 (drop 17 row) ≤ max_index
  pub claim : good_claim row ≡ true
  pub fresh : get_or row 45 0 ≡ 1 → same_fid (claimed_fid row) zero_fid ≡ false

module _ (p o : List ℕ) (h : Sound p o) (r : ℕ) (row : List ℕ) where
  -- a parent row, used or not: its mark and its length
  module _ (k : r < length p / parent_size) (e : row ≡ take parent_size (drop (parent_size * r) p)) where
    pub parent_size_lem : length row ≡ parent_size
    parent_size_lem = rw e (part_length parent_size r p (omega arith))

    pub parent_mark : get_or row 0 0 ≤ 1
    unfolding parent_rows used_mark is_mark
    parent_mark =
        leb-true (get_or row 0 0) 1 (rw e (all_at used_mark parent_size (length p / parent_size) r p (sound_facts p o h).parents_marks k))

    pub parent_facts : is_used row ≡ true → ParentFacts row
    unfolding parent_rows good_parent good_file
    parent_facts u =
        let l = layout_of_row row parent_size_lem (layout_at_lem p row r (sound_facts p o h).layouts k e) u in
        let s : when_used good_parent row ≡ true =
        rw e (all_at (when_used good_parent) parent_size (length p / parent_size) r p (sound_facts p o h).selves k) in
        let f = l.facts in
        record {
          size = parent_size_lem;
          self = used_passes good_parent row s u;
          room = l.room;
          least = omega (arith, l.bytes, f.size, f.head);
          accepted = l.accepted;
          bytes = l.bytes;
          layout = f;
        }

  -- an object row
  module _ (k : r < length o / object_size) (e : row ≡ take object_size (drop (object_size * r) o)) where
    pub object_size_lem : length row ≡ object_size
    object_size_lem = rw e (part_length object_size r o (omega arith))

    pub object_mark : get_or row 0 0 ≤ 1
    unfolding object_rows used_mark is_mark
    object_mark =
        leb-true (get_or row 0 0) 1 (rw e (all_at used_mark object_size (length o / object_size) r o (sound_facts p o h).objects_marks k))

    pub object_facts : is_used row ≡ true → ObjectFacts row
    unfolding object_rows good_object good_object_fid good_index fresh_mark is_mark
    object_facts u =
        let m : when_used fresh_mark row ≡ true =
        rw e (all_at (when_used fresh_mark) object_size (length o / object_size) r o (sound_facts p o h).fresh_marks k) in
        let g : when_used good_object row ≡ true =
        rw e (all_at (when_used good_object) object_size (length o / object_size) r o (sound_facts p o h).objects k) in
        let a : Bool = good_fid (self_fid row) in
        let b : Bool = leb (le 4 (drop 17 row)) max_index in
        let t : (a && b && good_claim row && fresh_claims row) ≡ true = used_passes good_object row g u in
        let t₂ : (a && b && good_claim row) ≡ true = and_first (a && b && good_claim row) (fresh_claims row) t in
        let t₃ : (a && b) ≡ true = and_first (a && b) (good_claim row) t₂ in
        record {
          size = object_size_lem;
          mark = leb-true (get_or row 45 0) 1 (used_passes fresh_mark row m u);
          self = and_first a b t₃;
          index = leb-true (le 4 (drop 17 row)) max_index (and_second a b t₃);
          claim = and_second (a && b) (good_claim row) t₂;
          fresh = fresh_claimed row (and_second (a && b && good_claim row) (fresh_claims row) t);
        }
