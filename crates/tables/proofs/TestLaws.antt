-- The tests of a row, case by case, in the order in which the code asks them. Assumes nothing.
use mathlib.Core.Path.{◌≡◌, refl}
use mathlib.Core.List.{List}
use mathlib.Core.Bool.{Bool, true, false, not, ◌&&◌}
use Prim.Native.Nat.{ℕ, ◌*◌, ◌/◌, ◌≤◌, ◌<◌}
use borrow.Author.Tests.{le-leb, lt-leb, eq-eqb, ne_eqb}
use lib.Dec.{leb, eqb}
use lib.ListN.{length, get_or, drop}
use lib.Seq.{drop-drop}
use Rattle.wire.specs.Numbers.{le}
use Rattle.fid.specs.Fid.{decode_fid, good_fid, good_number, same_fid, zero_fid, good_object as good_object_fid}
use Rattle.fid.specs.declared.Fid.{Fid}
use Rattle.layout.specs.Slot.{max_index}
use Rattle.layout.specs.Layout.{accepted_layout}
use Rattle.tables.specs.Bytes.{parent_size, object_size, layout_room, layout_length, layout_bytes, is_used, parent_rows, object_rows, self_fid, claimed_fid}
use Rattle.tables.specs.Check.{all, when_used, good_layout, max_parents, max_objects, whole_rows, parents_whole, objects_whole, all_different, none_twice, is_mark, used_mark, fresh_mark, good_index, good_claim, fresh_claims, good_object, is_row_of}

module _ (test : List ℕ → Bool) (row : List ℕ) where
  pub when_unused : is_used row ≡ false → true ≡ when_used test row
  unfolding when_used
  when_unused h = rw h

  pub when_used_lem : is_used row ≡ true → test row ≡ when_used test row
  unfolding when_used
  when_used_lem h = rw h

-- a test of two parts, the first asked first
pub first_off : (x y : Bool) → x ≡ false → false ≡ (x && y)
first_off x y h = rw h

pub first_on : (x y : Bool) → x ≡ true → y ≡ (x && y)
first_on x y h = rw h

-- ## 11

module _ (size most : ℕ) (l : List ℕ) where
  pub whole_not : (size * (length l / size) ≡ length l → ⊥) → false ≡ whole_rows size most l
  unfolding whole_rows
  whole_not h = rw (ne_eqb _ _ h)

  pub whole_most : size * (length l / size) ≡ length l → leb (length l / size) most ≡ whole_rows size most l
  unfolding whole_rows
  whole_most h = rw (eq-eqb _ _ h)

module _ (row : List ℕ) where
  pub mark_bad : 1 < get_or row 0 0 → used_mark row ≡ false
  unfolding used_mark is_mark
  mark_bad h = lt-leb _ _ h

  pub mark_good : get_or row 0 0 ≤ 1 → used_mark row ≡ true
  unfolding used_mark is_mark
  mark_good h = le-leb _ _ h

module _ (l : List ℕ) where
  pub parents_not : whole_rows parent_size max_parents l ≡ false → false ≡ parents_whole l
  unfolding parents_whole
  parents_not h = rw h

  pub parents_marks : whole_rows parent_size max_parents l ≡ true → all used_mark (parent_rows l) ≡ parents_whole l
  unfolding parents_whole
  parents_marks h = rw h

  pub objects_not : whole_rows object_size max_objects l ≡ false → false ≡ objects_whole l
  unfolding objects_whole
  objects_not h = rw h

  pub objects_used : whole_rows object_size max_objects l ≡ true → all used_mark (object_rows l) ≡ false → false ≡ objects_whole l
  unfolding objects_whole
  objects_used h k = rw (h, k)

  pub objects_fresh : whole_rows object_size max_objects l ≡ true → all used_mark (object_rows l) ≡ true →
      all (when_used fresh_mark) (object_rows l) ≡ objects_whole l
  unfolding objects_whole
  objects_fresh h k = rw (h, k)

-- ## 13

module _ (row : List ℕ) where
  pub layout_long : layout_room < layout_length row → false ≡ good_layout row
  unfolding good_layout
  layout_long h = rw (lt-leb _ _ h)

  pub layout_read : layout_length row ≤ layout_room → accepted_layout (layout_bytes row) ≡ good_layout row
  unfolding good_layout
  layout_read h = rw (le-leb _ _ h)

-- ## 14

module _ (row : List ℕ) (f : Fid) (e : f ≡ decode_fid (drop 29 row)) where
  pub claim_zero : same_fid f zero_fid ≡ true → true ≡ good_claim row
  unfolding good_claim claimed_fid
  claim_zero h = rw (← e, h)

  pub claim_number : same_fid f zero_fid ≡ false → good_number f ≡ good_claim row
  unfolding good_claim claimed_fid
  claim_number h = rw (← e, h)

module _ (row : List ℕ) where
  pub fresh_not : (get_or row 45 0 ≡ 1 → ⊥) → true ≡ fresh_claims row
  unfolding fresh_claims
  fresh_not h = rw (ne_eqb _ _ h)

  pub fresh_is : get_or row 45 0 ≡ 1 → (f : Fid) → f ≡ decode_fid (drop 29 row) → not (same_fid f zero_fid) ≡ fresh_claims row
  unfolding fresh_claims claimed_fid
  fresh_is h f e = rw (eq-eqb _ _ h, e)

  pub object_self : good_fid (self_fid row) ≡ false → false ≡ good_object row
  unfolding good_object good_object_fid
  object_self h = rw h

  pub object_index : good_fid (self_fid row) ≡ true → max_index < le 4 (drop 17 row) → false ≡ good_object row
  unfolding good_object good_object_fid good_index
  object_index h k = rw (h, lt-leb _ _ k)

  pub object_claim : good_fid (self_fid row) ≡ true → le 4 (drop 17 row) ≤ max_index → good_claim row ≡ false → false ≡ good_object row
  unfolding good_object good_object_fid good_index
  object_claim h k m = rw (h, le-leb _ _ k, m)

  pub object_fresh : good_fid (self_fid row) ≡ true → le 4 (drop 17 row) ≤ max_index → good_claim row ≡ true → fresh_claims row ≡ good_object row
  unfolding good_object good_object_fid good_index
  object_fresh h k m = rw (h, le-leb _ _ k, m)

-- ## 15

oid_off : (u a b : Bool) → false ≡ (u && (a && false && b))
oid_off true true b = refl
oid_off true false b = refl
oid_off false a b = refl

seq_off : (u a b : Bool) → false ≡ (u && (false && a && b))
seq_off true a b = refl
seq_off false a b = refl

ver_off : (u a b : Bool) → false ≡ (u && (a && b && false))
ver_off true true true = refl
ver_off true true false = refl
ver_off true false b = refl
ver_off false a b = refl

all_on : (u : Bool) → u ≡ (u && (true && true && true))
all_on true = refl
all_on false = refl

-- the test of mark and self FID, the object id first
module _ (row : List ℕ) (f : Fid) where
  pub has_oid : (le 4 (drop 9 row) ≡ f.oid → ⊥) → false ≡ is_row_of f row
  unfolding same_fid self_fid decode_fid is_row_of
  has_oid h = rw (drop-drop 8 1 row, drop-drop 12 1 row, ne_eqb _ _ h) (oid_off (is_used row) (eqb (le 8 (drop 1 row)) f.seq) (eqb (le 4 (drop 13 row)) f.ver))

  pub has_seq : (le 8 (drop 1 row) ≡ f.seq → ⊥) → false ≡ is_row_of f row
  unfolding same_fid self_fid decode_fid is_row_of
  has_seq h = rw (ne_eqb _ _ h) (seq_off (is_used row) (eqb (le 4 (drop 8 (drop 1 row))) f.oid) (eqb (le 4 (drop 12 (drop 1 row))) f.ver))

  pub has_ver : (le 4 (drop 13 row) ≡ f.ver → ⊥) → false ≡ is_row_of f row
  unfolding same_fid self_fid decode_fid is_row_of
  has_ver h = rw (drop-drop 8 1 row, drop-drop 12 1 row, ne_eqb _ _ h) (ver_off (is_used row) (eqb (le 8 (drop 1 row)) f.seq) (eqb (le 4 (drop 9 row)) f.oid))

  pub has_used : le 4 (drop 9 row) ≡ f.oid → le 8 (drop 1 row) ≡ f.seq → le 4 (drop 13 row) ≡ f.ver →
      eqb (get_or row 0 0) 1 ≡ is_row_of f row
  unfolding is_used same_fid self_fid decode_fid is_row_of
  has_used p q r =
      rw (drop-drop 8 1 row, drop-drop 12 1 row, eq-eqb _ _ p, eq-eqb _ _ q, eq-eqb _ _ r) (all_on (eqb (get_or row 0 0) 1))

module _ (p o : List ℕ) where
  pub parents_twice : none_twice (parent_rows p) ≡ false → false ≡ all_different p o
  unfolding all_different
  parents_twice h = rw h

  pub objects_twice : none_twice (parent_rows p) ≡ true → none_twice (object_rows o) ≡ all_different p o
  unfolding all_different
  objects_twice h = rw h
