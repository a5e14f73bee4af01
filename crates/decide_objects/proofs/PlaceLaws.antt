-- How a claimed place was had, and what the code needs of the row that was found. Assumes nothing.
use mathlib.Core.Path.{◌≡◌, refl, sym, ap, subst, ◌∙◌}
use Rattle.std.specs.Prelude.{Option, Some, None}
use mathlib.Core.List.{List}
use mathlib.Core.Bool.{Bool, true, false, cond, not}
use Prim.Native.Nat.{ℕ, ◌≤◌, ◌<◌}
use borrow.Author.Tests.{ltb-true, ltb-false, not-true}
use lib.Dec.{ltb}
use lib.ListN.{length, drop}
use Rattle.wire.proofs.Both.{and_first}
use Rattle.fid.specs.Fid.{same_fid}
use Rattle.layout.specs.declared.Slot.{Slot}
use Rattle.layout.specs.declared.Slot.TheVariants.{Hole, Names}
use Rattle.layout.specs.Layout.{max_slots, stripe_count}
use Rattle.tables.specs.Records.{ParentRow, Tables}
use Rattle.tables.specs.Bytes.{is_used, layout_bytes, parse_parent, parse, self_fid, decode_parent, parse_parents}
use Rattle.tables.specs.Positions.{slots_of, row_at, width}
use Rattle.tables.specs.Check.{Sound, is_row_of}
use Rattle.tables.proofs.PositionLaws.{slots_used}
use Rattle.rules.specs.Rows.{tail_of, holes_in, is_parent, is_unused, parent_row, free_parent, slot_at, object_of, first_row}
use Rattle.rules.specs.Places.{takeable, slot_way, row_way, way}
use Rattle.rules.specs.declared.Way.{Way}
use Rattle.rules.specs.declared.Way.TheVariants.{NoWay, NewParent, Fill, Grow, Take}
use Rattle.rules.proofs.Searches.{from_row_is}
use Rattle.search.proofs.ParsedRows.{parent_unused, free_test}
use Rattle.search.proofs.FoundRows.{parent_inside, parent_found, free_parent_inside}
use Rattle.stores.specs.UsedRow.{row_bytes, UsedAt}
use Rattle.writes.proofs.RowLaws.{row_is, used_at}
use Rattle.tables.specs.declared.Place.{Place}
use Rattle.rules.proofs.Checked.{parent_has}

-- ## How a place was had

data Had (T : Tables) (home : Place) : Way → Type 0 where
  none : Had T home NoWay
  new : home.index < max_slots → Had T home NewParent
  fill : (r : ℕ) → parent_row T.parents home.file ≡ Some r → home.index < width T.parents r → Had T home (Fill r)
  grow : (r : ℕ) → parent_row T.parents home.file ≡ Some r → home.index < max_slots → width T.parents r ≤ home.index → Had T home (Grow r)
  take' : (r : ℕ) → parent_row T.parents home.file ≡ Some r → home.index < width T.parents r → Had T home (Take r)

had : (T : Tables) (home : Place) → Had T home (way T home)
unfolding way row_way slot_way
had T home = first (ltb home.index max_slots) refl
  where
    taken : (r : ℕ) (b : Bool) → parent_row T.parents home.file ≡ Some r → home.index < width T.parents r → Had T home (cond b (Take r) NoWay)
    taken r true q w = take' r q w
    taken r false q w = none

    slot : (r : ℕ) (s : Slot) → parent_row T.parents home.file ≡ Some r → home.index < width T.parents r → Had T home (slot_way T home r home.index s)
    slot r Hole q w = fill r q w
    slot r (Names g n k) q w = taken r (takeable T.parents home g r home.index (object_of T.objects g)) q w

    past : (r : ℕ) (b : Bool) → parent_row T.parents home.file ≡ Some r → home.index < max_slots → width T.parents r ≤ home.index → Had T home (cond b (Grow r) NoWay)
    past r true q m w = grow r q m w
    past r false q m w = none

    inside : (r : ℕ) (b : Bool) → ltb home.index (width T.parents r) ≡ b → parent_row T.parents home.file ≡ Some r → home.index < max_slots →
        Had T home (cond b (slot_way T home r home.index (slot_at T.parents r home.index)) (cond (holes_in (row_at T.parents r)) (Grow r) NoWay))
    inside r true e q m = slot r (slot_at T.parents r home.index) q (ltb-true home.index (width T.parents r) e)
    inside r false e q m = past r (holes_in (row_at T.parents r)) q m (ltb-false home.index (width T.parents r) e)

    found : (a : Option ℕ) → parent_row T.parents home.file ≡ a → home.index < max_slots → Had T home (row_way T home a)
    found None q m = new m
    found (Some r) q m = inside r (ltb home.index (width T.parents r)) refl q m

    first : (b : Bool) → ltb home.index max_slots ≡ b → Had T home (cond b (row_way T home (parent_row T.parents home.file)) NoWay)
    first true e = found (parent_row T.parents home.file) refl (ltb-true home.index max_slots e)
    first false e = none

-- what the code needs of a row that was found
pub record Inside (p : List ℕ) (r i : ℕ) : Type 0 where
  pub used : UsedAt p r
  pub inside : i < stripe_count (layout_bytes (row_bytes p r))

pub record Past (p : List ℕ) (r i : ℕ) : Type 0 where
  pub used : UsedAt p r
  pub past : stripe_count (layout_bytes (row_bytes p r)) ≤ i
  pub few : i < max_slots

module _ (p o : List ℕ) (h : Sound p o) (home : Place) where
  used_of : (r : ℕ) → parent_row (parse_parents p) home.file ≡ Some r → UsedAt p r
  unfolding is_row_of
  used_of r e =
      let n = parent_inside p home.file r e in
      let t : is_parent home.file (parse_parent (row_bytes p r)) ≡ true = ap (is_parent home.file) (sym (row_is p r n)) ∙ parent_found p home.file r e in
      used_at p o r h n (and_first (is_used (row_bytes p r)) (same_fid (self_fid (row_bytes p r)) home.file.0) (sym (parent_has home.file (row_bytes p r)) ∙ t))

  width_of : (r : ℕ) → parent_row (parse_parents p) home.file ≡ Some r → width (parse_parents p) r ≡ stripe_count (layout_bytes (row_bytes p r))
  unfolding width
  width_of r e = ap (λ (w : ParentRow). length (slots_of w)) (row_is p r (parent_inside p home.file r e)) ∙ sym (slots_used (row_bytes p r) (used_of r e).row.used)

  pub fill_place : (w : Way) (r : ℕ) → w ≡ way (parse p o) home → w ≡ Fill r → Inside p r home.index
  fill_place w r e q = go (subst (Had (parse p o) home) (sym e ∙ q) (had (parse p o) home))
    where
      go : Had (parse p o) home (Fill r) → Inside p r home.index
      go (fill r a b) = record { used = used_of r a; inside = rw (← width_of r a) b }

  pub take_place : (w : Way) (r : ℕ) → w ≡ way (parse p o) home → w ≡ Take r → Inside p r home.index
  take_place w r e q = go (subst (Had (parse p o) home) (sym e ∙ q) (had (parse p o) home))
    where
      go : Had (parse p o) home (Take r) → Inside p r home.index
      go (take' r a b) = record { used = used_of r a; inside = rw (← width_of r a) b }

  pub grow_past : (w : Way) (r : ℕ) → w ≡ way (parse p o) home → w ≡ Grow r → Past p r home.index
  grow_past w r e q = go (subst (Had (parse p o) home) (sym e ∙ q) (had (parse p o) home))
    where
      go : Had (parse p o) home (Grow r) → Past p r home.index
      go (grow r a m b) = record { used = used_of r a; past = rw (← width_of r a) b; few = m }

  pub new_few : (w : Way) → w ≡ way (parse p o) home → w ≡ NewParent → home.index < max_slots
  new_few w e q = go (subst (Had (parse p o) home) (sym e ∙ q) (had (parse p o) home))
    where
      go : Had (parse p o) home NewParent → home.index < max_slots
      go (new m) = m

-- the bytes of a free row
pub free_tail : (p o : List ℕ) (r : ℕ) → free_parent (parse_parents p) ≡ Some r → tail_of (parse_parent (row_bytes p r)) ≡ drop 1 (row_bytes p r)
unfolding free_parent first_row row_at tail_of parse_parent
free_tail p o r q =
    let m = free_parent_inside p r q in
    let t : is_unused (row_at (parse_parents p) r) ≡ true = (from_row_is _ 0 (λ r. is_unused (row_at (parse_parents p) r)) r q).0 in
    let g : not (is_used (row_bytes p r)) ≡ true = sym (free_test decode_parent (row_bytes p r)) ∙ ap is_unused (sym (row_is p r m)) ∙ t in
    ap tail_of (parent_unused (row_bytes p r) (not-true (is_used (row_bytes p r)) g))
