-- How a claimed place can be had, case by case as the code asks. Assumes nothing.
use mathlib.Core.Path.{◌≡◌, ap}
use Rattle.std.specs.Prelude.{Option, Some, None}
use mathlib.Core.List.{List}
use mathlib.Core.Bool.{Bool, true, false, not, ◌&&◌}
use Prim.Native.Nat.{ℕ, ◌≤◌, ◌<◌}
use borrow.Author.Tests.{lt-ltb, le-ltb}
use Rattle.fid.specs.declared.OstFid.{OstFid}
use Rattle.layout.specs.Layout.{max_slots}
use Rattle.layout.specs.declared.Slot.{Slot}
use Rattle.layout.specs.declared.Slot.TheVariants.{Names}
use Rattle.tables.specs.Records.{Tables}
use Rattle.tables.specs.Bytes.{parse, parse_parents, parse_objects}
use Rattle.tables.specs.Positions.{row_at, width}
use Rattle.tables.specs.declared.Object.{Object}
use Rattle.rules.specs.Rows.{holes_in, parent_row, slot_at, object_of, named_else}
use Rattle.rules.specs.Places.{takeable, slot_way, row_way, way, claims}
use Rattle.rules.specs.declared.Way.{Way}
use Rattle.rules.specs.declared.Way.TheVariants.{NoWay, NewParent, Grow, Take}
use Rattle.tables.specs.declared.Place.{Place}

-- ## A fresh object's slot

module _ (p o : List ℕ) (home : Place) (g : OstFid) (r i : ℕ) (found : Option Object) (e : found ≡ object_of (parse_objects o) g) where
  pub take_missing : found ≡ None → false ≡ takeable (parse_parents p) home g r i (object_of (parse_objects o) g)
  unfolding takeable
  take_missing h = rw (← e, h)

  module _ (x : Object) (h : found ≡ Some x) where
    pub take_other : (x.fresh && claims x.claim home) ≡ false → false ≡ takeable (parse_parents p) home g r i (object_of (parse_objects o) g)
    unfolding takeable
    take_other s = rw (← e, h, s)

    pub take_alone : (x.fresh && claims x.claim home) ≡ true → (b : Bool) → b ≡ named_else (parse_parents p) g r i →
        not b ≡ takeable (parse_parents p) home g r i (object_of (parse_objects o) g)
    unfolding takeable
    take_alone s b t = rw (← e, h, s) (ap not t)

-- ## A slot

module _ (T : Tables) (home : Place) (r i : ℕ) (s : Slot) (g : OstFid) (n k : ℕ) (e : s ≡ Names g n k) where
  pub slot_taken : (b : Bool) → b ≡ takeable T.parents home g r i (object_of T.objects g) → b ≡ true → Take r ≡ slot_way T home r i s
  unfolding slot_way
  slot_taken b q h = rw (e, ← q, h)

  pub slot_held : (b : Bool) → b ≡ takeable T.parents home g r i (object_of T.objects g) → b ≡ false → NoWay ≡ slot_way T home r i s
  unfolding slot_way
  slot_held b q h = rw (e, ← q, h)

-- ## A row

module _ (p o : List ℕ) (home : Place) (r w : ℕ) (e : w ≡ width (parse_parents p) r) where
  pub row_slot : home.index < w → (s : Slot) (a : Way) → s ≡ slot_at (parse_parents p) r home.index → a ≡ slot_way (parse p o) home r home.index s → a ≡ row_way (parse p o) home (Some r)
  unfolding row_way
  row_slot h s a q t = rw (← e, lt-ltb home.index w h, ← q) t

  pub row_grows : w ≤ home.index → (b : Bool) → b ≡ holes_in (row_at (parse_parents p) r) → b ≡ true → Grow r ≡ row_way (parse p o) home (Some r)
  unfolding row_way
  row_grows h b q t = rw (← e, le-ltb home.index w h, ← q, t)

  pub row_full : w ≤ home.index → (b : Bool) → b ≡ holes_in (row_at (parse_parents p) r) → b ≡ false → NoWay ≡ row_way (parse p o) home (Some r)
  unfolding row_way
  row_full h b q t = rw (← e, le-ltb home.index w h, ← q, t)

-- ## A place

module _ (p o : List ℕ) (home : Place) where
  pub way_far : max_slots ≤ home.index → NoWay ≡ way (parse p o) home
  unfolding way
  way_far h = rw (le-ltb home.index max_slots h)

  pub way_absent : home.index < max_slots → parent_row (parse_parents p) home.file ≡ None → NewParent ≡ way (parse p o) home
  unfolding way row_way
  way_absent h e = rw (lt-ltb home.index max_slots h, e)

  pub way_row : home.index < max_slots → (r : ℕ) (a : Way) → parent_row (parse_parents p) home.file ≡ Some r → a ≡ row_way (parse p o) home (Some r) → a ≡ way (parse p o) home
  unfolding way
  way_row h r a e t = rw (lt-ltb home.index max_slots h, e) t
