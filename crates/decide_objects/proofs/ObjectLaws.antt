-- Object rows decided, case by case as the code does it. Assumes nothing.
use Rattle.refusals.specs.declared.Refusal.TheVariants.{NoParentRow}
use mathlib.Core.Path.{◌≡◌, refl, sym, ap, ◌∙◌}
use Rattle.std.specs.Prelude.{Option, Some, None}
use mathlib.Core.List.{List}
use mathlib.Core.Bool.{Bool, true, false}
use Prim.Native.Nat.{ℕ, ◌*◌, ◌/◌, ◌<◌}
use native.Mathlib.Omega.{arith}
use lib.ListN.{length, take, drop}
use Rattle.fid.specs.declared.OstFid.{OstFid}
use Rattle.layout.specs.declared.Slot.{Slot}
use Rattle.layout.specs.declared.Slot.TheVariants.{Hole, Names}
use Rattle.tables.specs.Records.{ObjectRow, unused, used}
use Rattle.tables.specs.Bytes.{parent_size, object_size, is_used, decode_parent, decode_object, parse_parent, parse, parse_parents, parse_objects}
use Rattle.tables.specs.Check.{Sound}
use Rattle.tables.specs.declared.Owner.{Owner}
use Rattle.tables.specs.declared.Object.{Object}
use Rattle.rules.specs.Rows.{owner_of, free_parent, slot_at, object_at, object_row}
use Rattle.rules.specs.Places.{way}
use Rattle.rules.specs.Classes.{object_class, object_class_of}
use Rattle.rules.specs.Repairs.{owner_write, slot_for, make_parent, destroy_at, destroy_named, adopt_by, adopt, repair_object}
use Rattle.rules.specs.Steps.{object_step}
use Rattle.rules.specs.declared.Way.{Way}
use Rattle.rules.specs.declared.Way.TheVariants.{NoWay, NewParent, Fill, Grow, Take}
use Rattle.rules.specs.declared.ObjectClass.{ObjectClass}
use Rattle.rules.specs.declared.ObjectClass.TheVariants.{UNUSED, KEPT, SPARE, EMPTY, ORPHAN, CONFLICT}
use Rattle.rules.specs.declared.Repair.TheVariants.{OfEmpty, OfOrphan}
use Rattle.search.proofs.ParsedRows.{parsed_object, object_used, object_unused, parent_used}
use Rattle.stores.specs.UsedRow.{row_bytes, UsedAt}
use Rattle.writes.specs.Plan.{Decides}
use Rattle.rules.specs.declared.Write.{Write}
use Rattle.rules.specs.declared.Write.TheVariants.{Nothing, Destroy, Slot as PutSlot, Grow as GrowSlot, Make}
use Rattle.rules.specs.declared.Step.TheVariants.{Rests, Repairs, Stops}
use Rattle.decide_objects.specs.Parts.{row_object}
use Rattle.writes.proofs.RowLaws.{decides_stop, row_is, row_inside}
use Rattle.decide_objects.proofs.PlaceLaws.{fill_place, take_place, grow_past}
use Rattle.tables.specs.declared.Place.{Place}
use Rattle.rules.specs.Settings.{Settings, adopts}

-- ## Small parts

pub drop_hole : (os : List ObjectRow) (s : Slot) → s ≡ Hole → Nothing ≡ destroy_named os s
unfolding destroy_named
drop_hole os s e = rw e

module _ (os : List ObjectRow) (s : Slot) (g : OstFid) (n i : ℕ) (e : s ≡ Names g n i) (d : Option ℕ) (q : d ≡ object_row os g) where
  pub drop_none : d ≡ None → Nothing ≡ destroy_named os s
  unfolding destroy_named destroy_at
  drop_none t = rw (e, ← q, t)

  pub drop_row : (m : ℕ) → d ≡ Some m → Destroy m ≡ destroy_named os s
  unfolding destroy_named destroy_at
  drop_row m t = rw (e, ← q, t)

-- the owner in a used row
pub owner_read : (p : List ℕ) (r : ℕ) → UsedAt p r → (row : List ℕ) → row ≡ take parent_size (drop (parent_size * r) p) → (w : Owner) → w ≡ (decode_parent row).owner →
    w ≡ owner_of (parse_parent (row_bytes p r))
unfolding row_bytes owner_of
owner_read p r u row e w q = q ∙ ap (λ (l : List ℕ). (decode_parent l).owner) e ∙ sym (ap owner_of (parent_used (row_bytes p r) u.row.used))

-- ## Adoptions

module _ (p o : List ℕ) (h : Sound p o) (k : ℕ) (x : Object) (home : Place) (s : Slot) (se : s ≡ slot_for x) where
  pub new_row : (r : ℕ) → free_parent (parse_parents p) ≡ Some r →
      Decides p o (Repairs OfOrphan (Make r home.file x.owner home.index s) Nothing Nothing) (λ T. make_parent x home (free_parent T.parents))
  unfolding Decides make_parent
  new_row r e = rw (e, se)

  module _ (w : Way) (e : w ≡ way (parse p o) home) (r : ℕ) (u : Write) (ue : u ≡ owner_write k x (owner_of (parse_parent (row_bytes p r)))) where
    pub way_fill : w ≡ Fill r → Decides p o (Repairs OfOrphan (PutSlot r home.index s) u Nothing) (λ T. adopt_by T k x home (way T home))
    unfolding Decides adopt_by
    way_fill q = let a = fill_place p o h home w r e q in rw (← e, q, se, ue, row_is p r (row_inside p r a.used))

    pub way_grow : w ≡ Grow r → Decides p o (Repairs OfOrphan (GrowSlot r home.index s) u Nothing) (λ T. adopt_by T k x home (way T home))
    unfolding Decides adopt_by
    way_grow q = let a = grow_past p o h home w r e q in rw (← e, q, se, ue, row_is p r (row_inside p r a.used))

    pub way_take : w ≡ Take r → (t : Slot) → t ≡ slot_at (parse_parents p) r home.index → (v : Write) → v ≡ destroy_named (parse_objects o) t →
        Decides p o (Repairs OfOrphan (PutSlot r home.index s) u v) (λ T. adopt_by T k x home (way T home))
    unfolding Decides adopt_by
    way_take q t g v d =
        let a = take_place p o h home w r e q in
        rw (← e, q, se, ue, d, ← g, row_is p r (row_inside p r a.used))

pub new_none : (p o : List ℕ) (k : ℕ) (x : Object) (home : Place) → free_parent (parse_parents p) ≡ None → Decides p o (Stops NoParentRow) (λ T. make_parent x home (free_parent T.parents))
unfolding make_parent
new_none p o k x home e = decides_stop p o _ NoParentRow (rw e)

module _ (p o : List ℕ) (k : ℕ) (x : Object) (home : Place) (w : Way) (e : w ≡ way (parse p o) home) where
  pub way_none : w ≡ NoWay → adopt_by (parse p o) k x home (way (parse p o) home) ≡ Rests
  unfolding adopt_by
  way_none q = rw (← e, q)

  pub way_new : w ≡ NewParent → make_parent x home (free_parent (parse_parents p)) ≡ adopt_by (parse p o) k x home (way (parse p o) home)
  unfolding adopt_by
  way_new q = rw (← e, q)

-- ## The claim of an object row

module _ (p o : List ℕ) (k : ℕ) (row : List ℕ) (at : row ≡ take object_size (drop (object_size * k) o)) (x : Object) (q : x ≡ decode_object row) where
  row_object_lem : x ≡ row_object o k
  unfolding row_object
  row_object_lem = q ∙ ap decode_object at

  pub claim_none : x.claim ≡ None → adopt (parse p o) k (row_object o k) (row_object o k).claim ≡ Rests
  unfolding adopt
  claim_none e = rw (← row_object_lem, e)

  pub claim_some : (home : Place) → x.claim ≡ Some home → adopt_by (parse p o) k x home (way (parse p o) home) ≡ adopt (parse p o) k (row_object o k) (row_object o k).claim
  unfolding adopt
  claim_some home e = rw (← row_object_lem, e)

-- ## An object row by its class

module _ (p o : List ℕ) (settings : Settings) (k : ℕ) where
  pub object_kept : adopts settings.policy ≡ false → object_step settings (parse p o) k (object_at (parse_objects o) k) ≡ Rests
  unfolding object_step repair_object
  object_kept q = go (object_at (parse_objects o) k)
    where
      by : (x : Object) (d : ObjectClass) → repair_object settings (parse p o) k x d ≡ Rests
      by x UNUSED = refl
      by x KEPT = refl
      by x SPARE = refl
      by x EMPTY = rw q
      by x ORPHAN = rw q
      by x CONFLICT = refl

      go : (a : ObjectRow) → object_step settings (parse p o) k a ≡ Rests
      go (unused l) = refl
      go (used x) = by x (object_class (parse p o) k)

  module _ (d : ObjectClass) (e : d ≡ object_class (parse p o) k) where
    -- classes without a repair
    object_rests : ((x : Object) → repair_object settings (parse p o) k x d ≡ Rests) → object_step settings (parse p o) k (object_at (parse_objects o) k) ≡ Rests
    unfolding object_step
    object_rests q = go (object_at (parse_objects o) k)
      where
        go : (a : ObjectRow) → object_step settings (parse p o) k a ≡ Rests
        go (unused l) = refl
        go (used x) = ap (repair_object settings (parse p o) k x) (sym e) ∙ q x

    pub object_unused_row : d ≡ UNUSED → object_step settings (parse p o) k (object_at (parse_objects o) k) ≡ Rests
    unfolding repair_object
    object_unused_row q = object_rests (λ x. rw q)

    pub object_named : d ≡ KEPT → object_step settings (parse p o) k (object_at (parse_objects o) k) ≡ Rests
    unfolding repair_object
    object_named q = object_rests (λ x. rw q)

    pub object_spare : d ≡ SPARE → object_step settings (parse p o) k (object_at (parse_objects o) k) ≡ Rests
    unfolding repair_object
    object_spare q = object_rests (λ x. rw q)

    pub object_conflict : d ≡ CONFLICT → object_step settings (parse p o) k (object_at (parse_objects o) k) ≡ Rests
    unfolding repair_object
    object_conflict q = object_rests (λ x. rw q)

    module _ (n : k < length o / object_size) where
      -- a row with another class than UNUSED has an object
      class_object : (d ≡ UNUSED → ⊥) → object_at (parse_objects o) k ≡ used (row_object o k)
      unfolding object_class object_class_of row_object
      class_object q = go (is_used (take object_size (drop (object_size * k) o))) refl
        where
          go : (a : Bool) → is_used (take object_size (drop (object_size * k) o)) ≡ a → object_at (parse_objects o) k ≡ used (decode_object (take object_size (drop (object_size * k) o)))
          go true u = parsed_object o k n ∙ object_used (take object_size (drop (object_size * k) o)) u
          go false u = absurd (q (e ∙ ap (object_class_of (parse p o)) (parsed_object o k n ∙ object_unused (take object_size (drop (object_size * k) o)) u)))

      pub object_empty : d ≡ EMPTY → adopts settings.policy ≡ true → Decides p o (Repairs OfEmpty (Destroy k) Nothing Nothing) (λ T. object_step settings T k (object_at T.objects k))
      unfolding Decides object_step repair_object
      object_empty q a = rw (class_object other, ← e, q, a)
        where
          other : d ≡ UNUSED → ⊥
          other u = let z : ◌≡◌ {A = ℕ} 0 1 = cc in absurd (omega arith)

      pub object_orphan : d ≡ ORPHAN → adopts settings.policy ≡ true → adopt (parse p o) k (row_object o k) (row_object o k).claim ≡ object_step settings (parse p o) k (object_at (parse_objects o) k)
      unfolding object_step repair_object
      object_orphan q a = rw (class_object other, ← e, q, a)
        where
          other : d ≡ UNUSED → ⊥
          other u = let z : ◌≡◌ {A = ℕ} 0 1 = cc in absurd (omega arith)
