-- The writes of each repair, as it builds them: in the request's order. Document 02, 2026-09. Assumes nothing.
use Prim.Native.Nat.{ℕ}
use Rattle.std.specs.Prelude.{Option, Some, None}
use mathlib.Core.Path.{◌≡◌, refl, sym, ap, subst}
use mathlib.Core.Bool.{Bool, true, false, cond, ◌&&◌}
use mathlib.Core.List.{List, ◌∷◌, ◌++◌}
use lib.Dec.{eqb}
use Rattle.fid.specs.declared.OstFid.{OstFid}
use Rattle.layout.specs.declared.Slot.{Slot}
use Rattle.layout.specs.declared.Slot.TheVariants.{Names}
use Rattle.tables.specs.Records.{ParentRow, unused, used, ObjectRow, Tables}
use Rattle.tables.specs.Positions.{row_at}
use Rattle.tables.specs.declared.Owner.{Owner}
use Rattle.tables.specs.declared.Place.{Place}
use Rattle.tables.specs.declared.Object.{Object}
use Rattle.rules.specs.Rows.{owner_of, slot_at, object_at, object_row, free_object, same_owner}
use Rattle.rules.specs.Places.{claims, place_of, slot_number}
use Rattle.rules.specs.Settings.{Settings}
use Rattle.rules.specs.Repairs.{with_owner, slot_for, owner_write, usable, redirect_to, redirect, reuse, redirect_by, mended, mend_write, index_write, mend_object, destroy_at, destroy_named, adopt_by}
use Rattle.rules.specs.Cuts.{Target, parent_record, target, targets, LayoutFirst, placed_alone, placed_owned, placed_emptied, placed_both, ObjectFirst, object_alone, layout_alone, object_layout, OrderFor, InOrder}
use Rattle.rules.specs.declared.Way.TheVariants.{Fill, Grow, Take}
use Rattle.rules.specs.declared.Repair.{Repair}
use Rattle.rules.specs.declared.Repair.TheVariants.{OfMultiple}
use Rattle.rules.specs.declared.Write.TheVariants.{Nothing, Object as PutObject, Slot as PutSlot}
use Rattle.rules.specs.declared.Step.TheVariants.{Repairs as repairs}

-- ## A redirect: the object, then the layout

module _ (settings : Settings) (T : Tables) (r j ost : ℕ) where
  -- an object that is there, before the reserve: "writes its owner and gives the slot its FID, generation 0 and its OST index"
  pub by_found : (o : ℕ) (x : Object) → object_at T.objects o ≡ used x →
      redirect_by settings T r j ost (Some o)
      ≡ repairs OfMultiple (owner_write o x (owner_of (row_at T.parents r))) (PutSlot r j (Names x.fid 0 x.ost)) Nothing
  unfolding redirect_by reuse slot_for
  by_found o x e = ap (λ (w : ObjectRow). reuse T.parents r j o w) e

  redirect_order : (a : Option OstFid) → InOrder r (redirect T r j ost a)
  unfolding InOrder targets OrderFor target redirect redirect_to
  redirect_order None = refl
  redirect_order (Some g) = go (free_object T.objects)
    where
      go : (a : Option ℕ) → InOrder r (redirect_to T.parents r j ost g a)
      go None = refl
      go (Some o) = object_layout

  pub by_order : (a : Option ℕ) → InOrder r (redirect_by settings T r j ost a)
  unfolding InOrder targets OrderFor target redirect_by reuse owner_write
  by_order None = redirect_order (usable T settings.reserve)
  by_order (Some o) = go (object_at T.objects o)
    where
      writes : (b : Bool) (x : Object) (s : Slot) → ObjectFirst (target (cond b Nothing (PutObject o x)) ++ target (PutSlot r j s) ++ target Nothing)
      writes true x s = layout_alone
      writes false x s = object_layout

      go : (w : ObjectRow) → InOrder r (reuse T.parents r j o w)
      go (unused b) = refl
      go (used x) = writes (same_owner x.owner (owner_of (row_at T.parents r))) (with_owner x (owner_of (row_at T.parents r))) (slot_for x)

-- ## A keeper's object: the object, then the layout

module _ (rows : List ParentRow) (c : Repair) (r j : ℕ) (f : OstFid) (n ost o : ℕ) (x : Object) where
  -- claim and owner are right
  abbrev pub right : Bool
  right = claims x.claim (place_of (row_at rows r) j) && same_owner x.owner (owner_of (row_at rows r))

  -- 2026-02: "writes the object's index in the slot"
  pub index_to_slot : eqb x.ost ost ≡ false →
      mend_object rows c r j f n ost o (used x) ≡ repairs c (mend_write rows r j o x) (PutSlot r j (Names f n x.ost)) Nothing
  unfolding mend_object index_write
  index_to_slot e = ap (λ (b : Bool). repairs c (mend_write rows r j o x) (cond b Nothing (PutSlot r j (Names f n x.ost))) Nothing) e

  pub mend_none : right ≡ true → eqb x.ost ost ≡ true → mend_object rows c r j f n ost o (used x) ≡ repairs c Nothing Nothing Nothing
  unfolding mend_object mend_write index_write
  mend_none p q = rw (p, q)

  pub mend_order : ((l : List Target) → ObjectFirst l → OrderFor r c l) → (right ≡ true → eqb x.ost ost ≡ true → ⊥) →
      InOrder r (mend_object rows c r j f n ost o (used x))
  unfolding InOrder targets target mend_object mend_write index_write
  mend_order order some = go right (eqb x.ost ost) some
    where
      go : (a b : Bool) → (a ≡ true → b ≡ true → ⊥) →
          OrderFor r c (target (cond a Nothing (PutObject o (mended rows r j x))) ++ target (cond b Nothing (PutSlot r j (Names f n x.ost))) ++ target Nothing)
      go true true some = absurd (some refl refl)
      go true false some = order _ layout_alone
      go false true some = order _ object_alone
      go false false some = order _ object_layout

-- ## An orphan: the layout, its owner, the destroyed row

module _ (T : Tables) (o : ℕ) (x : Object) (p : Place) (r : ℕ) where
  -- the layout, then the owner unless it is right
  placed_order : (b : Bool) (w : Owner) → LayoutFirst o (parent_record r ∷ target (cond b Nothing (PutObject o (with_owner x w))) ++ target Nothing)
  unfolding target
  placed_order true w = placed_alone
  placed_order false w = placed_owned

  pub fill_order : InOrder o (adopt_by T o x p (Fill r))
  unfolding InOrder targets OrderFor target adopt_by owner_write
  fill_order = placed_order (same_owner x.owner (owner_of (row_at T.parents r))) (owner_of (row_at T.parents r))

  pub grow_order : InOrder o (adopt_by T o x p (Grow r))
  unfolding InOrder targets OrderFor target adopt_by owner_write
  grow_order = placed_order (same_owner x.owner (owner_of (row_at T.parents r))) (owner_of (row_at T.parents r))

  taken_order : (b : Bool) (w : Owner) (a : Option ℕ) → ((k : ℕ) → a ≡ Some k → k ≡ o → ⊥) →
      LayoutFirst o (parent_record r ∷ target (cond b Nothing (PutObject o (with_owner x w))) ++ target (destroy_at a))
  unfolding target destroy_at
  taken_order true w None other = placed_alone
  taken_order false w None other = placed_owned
  taken_order true w (Some k) other = placed_emptied (other k refl)
  taken_order false w (Some k) other = placed_both (other k refl)

  -- the object that slot j names is not the orphan
  pub take_order : (g : OstFid) (n m : ℕ) → slot_at T.parents r (slot_number (row_at T.parents r) p) ≡ Names g n m →
      ((k : ℕ) → object_row T.objects g ≡ Some k → k ≡ o → ⊥) → InOrder o (adopt_by T o x p (Take r))
  unfolding InOrder targets OrderFor target adopt_by owner_write destroy_named
  take_order g n m e other =
      subst (λ s. LayoutFirst o (parent_record r ∷ target (cond (same_owner x.owner w) Nothing (PutObject o (with_owner x w))) ++ target (destroy_named T.objects s))) (sym e)
      (taken_order (same_owner x.owner w) w (object_row T.objects g) other)
    where
      w : Owner
      w = owner_of (row_at T.parents r)
