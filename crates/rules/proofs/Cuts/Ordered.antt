-- The writes of a step stand in the order that the request gives them.
use Rattle.std.specs.Prelude.{Option, Some, None}
pub mod Written
unfoldable pub use Written.*

left_out : (T : Tables) → apply_writes Nothing Nothing Nothing T ≡ T
unfolding apply_writes apply_write
left_out T = refl

module _ (settings : Settings) (T : Tables) (sound : Distinct T) where
  -- ## Stage one

  module _ (r j : ℕ) (v : Exists T (place 1 r (suc j))) where
    -- a keeper's object and its index, one of which is written
    mended_order : (c : Repair) → ((l : List Target) → ObjectFirst l → OrderFor r c l) → (f : OstFid) (n ost : ℕ) (a : Option ℕ) →
        step_at settings T (place 1 r (suc j)) ≡ mend_at T c r j f n ost a → InOrder r (mend_at T c r j f n ost a)
    unfolding InOrder targets mend_at mend_object
    mended_order c order f n ost None q = refl
    mended_order c order f n ost (Some o) q = go (object_at T.objects o) q
      where
        go : (w : ObjectRow) → step_at settings T (place 1 r (suc j)) ≡ mend_object T.parents c r j f n ost o w → InOrder r (mend_object T.parents c r j f n ost o w)
        go (unused b) q = refl
        go (used x) q =
            mend_order T.parents c r j f n ost o x order (λ y z.
            whole_changes settings T sound (place 1 r (suc j)) v c Nothing Nothing Nothing (q ∙ mend_none T.parents c r j f n ost o x y z) (left_out T))

    slot_order : (f : OstFid) (n ost : ℕ) (k : SlotClass) → step_at settings T (place 1 r (suc j)) ≡ repair_slot settings T r j f n ost k →
        InOrder r (repair_slot settings T r j f n ost k)
    unfolding InOrder targets OrderFor target repair_slot make_object
    slot_order f n ost HOLE q = refl
    slot_order f n ost CLEAN q = refl
    slot_order f n ost BLANK q = mended_order OfBlank (λ l h. h) f n ost (object_row T.objects f) q
    slot_order f n ost (UNMATCHED g i) q = mended_order OfUnmatched (λ l h. h) f n ost (object_row T.objects f) q
    slot_order f n ost WRONG-OST q = mended_order OfWrongOst (λ l h. h) f n ost (object_row T.objects f) q
    slot_order f n ost OWNER q = mended_order OfOwner (λ l h. h) f n ost (object_row T.objects f) q
    slot_order f n ost DANGLING q = go (creates settings.policy) (free_object T.objects)
      where
        go : (b : Bool) (a : Option ℕ) → InOrder r (cond b (make_object (new_object T.parents f r j ost) a) rests)
        go false a = refl
        go true None = refl
        go true (Some o) = object_alone
    slot_order f n ost MULTIPLE q = go (creates settings.policy)
      where
        go : (b : Bool) → InOrder r (cond b (redirect_by settings T r j ost (reusable T r j)) rests)
        go false = refl
        go true = by_order settings T r j ost (reusable T r j)

  header_order : (r : ℕ) (k : HeaderClass) → InOrder r (repair_header T r k)
  unfolding InOrder targets OrderFor target repair_header
  header_order r UNUSED-PARENT = refl
  header_order r CLEAN-HEADER = refl
  header_order r SELF = layout_alone

  -- ## Stage two

  module _ (o : ℕ) (x : Object) (holds : object_at T.objects o ≡ used x) where
    adopt_order : (home : Place) → x.fresh ≡ false → {w : Way} → Means T home w → InOrder o (adopt_by T o x home w)
    unfolding InOrder targets OrderFor target adopt_by make_parent destroy_named
    adopt_order home stays none_at_all = refl
    adopt_order home stays (to_make n) = go (free_parent T.parents)
      where
        go : (a : Option ℕ) → InOrder o (make_parent x home a)
        go None = refl
        go (Some r) = placed_alone
    adopt_order home stays (to_fill {r = r} e l q) = fill_order T o x home r
    adopt_order home stays (to_grow {r = r} e l q) = grow_order T o x home r
    adopt_order home stays (to_take {r = r} g n m e l q t) =
        take_order T o x home r g n m q (λ k d y. clash (take_fresh T home g r home.index k x t d (rw y holds)) stays)

    object_order : (k : ObjectClass) → object_class T o ≡ k → InOrder o (repair_object settings T o x k)
    unfolding InOrder targets OrderFor target repair_object adopt
    object_order UNUSED q = refl
    object_order KEPT q = refl
    object_order SPARE q = refl
    object_order CONFLICT q = refl
    object_order EMPTY q = go (adopts settings.policy)
      where
        go : (b : Bool) → InOrder o (cond b (repairs OfEmpty (Destroy o) Nothing Nothing) rests)
        go true = destroyed_alone
        go false = refl
    object_order ORPHAN q = go (adopts settings.policy)
      where
        go : (b : Bool) → InOrder o (cond b (adopt T o x x.claim) rests)
        go false = refl
        go true =
            let (home, claim, unnamed, stays, w) = orphan_means T o x holds q in
            subst (λ k. InOrder o (adopt T o x k)) (sym claim) (adopt_order home stays (way_means T home))

  -- ## Any step

  pub step_order : (p : Position) → Exists T p → InOrder p.row (step_at settings T p)
  unfolding step_at part_step slot_step object_step place InOrder targets
  step_order p (in_parent r zero a b) = header_order r (header_class (row_at T.parents r))
  step_order p (in_parent r (suc j) a b) = slot (slot_at T.parents r j) refl
    where
      slot : (s : Slot) → slot_at T.parents r j ≡ s → InOrder r (slot_step settings T r j s)
      slot Hole q = refl
      slot (Names f n ost) q = slot_order r j (in_parent r (suc j) a b) f n ost (slot_class T r j) (rw q)
  step_order p (in_object o a) = row (object_at T.objects o) refl
    where
      row : (w : ObjectRow) → object_at T.objects o ≡ w → InOrder o (object_step settings T o w)
      row (unused b) q = refl
      row (used x) q = object_order o x q (object_class T o) refl
  step_order p at_end_lem = refl
