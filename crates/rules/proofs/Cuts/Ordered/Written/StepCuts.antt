-- Any step, cut between two writes.
use Rattle.std.specs.Prelude.{Option, Some, None}
pub mod Adopted
unfoldable pub use Adopted.*

module _ (settings : Settings) (s : Stand) (last : s.position ≡ place 3 0 0) where
  slot_cuts : (T : Tables) (r j : ℕ) → Stands settings s last T (place 1 r (suc j)) → (f : OstFid) (n ost : ℕ) → slot_at T.parents r j ≡ Names f n ost →
      (k : SlotClass) → slot_class T r j ≡ k → step_at settings T (place 1 r (suc j)) ≡ repair_slot settings T r j f n ost k →
      EachCut settings s last T (repair_slot settings T r j f n ost k)
  unfolding repair_slot make_object is_end place
  slot_cuts T r j h f n ost at HOLE class q = tt
  slot_cuts T r j h f n ost at CLEAN class q = tt
  slot_cuts T r j h f n ost at BLANK class q =
      mend_cuts settings s last T r j h f n ost at (not_second T r j f n ost at (λ e. let z : ◌≡◌ {A = ℕ} 0 1 = cc in omega arith)) OfBlank (object_row T.objects f) refl q
  slot_cuts T r j h f n ost at (UNMATCHED g i) class q =
      mend_cuts settings s last T r j h f n ost at (not_second T r j f n ost at (λ e. let z : ◌≡◌ {A = ℕ} 0 1 = cc in omega arith)) OfUnmatched (object_row T.objects f) refl q
  slot_cuts T r j h f n ost at WRONG-OST class q =
      mend_cuts settings s last T r j h f n ost at (not_second T r j f n ost at (λ e. let z : ◌≡◌ {A = ℕ} 0 1 = cc in omega arith)) OfWrongOst (object_row T.objects f) refl q
  slot_cuts T r j h f n ost at OWNER class q =
      mend_cuts settings s last T r j h f n ost at (not_second T r j f n ost at (λ e. let z : ◌≡◌ {A = ℕ} 0 1 = cc in omega arith)) OfOwner (object_row T.objects f) refl q
  slot_cuts T r j h f n ost at DANGLING class q = go (creates settings.policy) (free_object T.objects) q
    where
      go : (b : Bool) (a : Option ℕ) → step_at settings T (place 1 r (suc j)) ≡ cond b (make_object (new_object T.parents f r j ost) a) rests →
          EachCut settings s last T (cond b (make_object (new_object T.parents f r j ost) a) rests)
      go false a q = tt
      go true None q = tt
      go true (Some o) q = one_write settings s last T (place 1 r (suc j)) h refl OfDangling (PutObject o (new_object T.parents f r j ost)) q
  slot_cuts T r j h f n ost at MULTIPLE class q = go (creates settings.policy) refl q
    where
      go : (b : Bool) → creates settings.policy ≡ b → step_at settings T (place 1 r (suc j)) ≡ cond b (redirect_by settings T r j ost (reusable T r j)) rests →
          EachCut settings s last T (cond b (redirect_by settings T r j ost (reusable T r j)) rests)
      go false create q = tt
      go true create q = multiple_cuts settings s last T r j h f n ost at class create (reusable T r j) refl q

  header_cuts : (T : Tables) (r : ℕ) → Stands settings s last T (place 1 r 0) → (k : HeaderClass) → step_at settings T (place 1 r 0) ≡ repair_header T r k →
      EachCut settings s last T (repair_header T r k)
  unfolding repair_header is_end place
  header_cuts T r h UNUSED-PARENT q = tt
  header_cuts T r h CLEAN-HEADER q = tt
  header_cuts T r h SELF q = one_write settings s last T (place 1 r 0) h refl OfSelf (Own r) q

  object_cuts : (T : Tables) (o : ℕ) → Stands settings s last T (place 2 o 0) → (x : Object) → object_at T.objects o ≡ used x → (k : ObjectClass) → object_class T o ≡ k →
      step_at settings T (place 2 o 0) ≡ repair_object settings T o x k → EachCut settings s last T (repair_object settings T o x k)
  unfolding repair_object adopt is_end place
  object_cuts T o h x holds UNUSED q step = tt
  object_cuts T o h x holds KEPT q step = tt
  object_cuts T o h x holds SPARE q step = tt
  object_cuts T o h x holds CONFLICT q step = tt
  object_cuts T o h x holds EMPTY q step = go (adopts settings.policy) step
    where
      go : (b : Bool) → step_at settings T (place 2 o 0) ≡ cond b (repairs OfEmpty (Destroy o) Nothing Nothing) rests →
          EachCut settings s last T (cond b (repairs OfEmpty (Destroy o) Nothing Nothing) rests)
      go true step = one_write settings s last T (place 2 o 0) h refl OfEmpty (Destroy o) step
      go false step = tt
  object_cuts T o h x holds ORPHAN q step = go (adopts settings.policy) refl step
    where
      go : (b : Bool) → adopts settings.policy ≡ b → step_at settings T (place 2 o 0) ≡ cond b (adopt T o x x.claim) rests →
          EachCut settings s last T (cond b (adopt T o x x.claim) rests)
      go false a step = tt
      go true a step =
          let (home, claim, unnamed, stays, w) = orphan_means T o x holds q in
          subst (λ k. EachCut settings s last T (adopt T o x k)) (sym claim)
          (adopt_cuts settings s last T o h x holds a home claim unnamed stays (way_means T home) (subst (λ k. step_at settings T (place 2 o 0) ≡ adopt T o x k) claim step))

  pub step_cuts : (T : Tables) (p : Position) → Stands settings s last T p → is_end p ≡ false → EachCut settings s last T (step_at settings T p)
  unfolding step_at part_step slot_step object_step is_end place
  step_cuts T p h e = go h.exists h e
    where
      slot : (r j : ℕ) → Stands settings s last T (place 1 r (suc j)) → (v : Slot) → slot_at T.parents r j ≡ v → EachCut settings s last T (slot_step settings T r j v)
      slot r j h Hole q = tt
      slot r j h (Names f n ost) q = slot_cuts T r j h f n ost q (slot_class T r j) refl (rw q)

      row : (o : ℕ) → Stands settings s last T (place 2 o 0) → (w : ObjectRow) → object_at T.objects o ≡ w → EachCut settings s last T (object_step settings T o w)
      row o h (unused b) q = tt
      row o h (used x) q = object_cuts T o h x q (object_class T o) refl (rw q)

      go : {p : Position} → Exists T p → Stands settings s last T p → is_end p ≡ false → EachCut settings s last T (step_at settings T p)
      go (in_parent r zero a b) h e = header_cuts T r h (header_class (row_at T.parents r)) refl
      go (in_parent r (suc j) a b) h e = slot r j h (slot_at T.parents r j) refl
      go (in_object o a) h e = row o h (object_at T.objects o) refl
      go at_end_lem h e = clash refl e
