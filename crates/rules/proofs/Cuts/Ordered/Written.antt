-- Every write of a step changes the tables that it is made in.
use Rattle.rules.proofs.Counted.{repair_changes}
use Rattle.std.specs.Prelude.{Option, Some, None}
use Rattle.tables.specs.declared.Place.{Place}
use Rattle.fid.specs.declared.OstFid.{OstFid}
pub mod StepCuts
unfoldable pub use StepCuts.*

-- tables that differ in what they name, or in an object row, differ
names_differ : (S T : Tables) (g : OstFid) (r j : ℕ) → names_at S.parents g r j ≡ true → names_at T.parents g r j ≡ false → S ≡ T → ⊥
names_differ S T g r j a b e = clash a (subst (λ (X : Tables). names_at X.parents g r j ≡ false) (sym e) b)

rows_differ : (S T : Tables) (o : ℕ) (v w : ObjectRow) → object_at S.objects o ≡ v → object_at T.objects o ≡ w → (v ≡ w → ⊥) → S ≡ T → ⊥
rows_differ S T o v w a b n e = n (sym a ∙ ap (λ (X : Tables). object_at X.objects o) e ∙ b)

put_row : (T : Tables) (o : ℕ) (w : ObjectRow) → o < length T.objects → object_at (put_object T o w).objects o ≡ w
unfolding object_at put_object
put_row T o w h = get_or-set_same T.objects o w (unused []) h

used_inside : (T : Tables) (o : ℕ) (x : Object) → object_at T.objects o ≡ used x → o < length T.objects
unfolding is_object has_fid
used_inside T o x e = object_inside T x.fid o (rw (e, same_self x.fid.0))

owner_in : ObjectRow → Owner
owner_in (unused b) = record { uid = 0; gid = 0 }
owner_in (used x) = x.owner

claim_of : ObjectRow → Option Place
claim_of (unused b) = None
claim_of (used x) = x.claim

-- the owner's write
owner_changes : (T : Tables) (o : ℕ) (x : Object) (w : Owner) → object_at T.objects o ≡ used x → Changes T (owner_write o x w)
unfolding Changes owner_write apply_write with_owner owner_in
owner_changes T o x w holds = go (same_owner x.owner w) refl
  where
    differ : same_owner x.owner w ≡ false → used (with_owner x w) ≡ used x → ⊥
    differ d e = let q : w ≡ x.owner = ap owner_in e in clash (subst (λ v. same_owner v w ≡ true) q (owner_refl w)) d

    go : (b : Bool) → same_owner x.owner w ≡ b → let v = cond b Nothing (PutObject o (with_owner x w)) in (v ≡ Nothing) ⊎ (apply_write T v ≡ T → ⊥)
    go true d = inl refl
    go false d =
        inr (rows_differ (put_object T o (used (with_owner x w))) T o (used (with_owner x w)) (used x) (put_row T o (used (with_owner x w)) (used_inside T o x holds)) holds (differ d))

-- a slot takes another content
slot_differs : (T : Tables) (r j : ℕ) (s t : Slot) → r < length T.parents → j < width T.parents r → slot_at T.parents r j ≡ t → (s ≡ t → ⊥) →
    put_slot T r j s ≡ T → ⊥
slot_differs T r j s t inside within at n e = n (sym (slot_same T r j s inside within) ∙ ap (λ (X : Tables). slot_at X.parents r j) e ∙ at)

-- a slot takes an object that no slot names
slot_changes : (T : Tables) (r j : ℕ) (x : Object) → r < length T.parents → j < width T.parents r → names_at T.parents x.fid r j ≡ false →
    put_slot T r j (slot_for x) ≡ T → ⊥
unfolding names_at slot_names slot_for
slot_changes T r j x inside within unnamed =
    names_differ (put_slot T r j (slot_for x)) T x.fid r j (ap (slot_names x.fid) (slot_same T r j (slot_for x) inside within) ∙ same_self x.fid.0) unnamed

module _ (settings : Settings) (T : Tables) (sound : Distinct T) where
  pub whole_changes : (p : Position) → Exists T p → (c : Repair) (a b d : Write) → step_at settings T p ≡ repairs c a b d → apply_writes a b d T ≡ T → ⊥
  whole_changes p = repair_changes settings T p sound

  one_changes : (p : Position) → Exists T p → (c : Repair) (a : Write) → step_at settings T p ≡ repairs c a Nothing Nothing →
      EachChanges T (repairs c a Nothing Nothing)
  unfolding EachChanges Changes apply_writes apply_write
  one_changes p v c a q = let n = whole_changes p v c a Nothing Nothing q in (inr n, inl refl, inl refl, n)

  -- ## Stage one

  module _ (r j : ℕ) (v : Exists T (place 1 r (suc j))) (f : OstFid) (n ost : ℕ) (at : slot_at T.parents r j ≡ Names f n ost) where
    here : (r < length T.parents) × (j < width T.parents r)
    unfolding names_at slot_names
    here = named_inside T.parents f r j (rw (at, same_self f.0))

    new_changes : (o : ℕ) (g : OstFid) → ((c : OstFid) → is_object c (object_at T.objects o) ≡ false) → o < length T.objects →
        Changes T (PutObject o (new_object T.parents g r j ost))
    unfolding Changes apply_write new_object is_object has_fid
    new_changes o g free inside = inr (λ e.
        clash (subst (λ w. is_object g w ≡ true) (sym (put_row T o (used (new_object T.parents g r j ost)) inside) ∙ ap (λ (X : Tables). object_at X.objects o) e) (same_self g.0)) (free g))

    taken_changes : (o : ℕ) (g : OstFid) → names_at T.parents g r j ≡ false → Changes (apply_write T (PutObject o (new_object T.parents g r j ost))) (PutSlot r j (Names g 0 ost))
    unfolding Changes apply_write new_object slot_for put_slot put_object row_at width names_at slot_at
    taken_changes o g unnamed =
        inr (slot_changes (put_object T o (used (new_object T.parents g r j ost))) r j (new_object T.parents g r j ost) here.0 here.1 unnamed)

    redirect_changes : (a : Option OstFid) → usable T settings.reserve ≡ a → step_at settings T (place 1 r (suc j)) ≡ redirect T r j ost a →
        EachChanges T (redirect T r j ost a)
    unfolding redirect redirect_to EachChanges Changes
    redirect_changes None u step = tt
    redirect_changes (Some g) u step = to (free_object T.objects) refl step
      where
        to : (a : Option ℕ) → free_object T.objects ≡ a → step_at settings T (place 1 r (suc j)) ≡ redirect_to T.parents r j ost g a → EachChanges T (redirect_to T.parents r j ost g a)
        to None d step = tt
        to (Some o) d step =
            let b = usable_free T settings.reserve g u in
            let w = free_object_lem T o d in
            (new_changes o g w.0 w.1, taken_changes o g (named_none T g b.1 r j), inl refl, whole_changes (place 1 r (suc j)) v OfMultiple _ _ _ step)

    again_changes : (o : ℕ) (x : Object) → object_at T.objects o ≡ used x → names_at T.parents x.fid r j ≡ false →
        Changes (apply_write T (owner_write o x (owner_of (row_at T.parents r)))) (PutSlot r j (slot_for x))
    unfolding Changes apply_write put_slot put_object row_at width names_at slot_at
    again_changes o x d unnamed =
        subst (λ (X : Tables). Changes X (PutSlot r j (slot_for x))) (sym (owner_write_lem T o x (owner_of (row_at T.parents r)) d))
        (inr (slot_changes (put_object T o (used (with_owner x (owner_of (row_at T.parents r))))) r j x here.0 here.1 unnamed))

    reuse_changes : (o : ℕ) → reusable T r j ≡ Some o → (w : ObjectRow) → object_at T.objects o ≡ w → step_at settings T (place 1 r (suc j)) ≡ reuse T.parents r j o w →
        EachChanges T (reuse T.parents r j o w)
    unfolding reuse EachChanges Changes
    reuse_changes o q (unused b) d step = tt
    reuse_changes o q (used x) d step = (owner_changes T o x (owner_of (row_at T.parents r)) d, again_changes o x d (named_none T x.fid (reusable_means T.parents (place_of (row_at T.parents r) j) x (subst (λ v. is_reusable T.parents (place_of (row_at T.parents r) j) v ≡ true) d (reusable_passes T r j o q))).2 r j), inl refl, whole_changes (place 1 r (suc j)) v OfMultiple _ _ _ step)

    -- the object's write, and the index's after it
    object_changes : (o : ℕ) (x : Object) → object_at T.objects o ≡ used x → Changes T (mend_write T.parents r j o x)
    unfolding Changes mend_write mended with_claim apply_write owner_in claim_of
    object_changes o x holds = go (claims x.claim spot && same_owner x.owner owner) refl
      where
        spot : Place
        spot = place_of (row_at T.parents r) j

        owner : Owner
        owner = owner_of (row_at T.parents r)

        differ : (claims x.claim spot && same_owner x.owner owner) ≡ false → used (mended T.parents r j x) ≡ used x → ⊥
        differ d e =
            let c : x.claim ≡ Some spot = sym (ap claim_of e) in
            let w : owner ≡ x.owner = ap owner_in e in
            clash (and_both (claim_here x.claim spot c) (subst (λ v. same_owner v owner ≡ true) w (owner_refl owner))) d

        go : (b : Bool) → (claims x.claim spot && same_owner x.owner owner) ≡ b →
            let v = cond b Nothing (PutObject o (mended T.parents r j x)) in (v ≡ Nothing) ⊎ (apply_write T v ≡ T → ⊥)
        go true d = inl refl
        go false d =
            inr (rows_differ (put_object T o (used (mended T.parents r j x))) T o (used (mended T.parents r j x)) (used x)
            (put_row T o (used (mended T.parents r j x)) (used_inside T o x holds)) holds (differ d))

    index_changes : (X : Tables) → X.parents ≡ T.parents → (m : ℕ) → Changes X (index_write r j f n ost m)
    unfolding Changes index_write apply_write put_slot
    index_changes X same m = go (eqb m ost) refl
      where
        at_X : slot_at X.parents r j ≡ Names f n ost
        at_X = subst (λ (rows : List ParentRow). slot_at rows r j ≡ Names f n ost) (sym same) at

        go : (b : Bool) → eqb m ost ≡ b → let v = cond b Nothing (PutSlot r j (Names f n m)) in (v ≡ Nothing) ⊎ (apply_write X v ≡ X → ⊥)
        go true d = inl refl
        go false d = inr (slot_differs X r j (Names f n m) (Names f n ost)
            (subst (λ (rows : List ParentRow). r < length rows) (sym same) here.0) (subst (λ (rows : List ParentRow). j < width rows r) (sym same) here.1) at_X
            (λ e. let z : m ≡ ost = cc in clash (eq-eqb m ost z) d))

    object_aside : (o : ℕ) (x : Object) → (apply_write T (mend_write T.parents r j o x)).parents ≡ T.parents
    unfolding mend_write apply_write put_object
    object_aside o x = go (claims x.claim (place_of (row_at T.parents r) j) && same_owner x.owner (owner_of (row_at T.parents r)))
      where
        go : (b : Bool) → (apply_write T (cond b Nothing (PutObject o (mended T.parents r j x)))).parents ≡ T.parents
        go true = refl
        go false = refl

    mend_changes : (c : Repair) (a : Option ℕ) → step_at settings T (place 1 r (suc j)) ≡ mend_at T c r j f n ost a → EachChanges T (mend_at T c r j f n ost a)
    unfolding mend_at mend_object EachChanges Changes
    mend_changes c None q = tt
    mend_changes c (Some o) q = go (object_at T.objects o) refl q
      where
        go : (w : ObjectRow) → object_at T.objects o ≡ w → step_at settings T (place 1 r (suc j)) ≡ mend_object T.parents c r j f n ost o w →
            EachChanges T (mend_object T.parents c r j f n ost o w)
        go (unused b) d q = tt
        go (used x) d q = (
          object_changes o x d,
          index_changes (apply_write T (mend_write T.parents r j o x)) (object_aside o x) x.ost,
          inl refl,
          whole_changes (place 1 r (suc j)) v c _ _ _ q,
        )

    by_changes : (a : Option ℕ) → reusable T r j ≡ a → step_at settings T (place 1 r (suc j)) ≡ redirect_by settings T r j ost a →
        EachChanges T (redirect_by settings T r j ost a)
    unfolding redirect_by
    by_changes None q step = redirect_changes (usable T settings.reserve) refl step
    by_changes (Some o) q step = reuse_changes o q (object_at T.objects o) refl step

    slot_step_changes : (k : SlotClass) → step_at settings T (place 1 r (suc j)) ≡ repair_slot settings T r j f n ost k →
        EachChanges T (repair_slot settings T r j f n ost k)
    unfolding repair_slot make_object EachChanges
    slot_step_changes HOLE q = tt
    slot_step_changes CLEAN q = tt
    slot_step_changes BLANK q = mend_changes OfBlank (object_row T.objects f) q
    slot_step_changes (UNMATCHED g i) q = mend_changes OfUnmatched (object_row T.objects f) q
    slot_step_changes OWNER q = mend_changes OfOwner (object_row T.objects f) q
    slot_step_changes WRONG-OST q = mend_changes OfWrongOst (object_row T.objects f) q
    slot_step_changes DANGLING q = go (creates settings.policy) (free_object T.objects) q
      where
        go : (b : Bool) (a : Option ℕ) → step_at settings T (place 1 r (suc j)) ≡ cond b (make_object (new_object T.parents f r j ost) a) rests →
            EachChanges T (cond b (make_object (new_object T.parents f r j ost) a) rests)
        go false a q = tt
        go true None q = tt
        go true (Some o) q = one_changes (place 1 r (suc j)) v OfDangling (PutObject o (new_object T.parents f r j ost)) q
    slot_step_changes MULTIPLE q = go (creates settings.policy) q
      where
        go : (b : Bool) → step_at settings T (place 1 r (suc j)) ≡ cond b (redirect_by settings T r j ost (reusable T r j)) rests →
            EachChanges T (cond b (redirect_by settings T r j ost (reusable T r j)) rests)
        go false q = tt
        go true q = by_changes (reusable T r j) refl q

  -- ## Stage two

  module _ (o : ℕ) (v : Exists T (place 2 o 0)) (x : Object) (holds : object_at T.objects o ≡ used x) where
    module _ (home : Place) (claim : x.claim ≡ Some home) (unnamed : named T.parents x.fid ≡ false) (stays : x.fresh ≡ false) where
      -- the layout's write, and the owner's after it
      layout_changes : (r : ℕ) → r < length T.parents → home.index < width T.parents r → Changes T (PutSlot r home.index (slot_for x))
      unfolding Changes apply_write put_slot
      layout_changes r inside within = inr (slot_changes T r home.index x inside within (named_none T x.fid unnamed r home.index))

      owner_after : (r : ℕ) (w : ParentRow) → Changes (put_parent T r w) (owner_write o x (owner_of (row_at T.parents r)))
      unfolding put_parent object_at
      owner_after r w = owner_changes (put_parent T r w) o x (owner_of (row_at T.parents r)) holds

      grow_changes : (r : ℕ) → is_parent home.file (row_at T.parents r) ≡ true → width T.parents r ≤ home.index → holes_in (row_at T.parents r) ≡ true → Changes T (GrowTo r home.index (slot_for x))
      unfolding Changes apply_write put_slot names_at slot_names slot_for width
      grow_changes r e l q =
          let w = longer (row_at T.parents r) home.index in
          let y = ready_grow settings T o x home sound holds claim unnamed r e l q in
          inr (λ d. names_differ (put_slot (put_parent T r w) r home.index (slot_for x)) T x.fid r home.index
          (ap (slot_names x.fid) (slot_same (put_parent T r w) r home.index (slot_for x) y.inside y.within) ∙ same_self x.fid.0)
          (named_none T x.fid unnamed r home.index)
          (sym (ap (put_parent T r) (grown_is home.index (slot_for x) (named_for x) (row_at T.parents r) l)
          ∙ twice T o r home.index x w (parent_inside T home.file r e) holds
          ∙ sym (ap (λ u. put_parent (put_parent T r w) r (with_slot u home.index (slot_for x))) (row_same T r w (parent_inside T home.file r e)))) ∙ d))

      destroy_changes : (r k : ℕ) (z : Object) → object_at T.objects k ≡ used z → (o ≡ k → ⊥) →
          Changes (apply_write (apply_write T (PutSlot r home.index (slot_for x))) (owner_write o x (owner_of (row_at T.parents r)))) (Destroy k)
      unfolding Changes apply_writes apply_write settled object_at put_object put_slot put_parent destroyed is_unused
      destroy_changes r k z held apart =
          subst (λ (X : Tables). Changes X (Destroy k)) (sym (settle_here T o r home.index x holds))
          (inr (λ e. clash {b = true} refl (sym (ap is_unused
          (sym (get_or-set_other T.objects o k _ (unused []) (λ y. apart (sym y)) ∙ held) ∙ ap (λ (X : Tables). object_at X.objects k) (sym e) ∙ put_row (settled T o x r home.index) k destroyed
          (rw (length-set T.objects o (used (with_owner x (owner_of (row_at T.parents r))))) (used_inside T k z held)))))))

      take_changes : (r : ℕ) (g : OstFid) (n m : ℕ) → is_parent home.file (row_at T.parents r) ≡ true → home.index < width T.parents r → slot_at T.parents r home.index ≡ Names g n m →
          takeable T.parents home g r home.index (object_of T.objects g) ≡ true → (a : Option ℕ) → object_row T.objects g ≡ a →
          let u = repairs OfOrphan (PutSlot r home.index (slot_for x)) (owner_write o x (owner_of (row_at T.parents r))) (destroy_at a) in
          step_at settings T (place 2 o 0) ≡ u → EachChanges T u
      unfolding EachChanges destroy_at takeable object_of object_in_row is_object has_fid apply_write
      take_changes r g n m e l q t None d step = clash t (rw d)
      take_changes r g n m e l q t (Some k) d step =
          (layout_changes r (parent_inside T home.file r e) l, owner_after r _, go (object_at T.objects k) refl (object_found T g d), whole_changes (place 2 o 0) v OfOrphan _ _ _ step)
        where
          go : (w : ObjectRow) → object_at T.objects k ≡ w → is_object g w ≡ true →
              Changes (apply_write (apply_write T (PutSlot r home.index (slot_for x))) (owner_write o x (owner_of (row_at T.parents r)))) (Destroy k)
          go (unused b) w u = clash u refl
          go (used z) w u = destroy_changes r k z w (λ y. clash (take_fresh T home g r home.index k x t d (rw (← y) holds)) stays)

      adopt_changes : {w : Way} → Means T home w → step_at settings T (place 2 o 0) ≡ adopt_by T o x home w → EachChanges T (adopt_by T o x home w)
      unfolding adopt_by make_parent destroy_named EachChanges Changes apply_write
      adopt_changes none_at_all step = tt
      adopt_changes (to_make n) step = go (free_parent T.parents) step
        where
          go : (a : Option ℕ) → step_at settings T (place 2 o 0) ≡ make_parent x home a → EachChanges T (make_parent x home a)
          go None step = tt
          go (Some r) step = one_changes (place 2 o 0) v OfOrphan (Make r home.file x.owner home.index (slot_for x)) step
      adopt_changes (to_fill {r = r} e l q) step =
          (layout_changes r (parent_inside T home.file r e) l, owner_after r _, inl refl, whole_changes (place 2 o 0) v OfOrphan _ _ _ step)
      adopt_changes (to_grow {r = r} e l q) step =
          (grow_changes r e l q, owner_after r _, inl refl, whole_changes (place 2 o 0) v OfOrphan _ _ _ step)
      adopt_changes (to_take {r = r} g n m e l q t) step =
          subst (λ w. EachChanges T (repairs OfOrphan (PutSlot r home.index (slot_for x)) (owner_write o x (owner_of (row_at T.parents r))) (destroy_named T.objects w))) (sym q)
          (take_changes r g n m e l q t (object_row T.objects g) refl
          (subst (λ w. step_at settings T (place 2 o 0) ≡ repairs OfOrphan (PutSlot r home.index (slot_for x)) (owner_write o x (owner_of (row_at T.parents r))) (destroy_named T.objects w)) q step))

    orphan_changes : (k : ObjectClass) → object_class T o ≡ k → step_at settings T (place 2 o 0) ≡ repair_object settings T o x k →
        EachChanges T (repair_object settings T o x k)
    unfolding repair_object adopt EachChanges
    orphan_changes UNUSED q step = tt
    orphan_changes KEPT q step = tt
    orphan_changes SPARE q step = tt
    orphan_changes CONFLICT q step = tt
    orphan_changes EMPTY q step = go (adopts settings.policy) step
      where
        go : (b : Bool) → step_at settings T (place 2 o 0) ≡ cond b (repairs OfEmpty (Destroy o) Nothing Nothing) rests →
            EachChanges T (cond b (repairs OfEmpty (Destroy o) Nothing Nothing) rests)
        go true step = one_changes (place 2 o 0) v OfEmpty (Destroy o) step
        go false step = tt
    orphan_changes ORPHAN q step = go (adopts settings.policy) step
      where
        go : (b : Bool) → step_at settings T (place 2 o 0) ≡ cond b (adopt T o x x.claim) rests → EachChanges T (cond b (adopt T o x x.claim) rests)
        go false step = tt
        go true step =
            let (home, claim, unnamed, stays, w) = orphan_means T o x holds q in
            subst (λ k. EachChanges T (adopt T o x k)) (sym claim)
            (adopt_changes home claim unnamed stays (way_means T home) (subst (λ k. step_at settings T (place 2 o 0) ≡ adopt T o x k) claim step))

  -- ## Any step

  pub step_changes : (p : Position) → Exists T p → EachChanges T (step_at settings T p)
  unfolding step_at part_step slot_step object_step repair_header place EachChanges
  step_changes p (in_parent r zero a b) = header (header_class (row_at T.parents r)) refl
    where
      header : (k : HeaderClass) → header_class (row_at T.parents r) ≡ k → EachChanges T (repair_header T r k)
      header UNUSED-PARENT q = tt
      header CLEAN-HEADER q = tt
      header SELF q = one_changes (place 1 r 0) (in_parent r zero a b) OfSelf (Own r) (rw q)
  step_changes p (in_parent r (suc j) a b) = slot (slot_at T.parents r j) refl
    where
      slot : (s : Slot) → slot_at T.parents r j ≡ s → EachChanges T (slot_step settings T r j s)
      slot Hole q = tt
      slot (Names f n ost) q = slot_step_changes r j (in_parent r (suc j) a b) f n ost q (slot_class T r j) (rw q)
  step_changes p (in_object o a) = row (object_at T.objects o) refl
    where
      row : (w : ObjectRow) → object_at T.objects o ≡ w → EachChanges T (object_step settings T o w)
      row (unused b) q = tt
      row (used x) q = orphan_changes o (in_object o a) x q (object_class T o) refl (rw q)
  step_changes p at_end_lem = tt
