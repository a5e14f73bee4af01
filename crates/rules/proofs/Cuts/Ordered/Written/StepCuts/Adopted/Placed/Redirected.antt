-- A redirect, cut between the object and the layout: the object is there, and the redirect of the next run finds it.
use Rattle.std.specs.Prelude.{Option, Some, None}
use Rattle.fid.specs.declared.OstFid.{OstFid}
pub mod Mended
unfoldable pub use Mended.*

module _ (settings : Settings) (s : Stand) (last : s.position ≡ place 3 0 0) where
  -- a redirect that finds its object with the owner written
  redirects : (T : Tables) (r j : ℕ) (f : OstFid) (n ost o : ℕ) (y : Object) → slot_at T.parents r j ≡ Names f n ost → slot_class T r j ≡ MULTIPLE →
      creates settings.policy ≡ true → reusable T r j ≡ Some o → object_at T.objects o ≡ used y → y.owner ≡ owner_of (row_at T.parents r) →
      step_at settings T (place 1 r (suc j)) ≡ repairs OfMultiple Nothing (PutSlot r j (slot_for y)) Nothing
  unfolding step_at place part_step slot_step repair_slot redirect_by reuse owner_write
  redirects T r j f n ost o y at class create free holds owned =
      rw (at, class, create, free, holds)
      (ap (λ v. repairs OfMultiple (cond (same_owner v (owner_of (row_at T.parents r))) Nothing (PutObject o (with_owner y (owner_of (row_at T.parents r))))) (PutSlot r j (slot_for y)) Nothing) owned
      ∙ rw (owner_refl (owner_of (row_at T.parents r))))

  module _ (T : Tables) (r j : ℕ) (h : Stands settings s last T (place 1 r (suc j))) (f : OstFid) (n ost : ℕ) (at : slot_at T.parents r j ≡ Names f n ost)
      (class : slot_class T r j ≡ MULTIPLE) (create : creates settings.policy ≡ true) where
    p : Position
    p = place 1 r (suc j)

    -- cut after the object's write: the object is there, and the step goes on with it
    module _ (o : ℕ) (y : Object) (inside : o < length T.objects) (fresh : y.fresh ≡ true) (claimed : y.claim ≡ Some (place_of (row_at T.parents r) j))
        (owned : y.owner ≡ owner_of (row_at T.parents r)) (unnamed : named T.parents y.fid ≡ false)
        (held : (g : OstFid) → is_object g (object_at T.objects o) ≡ true → g ≡ y.fid)
        (alone : (k : ℕ) → is_object y.fid (object_at T.objects k) ≡ true → k ≡ o)
        (first : (k : ℕ) → k < o → is_reusable T.parents (place_of (row_at T.parents r) j) (object_at T.objects k) ≡ false)
        (step : step_at settings T p ≡ repairs OfMultiple (PutObject o y) (PutSlot r j (slot_for y)) Nothing) where
      C : Tables
      C = put_object T o (used y)

      same_class : (k i : ℕ) → slot_class C k i ≡ slot_class T k i
      unfolding C is_object has_fid
      same_class k i = object_others T o (used y) k i (λ g e. (
        never (is_object g (object_at T.objects o)) (λ t. clash (rw (held g t) at e) (named_none T y.fid unnamed k i)),
        never (same_fid y.fid.0 g.0) (λ t. clash (rw (← ost_true y.fid g t) at e) (named_none T y.fid unnamed k i)),
      ))

      same_reusable : (w : ObjectRow) → is_reusable C.parents (place_of (row_at T.parents r) j) w ≡ is_reusable T.parents (place_of (row_at T.parents r) j) w
      unfolding C is_reusable named scan names_at slot_at width row_at put_object
      same_reusable (unused b) = refl
      same_reusable (used x) = refl

      here : object_at C.objects o ≡ used y
      unfolding C object_at put_object
      here = get_or-set_same T.objects o (used y) (unused []) inside

      finds : reusable C r j ≡ Some o
      unfolding C row_at put_object is_reusable object_at
      finds = first_unique (reusable_first C r j) (found passes below)
        where
          passes : is_reusable C.parents (place_of (row_at T.parents r) j) (object_at C.objects o) ≡ true
          passes = rw here (same_reusable (used y) ∙ and_both (and_both fresh (claim_here y.claim (place_of (row_at T.parents r) j) claimed)) (rw unnamed))

          below : (k : ℕ) → k < o → is_reusable C.parents (place_of (row_at T.parents r) j) (object_at C.objects k) ≡ false
          below k l =
              ap (is_reusable C.parents (place_of (row_at T.parents r) j)) (get_or-set_other T.objects o k (used y) (unused []) (λ e. omega arith))
              ∙ same_reusable (object_at T.objects k) ∙ first k l

      goes_on_there : step_at settings C p ≡ repairs OfMultiple Nothing (PutSlot r j (slot_for y)) Nothing
      unfolding C p slot_at row_at put_object
      goes_on_there = redirects C r j f n ost o y at (same_class r j ∙ class) create finds here owned

      quiet_before : Done settings C p
      unfolding C p quiet_at quiet_part place row_at width put_object
      quiet_before q (in_parent k zero a b) l = h.done _ (in_parent k zero a b) l
      quiet_before q (in_parent k (suc i) a b) l = rw (same_class k i) (h.done _ (in_parent k (suc i) a b) l)
      quiet_before q (in_object u a) l = absurd (let z = from_stage l in omega arith)
      quiet_before q at_end_lem l = absurd (let z = from_stage l in omega arith)

      object_cut : Mends settings s last C
      unfolding C p apply_writes apply_write put_object row_at is_end place
      object_cut =
          stands_mends settings s last C p (record {
            sound = record { parents = h.sound.parents; objects = one_put T o y h.sound.objects alone };
            exists = grows_exists T C (grows_put T o (used y)) h.exists;
            done = quiet_before;
            ends = ends_writes settings s last C p OfMultiple Nothing (PutSlot r j (slot_for y)) Nothing _ refl goes_on_there refl (stands_on settings s last T p h refl OfMultiple (PutObject o y) (PutSlot r j (slot_for y)) Nothing step).ends;
          })

    redirect_cuts : reusable T r j ≡ None → (a : Option OstFid) → usable T settings.reserve ≡ a → step_at settings T p ≡ redirect T r j ost a →
        EachCut settings s last T (redirect T r j ost a)
    unfolding redirect redirect_to new_object slot_for p C apply_write is_end place
    redirect_cuts none None u step = tt
    redirect_cuts none (Some g) u step = to (free_object T.objects) refl step
      where
        to : (a : Option ℕ) → free_object T.objects ≡ a → step_at settings T p ≡ redirect_to T.parents r j ost g a → EachCut settings s last T (redirect_to T.parents r j ost g a)
        to None d step = tt
        to (Some o) d step =
            let b = usable_free T settings.reserve g u in
            let v = free_object_lem T o d in (
              object_cut o (new_object T.parents g r j ost) v.1 refl refl refl b.1 (λ k t. clash t (v.0 k)) (λ k t. clash t (b.0 k))
                  (λ k l. first_none (reusable_first T r j) none k) step,
              two_writes settings s last T p h refl OfMultiple (PutObject o (new_object T.parents g r j ost)) (PutSlot r j (Names g 0 ost)) step,
            )

    reuse_cuts : (o : ℕ) → reusable T r j ≡ Some o → (w : ObjectRow) → object_at T.objects o ≡ w → step_at settings T p ≡ reuse T.parents r j o w →
        EachCut settings s last T (reuse T.parents r j o w)
    unfolding reuse owner_write slot_for with_owner p C apply_write is_end place is_reusable is_object has_fid
    reuse_cuts o q (unused b) d step = tt
    reuse_cuts o q (used x) d step = go (same_owner x.owner owner) step
      where
        owner : Owner
        owner = owner_of (row_at T.parents r)

        there : is_object x.fid (object_at T.objects o) ≡ true
        there = rw (d, same_self x.fid.0)

        means : (x.fresh ≡ true) × (x.claim ≡ Some (place_of (row_at T.parents r) j)) × (named T.parents x.fid ≡ false)
        means = reusable_means T.parents (place_of (row_at T.parents r) j) x (subst (λ v. is_reusable T.parents (place_of (row_at T.parents r) j) v ≡ true) d (reusable_passes T r j o q))

        go : (b : Bool) → step_at settings T p ≡ repairs OfMultiple (cond b Nothing (PutObject o (with_owner x owner))) (PutSlot r j (slot_for x)) Nothing →
            EachCut settings s last T (repairs OfMultiple (cond b Nothing (PutObject o (with_owner x owner))) (PutSlot r j (slot_for x)) Nothing)
        go true step = (stands_mends settings s last T p h, two_writes settings s last T p h refl OfMultiple Nothing (PutSlot r j (slot_for x)) step)
        go false step = (
          object_cut o (with_owner x owner) (object_inside T x.fid o there) means.0 means.1 refl means.2
              (λ g t. one_fid T o x.fid g there t) (λ k t. h.sound.objects k o x.fid t there)
              (λ k l. first_below (reusable_first T r j) q k l) step,
          two_writes settings s last T p h refl OfMultiple (PutObject o (with_owner x owner)) (PutSlot r j (slot_for x)) step,
        )

    pub multiple_cuts : (a : Option ℕ) → reusable T r j ≡ a → step_at settings T (place 1 r (suc j)) ≡ redirect_by settings T r j ost a →
        EachCut settings s last T (redirect_by settings T r j ost a)
    unfolding redirect_by p
    multiple_cuts None q step = redirect_cuts q (usable T settings.reserve) refl step
    multiple_cuts (Some o) q step = reuse_cuts o q (object_at T.objects o) refl step
