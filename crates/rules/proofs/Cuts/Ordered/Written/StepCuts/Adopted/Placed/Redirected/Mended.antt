-- A keeper's object is mended, cut between the object and the layout: claim and owner are right then, and the slot is WRONG-OST.
use Rattle.std.specs.Prelude.{Option, Some, None}
pub mod Standing
unfoldable pub use Standing.*

-- a slot that isn't MULTIPLE is the keeper
pub not_second : (T : Tables) (r j : ℕ) (f : OstFid) (n ost : ℕ) → slot_at T.parents r j ≡ Names f n ost → (slot_class T r j ≡ MULTIPLE → ⊥) → keeper T f ≡ Some (r, j)
unfolding slot_class slot_class_of
not_second T r j f n ost at other = go (is_place (keeper T f) r j) refl
  where
    go : (b : Bool) → is_place (keeper T f) r j ≡ b → keeper T f ≡ Some (r, j)
    go true e = is_place_lem (keeper T f) r j e
    go false e = absurd (other (rw (at, e)))

module _ (settings : Settings) (s : Stand) (last : s.position ≡ place 3 0 0) where
  module _ (T : Tables) (r j : ℕ) (h : Stands settings s last T (place 1 r (suc j))) (f : OstFid) (n ost : ℕ) (at : slot_at T.parents r j ≡ Names f n ost)
      (keeps : keeper T f ≡ Some (r, j)) where
    home : Place
    home = place_of (row_at T.parents r) j

    -- both records are written: cut after the object's write
    module _ (o : ℕ) (x : Object) (holds : object_at T.objects o ≡ used x) (is : x.fid ≡ f) (wrong : eqb x.ost ost ≡ false) (c : Repair)
        (step : step_at settings T (place 1 r (suc j)) ≡ repairs c (PutObject o (mended T.parents r j x)) (PutSlot r j (Names f n x.ost)) Nothing) where
      y : Object
      y = mended T.parents r j x

      C : Tables
      C = put_object T o (used y)

      in_row : is_object f (object_at T.objects o) ≡ true
      unfolding is_object has_fid
      in_row = rw (holds, is, same_self f.0)

      inside : o < length T.objects
      inside = object_inside T f o in_row

      alone : (k : ℕ) → is_object f (object_at T.objects k) ≡ true → k ≡ o
      alone k t = h.sound.objects k o f t in_row

      names : names_at T.parents f r j ≡ true
      unfolding names_at slot_names
      names = rw (at, same_self f.0)

      present : object_of C.objects f ≡ Some y
      unfolding C y mended with_claim
      present = put_found T f o y inside is alone

      here : object_at C.objects o ≡ used y
      unfolding C object_at put_object
      here = get_or-set_same T.objects o (used y) (unused []) inside

      found_there : object_row C.objects f ≡ Some o
      unfolding C y mended with_claim is_object has_fid object_at put_object
      found_there = first_unique (object_first C f) (first_only (rw here (rw (is, same_self f.0))) only)
        where
          only : (k : ℕ) → is_object f (object_at C.objects k) ≡ true → k ≡ o
          only k = set_pointwise T.objects o (used y) (unused []) (λ w. is_object f w ≡ true → k ≡ o) k (λ e t. e) (λ e t. e) (λ m t. alone k t)

      sound : Distinct C
      unfolding C y mended with_claim put_object
      sound = record { parents = h.sound.parents; objects = one_put T o y h.sound.objects (λ k t. alone k (rw (← is) t)) }

      others : (k i : ℕ) → (k ≡ r → i ≡ j → ⊥) → slot_class C k i ≡ slot_class T k i
      unfolding C y mended with_claim
      others = claim_others T f r j o y h.sound.parents names keeps inside is refl (λ g t. one_fid T o f g in_row t) alone

      class : slot_class C r j ≡ WRONG-OST
      unfolding C y home mended with_claim slot_class slot_class_of keeper_class claim_class claimed_class claims same_place put_object
      class =
          ap (slot_class_of C r j) at
          ∙ rw (keeper_own C f r j y sound.parents names present refl, is_here r j, present, wrong, same_self (self_of (row_at T.parents r)).0, eq-eqb j j refl)

      nothing_left : mend_write T.parents r j o y ≡ Nothing
      unfolding mend_write y mended with_claim
      nothing_left = rw (claim_here (Some (place_of (row_at T.parents r) j)) (place_of (row_at T.parents r) j) refl, owner_refl (owner_of (row_at T.parents r)))

      goes_on_lem : step_at settings C (place 1 r (suc j)) ≡ repairs OfWrongOst Nothing (PutSlot r j (Names f n x.ost)) Nothing
      unfolding step_at place part_step slot_step repair_slot mend_at C y mended with_claim put_object
      goes_on_lem =
          rw (at, class, found_there, here)
          (index_to_slot T.parents OfWrongOst r j f n ost o y wrong ∙ ap (λ (a : Write). repairs OfWrongOst a (PutSlot r j (Names f n x.ost)) Nothing) nothing_left)

      quiet_before : Done settings C (place 1 r (suc j))
      unfolding C quiet_at quiet_part place put_object
      quiet_before q (in_parent k zero a b) l = h.done _ (in_parent k zero a b) l
      quiet_before q (in_parent k (suc i) a b) l =
          let m : k ≡ r → i ≡ j → ⊥ = (λ e d. let z = from_part l refl (sym e) in omega arith) in
          rw (others k i m) (h.done _ (in_parent k (suc i) a b) l)
      quiet_before q (in_object u a) l = absurd (let z = from_stage l in omega arith)
      quiet_before q at_end_lem l = absurd (let z = from_stage l in omega arith)

      mended_cut : Mends settings s last C
      unfolding C y apply_writes apply_write is_end place
      mended_cut =
          stands_mends settings s last C (place 1 r (suc j)) (record {
            sound = sound;
            exists = grows_exists T C (grows_put T o (used y)) h.exists;
            done = quiet_before;
            ends = ends_writes settings s last C (place 1 r (suc j)) OfWrongOst Nothing (PutSlot r j (Names f n x.ost)) Nothing _ refl goes_on_lem refl
                (stands_on settings s last T (place 1 r (suc j)) h refl c (PutObject o y) (PutSlot r j (Names f n x.ost)) Nothing step).ends;
          })

    pub mend_cuts : (c : Repair) (a : Option ℕ) → object_row T.objects f ≡ a → step_at settings T (place 1 r (suc j)) ≡ mend_at T c r j f n ost a →
        EachCut settings s last T (mend_at T c r j f n ost a)
    unfolding mend_at mend_object mend_write index_write is_object has_fid apply_write is_end place C y
    mend_cuts c None q step = tt
    mend_cuts c (Some o) q step = go (object_at T.objects o) refl (object_found T f q) step
      where
        p : Position
        p = place 1 r (suc j)

        writes : (x : Object) → object_at T.objects o ≡ used x → x.fid ≡ f → (a b : Bool) → eqb x.ost ost ≡ b →
            let u = repairs c (cond a Nothing (PutObject o (mended T.parents r j x))) (cond b Nothing (PutSlot r j (Names f n x.ost))) Nothing in
            step_at settings T p ≡ u → EachCut settings s last T u
        writes x d is true b e step =
            (stands_mends settings s last T p h, two_writes settings s last T p h refl c Nothing (cond b Nothing (PutSlot r j (Names f n x.ost))) step)
        writes x d is false true e step = one_write settings s last T p h refl c (PutObject o (mended T.parents r j x)) step
        writes x d is false false e step = (
          mended_cut o x d is e c step,
          two_writes settings s last T p h refl c (PutObject o (mended T.parents r j x)) (PutSlot r j (Names f n x.ost)) step,
        )

        go : (w : ObjectRow) → object_at T.objects o ≡ w → is_object f w ≡ true → step_at settings T p ≡ mend_object T.parents c r j f n ost o w →
            EachCut settings s last T (mend_object T.parents c r j f n ost o w)
        go (unused b) d t step = tt
        go (used x) d t step =
            writes x d (ost_true x.fid f t) (claims x.claim (place_of (row_at T.parents r) j) && same_owner x.owner (owner_of (row_at T.parents r))) (eqb x.ost ost) refl step
