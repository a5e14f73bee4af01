-- An orphan takes a place, cut after its layout or after its owner; a fresh object that lost the slot waits for its destruction.
use Rattle.std.specs.Prelude.{Option, Some, None}
use Rattle.tables.specs.declared.Place.{Place}
pub mod Placed
unfoldable pub use Placed.*

module _ (settings : Settings) (s : Stand) (last : s.position ≡ place 3 0 0) where
  zeroth : (o : ℕ) → place 2 0 0 ≼ place 2 o 0
  unfolding place
  zeroth zero = ≼_refl (place 2 0 0)
  zeroth (suc o) = by_row refl (omega arith)

  zero_least : (k : ℕ) → 0 ≤ k
  zero_least k = omega arith

  -- a run on the tables after the whole step, taken up at a quiet position of before
  later_ends : (S : Tables) (p q : Position) → Stands settings s last S (next S p) → Exists S p → q ≼ p → Exists S q → Ends settings s last S q
  later_ends S p q h v f w = ends_quiet settings s last S (next S p) h.done h.exists h.ends q w (≼_trans p (next S p) f (next_later S v))

  module _ (T : Tables) (o : ℕ) (h : Stands settings s last T (place 2 o 0)) (x : Object) (holds : object_at T.objects o ≡ used x) (adopt : adopts settings.policy ≡ true)
      (home : Place) (claim : x.claim ≡ Some home) (unnamed : named T.parents x.fid ≡ false) (stays : x.fresh ≡ false) where
    quiet : FirstQuiet settings s last T
    quiet = first_quiet settings s last T o h.done

    kept_there : (c : Repair) (a b d : Write) → step_at settings T (place 2 o 0) ≡ repairs c a b d → Exists (apply_writes a b d T) (place 2 o 0)
    kept_there c a b d q =
        let m : Stepped settings T (place 2 o 0) (apply_writes a b d T) = subst (Makes settings T (place 2 o 0)) q (step_makes settings T (place 2 o 0) h.sound) in
        grows_exists T (apply_writes a b d T) m.calm.grows h.exists

    -- the place is had by a hole: the layout, then the owner
    place_cuts : (U : Tables) (r : ℕ) (a : Write) (w : Owner) (room : Room settings s last U o r home.index x) → w ≡ owner_of (row_at U.parents r) →
        apply_write T a ≡ placed settings s last U o r home.index x room → apply_write (apply_write T a) (owner_write o x w) ≡ owned settings s last U o r home.index x room →
        step_at settings T (place 2 o 0) ≡ repairs OfOrphan a (owner_write o x w) Nothing → EachCut settings s last T (repairs OfOrphan a (owner_write o x w) Nothing)
    unfolding is_end place its_owner owner_write apply_write apply_writes
    place_cuts U r a w room same placing both step = (cut (same_owner x.owner w) refl, whole)
      where
        whole : Mends settings s last (apply_write (apply_write T a) (owner_write o x w))
        whole = two_writes settings s last T (place 2 o 0) h refl OfOrphan a (owner_write o x w) step

        S : Tables
        S = owned settings s last U o r home.index x room

        stands : Stands settings s last S (next S (place 2 o 0))
        stands = subst (λ (X : Tables). Stands settings s last X (next X (place 2 o 0))) both (stands_on settings s last T (place 2 o 0) h refl OfOrphan a (owner_write o x w) Nothing step)

        it : Exists S (place 2 o 0)
        it = subst (λ (X : Tables). Exists X (place 2 o 0)) both (kept_there OfOrphan a (owner_write o x w) Nothing step)

        next_ends : Ends settings s last S (next S (place 1 r (suc home.index)))
        next_ends = later_ends S (place 2 o 0) (next S (place 1 r (suc home.index))) stands it (next_least S (place 1 r (suc home.index)) (owned_there settings s last U o r home.index x room) it (by_stage (omega arith))) (next_exists S (place 1 r (suc home.index)))

        cut : (b : Bool) → same_owner x.owner w ≡ b → Mends settings s last (apply_write T a)
        cut false d = subst (Mends settings s last) (sym placing) (placed_mends settings s last U o r home.index x room (rw (← same) d) next_ends)
        cut true d = subst (λ b. Mends settings s last (apply_write (apply_write T a) (cond b Nothing (PutObject o (with_owner x w))))) d whole

    fill_cuts : (r : ℕ) → is_parent home.file (row_at T.parents r) ≡ true → home.index < width T.parents r → slot_at T.parents r home.index ≡ Hole →
        step_at settings T (place 2 o 0) ≡ adopt_by T o x home (Fill r) → EachCut settings s last T (adopt_by T o x home (Fill r))
    unfolding adopt_by placed owned apply_write apply_writes put_slot
    fill_cuts r e l q step =
        place_cuts T r (PutSlot r home.index (slot_for x)) (owner_of (row_at T.parents r))
        (room_ready settings s last T T o r home.index x quiet (ready_fill settings T o x home h.sound holds claim unnamed r e l q)) refl refl (settle_here T o r home.index x holds) step

    grow_cuts : (r : ℕ) → is_parent home.file (row_at T.parents r) ≡ true → width T.parents r ≤ home.index → holes_in (row_at T.parents r) ≡ true →
        step_at settings T (place 2 o 0) ≡ adopt_by T o x home (Grow r) → EachCut settings s last T (adopt_by T o x home (Grow r))
    unfolding adopt_by placed owned apply_write put_slot width
    grow_cuts r e l q step =
        place_cuts U r (GrowTo r home.index (slot_for x)) (owner_of (row_at T.parents r))
        (room_ready settings s last T U o r home.index x quiet (ready_grow settings T o x home h.sound holds claim unnamed r e l q))
        (sym (ap owner_of new ∙ owner_longer (row_at T.parents r) home.index))
        (ap (put_parent T r) whole ∙ twice T o r home.index x w inside holds ∙ sym (ap (λ v. put_parent U r (with_slot v home.index (slot_for x))) new))
        (ap (λ (v : ParentRow). apply_write (put_parent T r v) (owner_write o x (owner_of (row_at T.parents r)))) whole
        ∙ settle_row T o r home.index x w inside holds (owner_of (row_at T.parents r)) (sym (owner_longer (row_at T.parents r) home.index))) step
      where
        w : ParentRow
        w = longer (row_at T.parents r) home.index

        whole : grown (row_at T.parents r) home.index (slot_for x) ≡ with_slot w home.index (slot_for x)
        whole = grown_is home.index (slot_for x) (named_for x) (row_at T.parents r) l

        U : Tables
        U = put_parent T r w

        inside : r < length T.parents
        inside = parent_inside T home.file r e

        new : row_at U.parents r ≡ w
        new = row_same T r w inside

    -- the place is had by a fresh object's: the layout, the owner, then its destruction is pending
    module _ (r : ℕ) (g : OstFid) (n m : ℕ) (e : is_parent home.file (row_at T.parents r) ≡ true) (l : home.index < width T.parents r) (q : slot_at T.parents r home.index ≡ Names g n m)
        (t : takeable T.parents home g r home.index (object_of T.objects g) ≡ true) where
      g_here : names_at T.parents g r home.index ≡ true
      unfolding names_at slot_names
      g_here = rw (q, same_self g.0)

      only : (k j : ℕ) → names_at T.parents g k j ≡ true → (k ≡ r) × (j ≡ home.index)
      only k j u = go (ℕ_discrete k r) (ℕ_discrete j home.index)
        where
          go : Dec (k ≡ r) → Dec (j ≡ home.index) → (k ≡ r) × (j ≡ home.index)
          go (yes y) (yes z) = (y, z)
          go (yes y) (no z) = clash (else_intro T g r home.index k j u (λ a b. z b)) (take_else T home g r home.index (object_of T.objects g) t)
          go (no y) z = clash (else_intro T g r home.index k j u (λ a b. y a)) (take_else T home g r home.index (object_of T.objects g) t)

      take_room : Room settings s last T o r home.index x
      take_room =
          record {
            sound = h.sound;
            holds = holds;
            inside = parent_inside T home.file r e;
            within = l;
            claimed = claim ∙ ap (λ v. Some (record { file = v; index = home.index })) (sym (parent_self home.file (row_at T.parents r) e));
            unnamed = named_none T x.fid unnamed;
            lonely = λ c k j u v. only k j (rw (one_name T g c r home.index g_here u) at v);
            headers = quiet.headers;
            slots = λ k j d. quiet.slots k j;
          }

      module _ (k : ℕ) (z : Object) (found-row : object_row T.objects g ≡ Some k) (held : object_at T.objects k ≡ used z)
          (step : step_at settings T (place 2 o 0) ≡ repairs OfOrphan (PutSlot r home.index (slot_for x)) (owner_write o x (owner_of (row_at T.parents r))) (Destroy k)) where
        fresh : z.fresh ≡ true
        fresh = take_fresh T home g r home.index k z t found-row held

        apart : o ≡ k → ⊥
        apart y = clash fresh (let w : used x ≡ used z = sym holds ∙ ap (object_at T.objects) y ∙ held in let v : x ≡ z = cc in rw v at stays)

        z_is : z.fid ≡ g
        unfolding is_object has_fid
        z_is = ost_true z.fid g (subst (λ w. is_object g w ≡ true) held (object_found T g found-row))

        claimed : (c : Option Place) → claims c home ≡ true → (spot : Place) × (c ≡ Some spot)
        unfolding claims
        claimed None u = clash u refl
        claimed (Some spot) u = (spot, refl)

        z_claims : claims z.claim home ≡ true
        unfolding takeable object_of object_in_row object_in object_at
        z_claims =
            let w : object_of T.objects g ≡ Some z = rw (found-row, held) in
            and_r z.fresh (claims z.claim home) (and_l (z.fresh && claims z.claim home) (not (named_else T.parents g r home.index)) (rw w at t))

        -- the tables after the layout's and the owner's writes
        both : Tables
        both = owned settings s last T o r home.index x take_room

        no_name_here : names_at (put_slot T r home.index (slot_for x)).parents g r home.index ≡ false
        unfolding names_at slot_names slot_for
        no_name_here = ap (slot_names g) (slot_same T r home.index (slot_for x) (parent_inside T home.file r e) l) ∙ not_new settings s last T o r home.index x take_room g r home.index g_here

        no_name : (a b : ℕ) → names_at both.parents g a b ≡ false
        unfolding both owned settled names_at slot_at row_at put_object
        no_name a b = go (ℕ_discrete a r) (ℕ_discrete b home.index)
          where
            other : (a ≡ r → b ≡ home.index → ⊥) → names_at (put_slot T r home.index (slot_for x)).parents g a b ≡ false
            other d = names_other T r home.index (slot_for x) g a b d ∙ never (names_at T.parents g a b) (λ u. let v = only a b u in d v.0 v.1)

            go : Dec (a ≡ r) → Dec (b ≡ home.index) → names_at (put_slot T r home.index (slot_for x)).parents g a b ≡ false
            go (no d) w = other (λ y v. d y)
            go (yes y) (no d) = other (λ y v. d v)
            go (yes y) (yes v) = rw (y, v) no_name_here

        waits : Waits both k z
        unfolding both owned settled object_at put_object put_slot put_parent
        waits =
            record {
              sound = owned_sound settings s last T o r home.index x take_room;
              holds = get_or-set_other T.objects o k _ (unused []) (λ y. apart (sym y)) ∙ held;
              fresh = fresh;
              claimed = claimed z.claim z_claims;
              unnamed = λ a b. subst (λ v. names_at both.parents v a b ≡ false) (sym z_is) (no_name a b);
            }

        -- the whole step destroys it
        whole : apply_writes (PutSlot r home.index (slot_for x)) (owner_write o x (owner_of (row_at T.parents r))) (Destroy k) T ≡ without both k
        unfolding both owned apply_writes apply_write
        whole = ap (λ (X : Tables). apply_write X (Destroy k)) (settle_here T o r home.index x holds)

        stands : Stands settings s last (without both k) (next (without both k) (place 2 o 0))
        unfolding is_end place
        stands =
            subst (λ (X : Tables). Stands settings s last X (next X (place 2 o 0))) whole
            (stands_on settings s last T (place 2 o 0) h refl OfOrphan (PutSlot r home.index (slot_for x)) (owner_write o x (owner_of (row_at T.parents r))) (Destroy k) step)

        it : Exists (without both k) (place 2 o 0)
        it =
            subst (λ (X : Tables). Exists X (place 2 o 0)) whole
            (kept_there OfOrphan (PutSlot r home.index (slot_for x)) (owner_write o x (owner_of (row_at T.parents r))) (Destroy k) step)

        some_row : 0 < length both.objects
        some_row = let a = waits_inside settings s last adopt k z both waits in omega arith

        gone_row : 0 < length (without both k).objects
        unfolding put_object
        gone_row = rw (length-set both.objects k destroyed) some_row

        second_there : Exists both (place 2 0 0)
        unfolding place
        second_there = in_object 0 some_row

        second : Ends settings s last both (place 2 0 0)
        unfolding place
        second =
            let a : Ends settings s last (without both k) (place 2 0 0) =
            later_ends (without both k) (place 2 o 0) (place 2 0 0) stands it (zeroth o) (in_object 0 gone_row) in
            let n : ℕ = a.steps in
            pending_ends settings s last adopt k z n both 0 waits (zero_least k) a.same

        done_first : Done settings both (place 2 0 0)
        unfolding both owned
        done_first = quiet_first settings s last both (owned_quiet settings s last T o r home.index x take_room)

        both_mends : Mends settings s last both
        both_mends = stands_mends settings s last both (place 2 0 0) (record { sound = waits.sound; exists = second_there; done = done_first; ends = second })

        take_cuts : EachCut settings s last T (repairs OfOrphan (PutSlot r home.index (slot_for x)) (owner_write o x (owner_of (row_at T.parents r))) (Destroy k))
        unfolding owner_write apply_write apply_writes placed both owned put_slot place its_owner
        take_cuts = (cut (same_owner x.owner (owner_of (row_at T.parents r))) refl, two)
          where
            two : Mends settings s last (apply_write (apply_write T (PutSlot r home.index (slot_for x))) (owner_write o x (owner_of (row_at T.parents r))))
            two = subst (Mends settings s last) (sym (settle_here T o r home.index x holds)) both_mends

            cut : (b : Bool) → same_owner x.owner (owner_of (row_at T.parents r)) ≡ b → Mends settings s last (apply_write T (PutSlot r home.index (slot_for x)))
            cut true d = subst (λ b. Mends settings s last (apply_write (apply_write T (PutSlot r home.index (slot_for x))) (cond b Nothing (PutObject o (with_owner x (owner_of (row_at T.parents r))))))) d two
            cut false d =
                placed_mends settings s last T o r home.index x take_room d
                (ends_quiet settings s last both (place 2 0 0) done_first second_there second (next both (place 1 r (suc home.index))) (next_exists both (place 1 r (suc home.index)))
                (next_least both (place 1 r (suc home.index)) (owned_there settings s last T o r home.index x take_room) second_there (by_stage (omega arith))))

      taken_row : (a : Option ℕ) → object_row T.objects g ≡ a →
          step_at settings T (place 2 o 0) ≡ repairs OfOrphan (PutSlot r home.index (slot_for x)) (owner_write o x (owner_of (row_at T.parents r))) (destroy_at a) →
          EachCut settings s last T (repairs OfOrphan (PutSlot r home.index (slot_for x)) (owner_write o x (owner_of (row_at T.parents r))) (destroy_at a))
      unfolding destroy_at takeable object_of object_in_row is_object has_fid
      taken_row None d step = clash t (rw d)
      taken_row (Some k) d step = go (object_at T.objects k) refl (object_found T g d)
        where
          go : (w : ObjectRow) → object_at T.objects k ≡ w → is_object g w ≡ true →
              EachCut settings s last T (repairs OfOrphan (PutSlot r home.index (slot_for x)) (owner_write o x (owner_of (row_at T.parents r))) (Destroy k))
          go (unused b) w u = clash u refl
          go (used z) w u = take_cuts k z d w step

      taken_cuts : step_at settings T (place 2 o 0) ≡ adopt_by T o x home (Take r) → EachCut settings s last T (adopt_by T o x home (Take r))
      unfolding adopt_by destroy_named
      taken_cuts step = taken_row (object_row T.objects g) refl (rw q at step)

    pub adopt_cuts : {v : Way} → Means T home v → step_at settings T (place 2 o 0) ≡ adopt_by T o x home v → EachCut settings s last T (adopt_by T o x home v)
    unfolding adopt_by make_parent is_end place
    adopt_cuts none_at_all step = tt
    adopt_cuts (to_make n) step = go (free_parent T.parents) step
      where
        go : (a : Option ℕ) → step_at settings T (place 2 o 0) ≡ make_parent x home a → EachCut settings s last T (make_parent x home a)
        go None step = tt
        go (Some r) step = one_write settings s last T (place 2 o 0) h refl OfOrphan (Make r home.file x.owner home.index (slot_for x)) step
    adopt_cuts (to_fill {r = r} e l q) step = fill_cuts r e l q step
    adopt_cuts (to_grow {r = r} e l q) step = grow_cuts r e l q step
    adopt_cuts (to_take {r = r} g n m e l q t) step = taken_cuts r g n m e l q t step
