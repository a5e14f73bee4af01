-- An orphan's layout is written, and its owner not yet: all of stage one but its slot is quiet, the slot is OWNER, and its step writes the owner.
use Rattle.std.specs.Prelude.{Some}
pub mod Redirected
unfoldable pub use Redirected.*

module _ (settings : Settings) (s : Stand) (last : s.position ≡ place 3 0 0) where
  -- all of stage one is quiet
  pub record FirstQuiet (T : Tables) : Type 0 where
    pub headers : (k : ℕ) → header_quiet (row_at T.parents k) ≡ true
    pub slots : (k l : ℕ) → quiet_slot settings (slot_class T k l) ≡ true

  pub first_quiet : (T : Tables) (o : ℕ) → Done settings T (place 2 o 0) → FirstQuiet T
  unfolding quiet_at quiet_part place
  first_quiet T o d = record { headers = λ k. header k (dec_lt k (length T.parents)); slots = λ k l. slot k l (dec_lt l (width T.parents k)) }
    where
      header : (k : ℕ) → Dec (k < length T.parents) → header_quiet (row_at T.parents k) ≡ true
      header k (yes h) = d _ (in_parent k zero h (omega arith)) (by_stage (omega arith))
      header k (no n) = header_absent T k (omega arith)

      slot : (k l : ℕ) → Dec (l < width T.parents k) → quiet_slot settings (slot_class T k l) ≡ true
      slot k l (yes h) = d _ (in_parent k (suc l) (row_there T k l h) (omega arith)) (by_stage (omega arith))
      slot k l (no n) = slot_absent settings T k l (omega arith)

  pub quiet_first : (T : Tables) → FirstQuiet T → Done settings T (place 2 0 0)
  unfolding quiet_at quiet_part place
  quiet_first T f q (in_parent k zero h l) g = f.headers k
  quiet_first T f q (in_parent k (suc i) h l) g = f.slots k i
  quiet_first T f q (in_object u h) g = absurd (let b = from_row g refl in let c = from_part g refl (omega arith) in omega arith)
  quiet_first T f q at_end_lem g = absurd (let z = from_stage g in omega arith)

  -- tables U in which object x of row o can be put into slot (r, i), the rest of stage one being quiet
  pub record Room (U : Tables) (o r i : ℕ) (x : Object) : Type 0 where
    pub sound : Distinct U
    pub holds : object_at U.objects o ≡ used x
    pub inside : r < length U.parents
    pub within : i < width U.parents r
    pub claimed : x.claim ≡ Some (place_of (row_at U.parents r) i)
    pub unnamed : (k l : ℕ) → names_at U.parents x.fid k l ≡ false
    pub lonely : (g : OstFid) (k l : ℕ) → names_at U.parents g r i ≡ true → names_at U.parents g k l ≡ true → (k ≡ r) × (l ≡ i)
    pub headers : (k : ℕ) → header_quiet (row_at U.parents k) ≡ true
    pub slots : (k l : ℕ) → (k ≡ r → l ≡ i → ⊥) → quiet_slot settings (slot_class U k l) ≡ true

  pub room_ready : (T U : Tables) (o r i : ℕ) (x : Object) → FirstQuiet T → Ready settings T U o r i x → Room U o r i x
  room_ready T U o r i x f y =
      record {
        sound = y.sound;
        holds = y.holds;
        inside = y.inside;
        within = y.within;
        claimed = y.claimed;
        unnamed = y.unnamed;
        lonely = y.lonely;
        headers = λ k. y.headers k (f.headers k);
        slots = λ k l n. rw (y.others k l n) (f.slots k l);
      }

  module _ (U : Tables) (o r i : ℕ) (x : Object) (room : Room U o r i x) where
    -- after the layout's write, and after the owner's
    unfoldable pub placed : Tables
    placed = put_slot U r i (slot_for x)

    unfoldable pub owned : Tables
    owned = settled U o x r i

    unfoldable pub its_owner : Owner
    its_owner = owner_of (row_at U.parents r)

    in_row : is_object x.fid (object_at U.objects o) ≡ true
    unfolding is_object has_fid
    in_row = rw (room.holds, same_self x.fid.0)

    pub not_new : (g : OstFid) (k l : ℕ) → names_at U.parents g k l ≡ true → same_fid x.fid.0 g.0 ≡ false
    not_new g k l e = never (same_fid x.fid.0 g.0) (λ t. clash e (rw (← ost_true x.fid g t) (room.unnamed k l)))

    placed_others : (k l : ℕ) → (k ≡ r → l ≡ i → ⊥) → slot_class placed k l ≡ slot_class U k l
    unfolding placed slot_for slot_names keeper
    placed_others k l n =
        slot_others U r i (slot_for x) k l n (λ g e. (not_new g k l e, never (is_place (keeper U g) r i) (λ t. far g e (is_place_lem (keeper U g) r i t))))
      where
        far : (g : OstFid) → names_at U.parents g k l ≡ true → keeper U g ≡ Some (r, i) → ⊥
        far g e t =
            let q = room.lonely g k l (keeper_names U.parents g (claim_in (object_of U.objects g)) r i t) e in
            n q.0 q.1

    placed_sound : Distinct placed
    unfolding placed object_at put_slot put_parent
    placed_sound = record { parents = one_parent_slot U r i (slot_for x) room.sound.parents; objects = room.sound.objects }

    pub owned_sound : Distinct owned
    unfolding owned settled placed is_object has_fid with_owner row_at put_object object_at put_slot put_parent its_owner
    owned_sound =
        record { parents = placed_sound.parents; objects = one_put placed o (with_owner x its_owner) placed_sound.objects (λ k t. room.sound.objects k o x.fid t in_row) }

    placed_row : object_row placed.objects x.fid ≡ Some o
    unfolding placed object_row object_at put_slot put_parent
    placed_row = first_unique (object_first U x.fid) (first_only in_row (λ k t. room.sound.objects k o x.fid t in_row))

    placed_object : object_of placed.objects x.fid ≡ Some x
    unfolding object_of object_in_row object_in placed put_slot put_parent object_at
    placed_object = rw (placed_row, room.holds)

    placed_holds : object_at placed.objects o ≡ used x
    unfolding placed object_at put_slot put_parent
    placed_holds = room.holds

    placed_slot : slot_at placed.parents r i ≡ slot_for x
    unfolding placed
    placed_slot = slot_same U r i (slot_for x) room.inside room.within

    placed_claim : x.claim ≡ Some (place_of (row_at placed.parents r) i)
    unfolding placed
    placed_claim = room.claimed ∙ ap (λ v. Some (record { file = v; index = i })) (sym (self_slot U r i (slot_for x) r))

    placed_owner : owner_of (row_at placed.parents r) ≡ its_owner
    unfolding placed its_owner
    placed_owner = owner_slot U r i (slot_for x) r

    keeps_it : keeper placed x.fid ≡ Some (r, i)
    unfolding names_at slot_names slot_for
    keeps_it =
        keeper_own placed x.fid r i x placed_sound.parents (ap (slot_names x.fid) placed_slot ∙ same_self x.fid.0) placed_object placed_claim

    -- the owner differs: the slot's class is OWNER
    placed_class : same_owner x.owner its_owner ≡ false → slot_class placed r i ≡ OWNER
    unfolding slot_class slot_class_of keeper_class claim_class claimed_class claims same_place slot_for
    placed_class d =
        ap (slot_class_of placed r i) placed_slot
        ∙ rw (keeps_it, is_here r i, placed_object)
        (ap (claim_class spot (eqb x.ost x.ost) (same_owner x.owner (owner_of (row_at placed.parents r)))) placed_claim ∙ right)
      where
        spot : Place
        spot = place_of (row_at placed.parents r) i

        right : claim_class spot (eqb x.ost x.ost) (same_owner x.owner (owner_of (row_at placed.parents r))) (Some spot) ≡ OWNER
        right = rw (same_self (self_of (row_at placed.parents r)).0, eq-eqb i i refl, eq-eqb x.ost x.ost refl, placed_owner, d)

    -- and its step writes the owner: the claim and the index are right
    owner_left : same_owner x.owner its_owner ≡ false → mend_write placed.parents r i o x ≡ PutObject o (with_owner x its_owner)
    unfolding mend_write mended with_claim with_owner
    owner_left d =
        rw (claim_here x.claim (place_of (row_at placed.parents r) i) placed_claim, placed_owner, d)
        (ap (λ c. PutObject o (with_claim x c its_owner)) (sym placed_claim))

    index_right : index_write r i x.fid 0 x.ost x.ost ≡ Nothing
    unfolding index_write
    index_right = rw (eq-eqb x.ost x.ost refl)

    placed_step : same_owner x.owner its_owner ≡ false →
        step_at settings placed (place 1 r (suc i)) ≡ repairs OfOwner (PutObject o (with_owner x its_owner)) Nothing Nothing
    unfolding step_at place part_step slot_step repair_slot mend_at mend_object slot_for
    placed_step d =
        rw (placed_slot, placed_class d, placed_row, placed_holds) (ap₂ (λ (a b : Write). repairs OfOwner a b Nothing) (owner_left d) index_right)

    placed_makes : apply_writes (PutObject o (with_owner x its_owner)) Nothing Nothing placed ≡ owned
    unfolding apply_writes apply_write placed owned settled its_owner
    placed_makes = refl

    placed_header : (k : ℕ) → header_quiet (row_at placed.parents k) ≡ header_quiet (row_at U.parents k)
    unfolding placed
    placed_header = header_slot U r i (slot_for x)

    placed_done : Done settings placed (place 1 r (suc i))
    unfolding quiet_at quiet_part place
    placed_done q (in_parent k zero a b) l = placed_header k ∙ room.headers k
    placed_done q (in_parent k (suc j) a b) l =
        let n : k ≡ r → j ≡ i → ⊥ = (λ e d. let z = from_part l refl (sym e) in omega arith) in
        rw (placed_others k j n) (room.slots k j n)
    placed_done q (in_object u a) l = absurd (let z = from_stage l in omega arith)
    placed_done q at_end_lem l = absurd (let z = from_stage l in omega arith)

    placed_there : Exists placed (place 1 r (suc i))
    unfolding place placed
    placed_there = in_parent r (suc i) (let z = (grows_slot U r i (slot_for x)).tall in rw z room.inside) (let z = width_slot U r i (slot_for x) r in let w = room.within in omega arith)

    -- a run on the tables after the layout's write comes to the owner's write
    pub placed_mends : same_owner x.owner its_owner ≡ false → Ends settings s last owned (next owned (place 1 r (suc i))) → Mends settings s last placed
    unfolding is_end place
    placed_mends d g =
        stands_mends settings s last placed (place 1 r (suc i)) (record {
          sound = placed_sound;
          exists = placed_there;
          done = placed_done;
          ends = ends_writes settings s last placed (place 1 r (suc i)) OfOwner (PutObject o (with_owner x its_owner)) Nothing Nothing owned refl (placed_step d) placed_makes g;
        })

    pub owned_quiet : FirstQuiet owned
    unfolding owned settled placed quiet_slot row_at put_object
    owned_quiet = record { headers = λ k. placed_header k ∙ room.headers k; slots = λ k l. go k l (ℕ_discrete k r) (ℕ_discrete l i) }
      where
        other : (k l : ℕ) → (k ≡ r → l ≡ i → ⊥) → quiet_slot settings (slot_class (settled U o x r i) k l) ≡ true
        other k l n =
            rw (settled_others U o r i x room.sound.parents room.sound.objects room.holds room.inside room.within room.claimed room.unnamed room.lonely k l n)
            (room.slots k l n)

        go : (k l : ℕ) → Dec (k ≡ r) → Dec (l ≡ i) → quiet_slot settings (slot_class (settled U o x r i) k l) ≡ true
        go k l (no d) z = other k l (λ p q. d p)
        go k l (yes p) (no d) = other k l (λ p q. d q)
        go k l (yes p) (yes q) =
            rw (p, q, settled_clean U o r i x room.sound.parents room.sound.objects room.holds room.inside room.within room.claimed room.unnamed room.lonely)

    pub owned_there : Exists owned (place 1 r (suc i))
    unfolding owned settled placed put_object place width row_at
    owned_there = in_parent r (suc i) (let z = (grows_slot U r i (slot_for x)).tall in rw z room.inside) (let z = width_slot U r i (slot_for x) r in let w = room.within in omega arith)
