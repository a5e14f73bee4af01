-- An object whose destruction is pending: stage two ends as if it had been destroyed before.
use Rattle.std.specs.Prelude.{Option, Some, None}
use Rattle.refusals.specs.Numbers.{number}
use Rattle.tables.specs.declared.Place.{Place}
pub mod Endings
unfoldable pub use Endings.*

-- object z of row q is fresh, claims a slot and is named by none: nothing but its own step looks at it
pub record Waits (T : Tables) (q : ℕ) (z : Object) : Type 0 where
  pub sound : Distinct T
  pub holds : object_at T.objects q ≡ used z
  pub fresh : z.fresh ≡ true
  pub claimed : (home : Place) × (z.claim ≡ Some home)
  pub unnamed : (k l : ℕ) → names_at T.parents z.fid k l ≡ false

-- as if it had been destroyed
abbrev pub without : Tables → ℕ → Tables
without T q = put_object T q destroyed

module _ (T : Tables) (q : ℕ) (z : Object) (wait : Waits T q z) where
  -- a FID that a slot names is not in row q
  elsewhere : (g : OstFid) (k l : ℕ) → names_at T.parents g k l ≡ true → is_object g (object_at T.objects q) ≡ false
  unfolding is_object has_fid
  elsewhere g k l e = rw wait.holds (never (same_fid z.fid.0 g.0) (λ t. clash e (rw (← ost_true z.fid g t) (wait.unnamed k l))))

  named_row : (g : OstFid) (k l : ℕ) → names_at T.parents g k l ≡ true → object_row (without T q).objects g ≡ object_row T.objects g
  unfolding is_object has_fid destroyed
  named_row g k l e = row_of_frame T q destroyed g (elsewhere g k l e) refl

  named_object : (g : OstFid) (k l : ℕ) → names_at T.parents g k l ≡ true → object_of (without T q).objects g ≡ object_of T.objects g
  unfolding is_object has_fid destroyed
  named_object g k l e = object_frame T q destroyed g (elsewhere g k l e) refl

  slot_way_lem : (home : Place) (r i : ℕ) (s : Slot) → slot_at T.parents r i ≡ s → slot_way (without T q) home r i s ≡ slot_way T home r i s
  unfolding slot_way names_at slot_names put_object
  slot_way_lem home r i Hole e = refl
  slot_way_lem home r i (Names g n m) e = ap (λ x. cond (takeable T.parents home g r i x) (Take r) NoWay) same
    where
      same : object_of (without T q).objects g ≡ object_of T.objects g
      same = named_object g r i (rw (e, same_self g.0))

  way_same : (home : Place) → way (without T q) home ≡ way T home
  unfolding way row_way put_object
  way_same home = ap (λ v. cond (ltb home.index max_slots) v NoWay) (row (parent_row T.parents home.file))
    where
      row : (a : Option ℕ) → row_way (without T q) home a ≡ row_way T home a
      row None = refl
      row (Some r) =
          ap (λ v. cond (ltb home.index (width T.parents r)) v (cond (holes_in (row_at T.parents r)) (Grow r) NoWay))
          (slot_way_lem home r home.index (slot_at T.parents r home.index) refl)

  destroy_there : (s : Slot) (r i : ℕ) → slot_at T.parents r i ≡ s → destroy_named (without T q).objects s ≡ destroy_named T.objects s
  unfolding destroy_named names_at slot_names
  destroy_there Hole r i e = refl
  destroy_there (Names g n m) r i e = ap destroy_at (named_row g r i (rw (e, same_self g.0)))

  adopt_there : (k : ℕ) (x : Object) (home : Place) (v : Way) → adopt_by (without T q) k x home v ≡ adopt_by T k x home v
  unfolding adopt_by put_object
  adopt_there k x home NoWay = refl
  adopt_there k x home NewParent = refl
  adopt_there k x home (Fill r) = refl
  adopt_there k x home (Grow r) = refl
  adopt_there k x home (Take r) =
      ap (repairs OfOrphan (PutSlot r home.index (slot_for x)) (owner_write k x (owner_of (row_at T.parents r))))
      (destroy_there (slot_at T.parents r home.index) r home.index refl)

  claim_there : (k : ℕ) (x : Object) (c : Option Place) → adopt (without T q) k x c ≡ adopt T k x c
  unfolding adopt
  claim_there k x None = refl
  claim_there k x (Some home) = ap (adopt_by (without T q) k x home) (way_same home) ∙ adopt_there k x home (way T home)

  repair_there : (settings : Settings) (k : ℕ) (x : Object) (c : ObjectClass) → repair_object settings (without T q) k x c ≡ repair_object settings T k x c
  unfolding repair_object
  repair_there settings k x UNUSED = refl
  repair_there settings k x KEPT = refl
  repair_there settings k x SPARE = refl
  repair_there settings k x EMPTY = refl
  repair_there settings k x ORPHAN = ap (λ u. cond (adopts settings.policy) u rests) (claim_there k x x.claim)
  repair_there settings k x CONFLICT = refl

  module _ (k : ℕ) (apart : k ≡ q → ⊥) where
    row_same_there : object_at (without T q).objects k ≡ object_at T.objects k
    unfolding object_at put_object
    row_same_there = get_or-set_other T.objects q k destroyed (unused []) apart

    class_there : object_class (without T q) k ≡ object_class T k
    unfolding object_class object_class_of unnamed_class named scan names_at slot_at row_at width put_object
    class_there = rw row_same_there (go (object_at T.objects k))
      where
        claim : (b : Bool) (c : Option Place) → unnamed_class (without T q) b c ≡ unnamed_class T b c
        claim b None = refl
        claim b (Some home) = ap (λ v. cond b EMPTY (cond (is_way v) ORPHAN CONFLICT)) (way_same home)

        go : (w : ObjectRow) → object_class_of (without T q) w ≡ object_class_of T w
        go (unused b) = refl
        go (used x) = ap (cond (named T.parents x.fid) KEPT) (claim x.fresh x.claim)

    -- the step of another row is the same
    step_there : (settings : Settings) → step_at settings (without T q) (place 2 k 0) ≡ step_at settings T (place 2 k 0)
    unfolding step_at place object_step
    step_there settings = rw row_same_there (go (object_at T.objects k))
      where
        S : Tables
        S = without T q

        go : (w : ObjectRow) → object_step settings S k w ≡ object_step settings T k w
        go (unused b) = refl
        go (used x) = ap (repair_object settings S k x) class_there ∙ repair_there settings k x (object_class T k)

-- ## Writes beside a pending destruction

-- the write leaves row q and does not name g
abbrev pub Beside : ℕ → OstFid → Write → Type 0
Beside q g Nothing = Unit {0}
Beside q g (PutObject o x) = o ≡ q → ⊥
Beside q g (Destroy o) = o ≡ q → ⊥
Beside q g (Own r) = Unit {0}
Beside q g (PutSlot r j s) = slot_names g s ≡ false
Beside q g (GrowTo r i s) = slot_names g s ≡ false
Beside q g (Make r f w i s) = slot_names g s ≡ false

module _ (q : ℕ) (g : OstFid) where
  beside_swap : (T : Tables) (w : Write) → Beside q g w → apply_write (without T q) w ≡ without (apply_write T w) q
  unfolding apply_write put_object put_parent row_at
  beside_swap T Nothing a = refl
  beside_swap T (PutObject o x) a = λ i. record { parents = T.parents; objects = set_comm T.objects q o destroyed (used x) (λ e. a (sym e)) i }
  beside_swap T (Destroy o) a = λ i. record { parents = T.parents; objects = set_comm T.objects q o destroyed destroyed (λ e. a (sym e)) i }
  beside_swap T (Own r) a = refl
  beside_swap T (PutSlot r j s) a = refl
  beside_swap T (GrowTo r i s) a = refl
  beside_swap T (Make r f w i s) a = refl

  beside_holds : (T : Tables) (w : Write) → Beside q g w → object_at (apply_write T w).objects q ≡ object_at T.objects q
  unfolding apply_write put_object put_parent object_at
  beside_holds T Nothing a = refl
  beside_holds T (PutObject o x) a = get_or-set_other T.objects o q (used x) (unused []) (λ e. a (sym e))
  beside_holds T (Destroy o) a = get_or-set_other T.objects o q destroyed (unused []) (λ e. a (sym e))
  beside_holds T (Own r) a = refl
  beside_holds T (PutSlot r j s) a = refl
  beside_holds T (GrowTo r i s) a = refl
  beside_holds T (Make r f w i s) a = refl

  row_unnamed : (T : Tables) (r : ℕ) (w : ParentRow) → ((k l : ℕ) → names_at T.parents g k l ≡ false) →
      ((l : ℕ) → slot_names g (get_or (slots_of w) l Hole) ≡ false) → (k l : ℕ) → names_at (put_parent T r w).parents g k l ≡ false
  unfolding names_at slot_at row_at put_parent
  row_unnamed T r w old new k l =
      set_pointwise T.parents r w (unused []) (λ v. slot_names g (get_or (slots_of v) l Hole) ≡ false) k (λ e. old r l) (λ e. new l) (λ n. old k l)

  -- a slot that is set in a list, and holes at its end
  set_unnamed : (ss : List Slot) (i : ℕ) (s : Slot) → ((l : ℕ) → slot_names g (get_or ss l Hole) ≡ false) → slot_names g s ≡ false →
      (l : ℕ) → slot_names g (get_or (set ss i s) l Hole) ≡ false
  set_unnamed ss i s old new l = set_pointwise ss i s Hole (λ t. slot_names g t ≡ false) l (λ e. old i) (λ e. new) (λ n. old l)

  slot_unnamed : (v : ParentRow) (i : ℕ) (s : Slot) → ((l : ℕ) → slot_names g (get_or (slots_of v) l Hole) ≡ false) → slot_names g s ≡ false →
      (l : ℕ) → slot_names g (get_or (slots_of (with_slot v i s)) l Hole) ≡ false
  unfolding slots_of with_slot changed restriped
  slot_unnamed (unused b) i s old new = old
  slot_unnamed (used p) i s old new = set_unnamed p.layout.slots i s old new

  grown_unnamed : (v : ParentRow) (i : ℕ) (s : Slot) → ((l : ℕ) → slot_names g (get_or (slots_of v) l Hole) ≡ false) → slot_names g s ≡ false →
      (l : ℕ) → slot_names g (get_or (slots_of (grown v i s)) l Hole) ≡ false
  unfolding slots_of grown with_slots restriped
  grown_unnamed (unused b) i s old new = old
  grown_unnamed (used p) i s old new =
      let more = suc i - length p.layout.slots in
      set_unnamed (p.layout.slots ++ replicate more Hole) i s (λ l. ap (slot_names g) (pad_get_d p.layout.slots more l) ∙ old l) new

  made_unnamed : (f : MdtFid) (i : ℕ) (w : Owner) (s : Slot) (b : List ℕ) → slot_names g s ≡ false → (l : ℕ) → slot_names g (get_or (slots_of (made f i w s b)) l Hole) ≡ false
  unfolding slots_of made slot_names
  made_unnamed f i w s b new = set_unnamed (replicate (suc i) Hole) i s (λ l. ap (slot_names g) (holes_get_d (suc i) l)) new

  beside_unnamed : (T : Tables) (w : Write) → Beside q g w → ((k l : ℕ) → names_at T.parents g k l ≡ false) →
      (k l : ℕ) → names_at (apply_write T w).parents g k l ≡ false
  unfolding apply_write put_object names_at slot_at row_at slot_names
  beside_unnamed T Nothing a old = old
  beside_unnamed T (PutObject o x) a old = old
  beside_unnamed T (Destroy o) a old = old
  beside_unnamed T (Own r) a old = row_unnamed T r _ old (λ l. rw (own_slots (row_at T.parents r)) (old r l))
  beside_unnamed T (PutSlot r j s) a old = row_unnamed T r _ old (slot_unnamed (row_at T.parents r) j s (old r) a)
  beside_unnamed T (GrowTo r i s) a old = row_unnamed T r _ old (grown_unnamed (row_at T.parents r) i s (old r) a)
  beside_unnamed T (Make r f w i s) a old = row_unnamed T r _ old (made_unnamed f i w s (tail_of (row_at T.parents r)) a)

abbrev pub BesideStep : ℕ → OstFid → Step → Type 0
BesideStep q g rests = Unit {0}
BesideStep q g (repairs c a b e) = Beside q g a × Beside q g b × Beside q g e
BesideStep q g (stops n) = Unit {0}

module _ (T : Tables) (q : ℕ) (z : Object) (wait : Waits T q z) (settings : Settings) (k : ℕ) (apart : k ≡ q → ⊥) where
  -- the writes of another row's step
  module _ (x : Object) (holds : object_at T.objects k ≡ used x) where
    slot_beside : slot_names z.fid (slot_for x) ≡ false
    unfolding slot_names slot_for is_object has_fid
    slot_beside = never (same_fid x.fid.0 z.fid.0) (λ t. apart (wait.sound.objects k q z.fid (rw (holds, t)) (rw (wait.holds, same_self z.fid.0))))

    owner_beside : (w : Owner) → Beside q z.fid (owner_write k x w)
    unfolding owner_write
    owner_beside w = go (same_owner x.owner w)
      where
        go : (b : Bool) → Beside q z.fid (cond b Nothing (PutObject k (with_owner x w)))
        go true = tt
        go false = apart

    destroy_beside : (r i : ℕ) (s : Slot) → slot_at T.parents r i ≡ s → Beside q z.fid (destroy_named T.objects s)
    unfolding destroy_named destroy_at names_at slot_names
    destroy_beside r i Hole e = tt
    destroy_beside r i (Names g n m) e = go (object_row T.objects g) refl
      where
        go : (a : Option ℕ) → object_row T.objects g ≡ a → Beside q z.fid (destroy_at a)
        go None d = tt
        go (Some o) d = λ y. clash (subst (λ v. is_object g (object_at T.objects v) ≡ true) y (object_found T g d)) (elsewhere T q z wait g r i (rw (e, same_self g.0)))

    adopt_beside : (home : Place) (v : Way) → BesideStep q z.fid (adopt_by T k x home v)
    unfolding adopt_by make_parent
    adopt_beside home NoWay = tt
    adopt_beside home NewParent = go (free_parent T.parents)
      where
        go : (a : Option ℕ) → BesideStep q z.fid (make_parent x home a)
        go None = tt
        go (Some r) = (slot_beside, tt, tt)
    adopt_beside home (Fill r) = (slot_beside, owner_beside (owner_of (row_at T.parents r)), tt)
    adopt_beside home (Grow r) = (slot_beside, owner_beside (owner_of (row_at T.parents r)), tt)
    adopt_beside home (Take r) =
        (slot_beside, owner_beside (owner_of (row_at T.parents r)), destroy_beside r home.index (slot_at T.parents r home.index) refl)

    repair_beside : (c : ObjectClass) → BesideStep q z.fid (repair_object settings T k x c)
    unfolding repair_object adopt
    repair_beside UNUSED = tt
    repair_beside KEPT = tt
    repair_beside SPARE = tt
    repair_beside CONFLICT = tt
    repair_beside EMPTY = go (adopts settings.policy)
      where
        go : (b : Bool) → BesideStep q z.fid (cond b (repairs OfEmpty (Destroy k) Nothing Nothing) rests)
        go true = (apart, tt, tt)
        go false = tt
    repair_beside ORPHAN = go (adopts settings.policy) x.claim
      where
        go : (b : Bool) (c : Option Place) → BesideStep q z.fid (cond b (adopt T k x c) rests)
        go true None = tt
        go true (Some home) = adopt_beside home (way T home)
        go false c = tt

  step_beside : BesideStep q z.fid (step_at settings T (place 2 k 0))
  unfolding step_at place object_step
  step_beside = go (object_at T.objects k) refl
    where
      go : (w : ObjectRow) → object_at T.objects k ≡ w → BesideStep q z.fid (object_step settings T k w)
      go (unused b) e = tt
      go (used x) e = repair_beside x e (object_class T k)

-- ## Stage two with a pending destruction

module _ (settings : Settings) (s : Stand) (last : s.position ≡ place 3 0 0) (adopt : adopts settings.policy ≡ true) (q : ℕ) (z : Object) where
  next_there : (T : Tables) (k : ℕ) → k < q → q < length T.objects → next T (place 2 k 0) ≡ place 2 (suc k) 0
  unfolding next from_object place
  next_there T k h l = rw (lt-ltb (suc k) (length T.objects) (omega arith))

  pub waits_inside : (T : Tables) → Waits T q z → q < length T.objects
  unfolding is_object has_fid
  waits_inside T w = object_inside T z.fid q (rw (w.holds, same_self z.fid.0))

  -- its own step destroys it
  own_step : (T : Tables) → Waits T q z → step_at settings T (place 2 q 0) ≡ repairs OfEmpty (Destroy q) Nothing Nothing
  unfolding step_at place object_step repair_object object_class object_class_of unnamed_class
  own_step T w = rw w.holds (ap (repair_object settings T q z) (ap (λ r. object_class_of T r) w.holds ∙ class) ∙ rw adopt)
    where
      class : object_class_of T (used z) ≡ EMPTY
      class =
          ap (λ b. cond b KEPT (unnamed_class T z.fresh z.claim)) (never (named T.parents z.fid) (λ t. let (k, l, u) = named_elim T z.fid t in clash u (w.unnamed k l)))
          ∙ ap₂ (unnamed_class T) w.fresh w.claimed.1

  -- and rests where it is gone
  gone_rests : (T : Tables) → Waits T q z → step_at settings (without T q) (place 2 q 0) ≡ rests
  unfolding step_at place object_step object_at put_object destroyed
  gone_rests T w = rw (get_or-set_same T.objects q destroyed (unused []) (waits_inside T w))

  -- the run on the tables without it ends as the run on the tables with it, up to its row
  pub pending_ends : (n : ℕ) (T : Tables) (k : ℕ) → Waits T q z → k ≤ q → stand (run settings n (without T q) (place 2 k 0)) ≡ s →
      Ends settings s last T (place 2 k 0)
  unfolding run on_step after is_end place apply_writes apply_write put_object
  pending_ends zero T k w h e = absurd (not_there settings s last (without T q) (place 2 k 0) _ refl e)
  pending_ends (suc n) T k w h e = go (compareℕ k q) (λ U j. pending_ends n U j)
    where
      S : Tables
      S = without T q

      here : k ≡ q → Ends settings s last T (place 2 q 0)
      here d =
          ends_writes settings s last T (place 2 q 0) OfEmpty (Destroy q) Nothing Nothing S refl (own_step T w) refl
          (record { steps = n; same = rw (d, gone_rests T w) at e })

      after_step_lem : Step → Run
      after_step_lem u = on_step S (place 2 k 0) (λ U. run settings n U (next U (place 2 k 0))) u

      less : k < q → ((U : Tables) (j : ℕ) → Waits U q z → j ≤ q → stand (run settings n (without U q) (place 2 j 0)) ≡ s → Ends settings s last U (place 2 j 0)) →
          (u : Step) → step_at settings T (place 2 k 0) ≡ u → BesideStep q z.fid u → Makes settings T (place 2 k 0) u → stand (after_step_lem u) ≡ s →
          Ends settings s last T (place 2 k 0)
      less l ih rests d b m t =
          ends_rests settings s last T (place 2 k 0) refl d
          (subst (Ends settings s last T) (sym (next_there T k l (waits_inside T w)))
          (ih T (suc k) w l (subst (λ (p : Position). stand (run settings n S p) ≡ s) (next_there S k l (rw (length-set T.objects q destroyed) (waits_inside T w))) t)))
      less l ih (stops a) d b m t = absurd (not_there settings s last S (place 2 k 0) (number a) refl t)
      less l ih (repairs c x y v) d b m t =
          ends_writes settings s last T (place 2 k 0) c x y v U refl d refl
          (subst (Ends settings s last U) (sym (next_there U k l (waits_inside U kept)))
          (ih U (suc k) kept l
          (subst (λ (p : Position). stand (run settings n (without U q) p) ≡ s) (next_there (without U q) k l (rw (length-set U.objects q destroyed) (waits_inside U kept)))
          (subst (λ (X : Tables). stand (run settings n X (next X (place 2 k 0))) ≡ s) swapped t))))
        where
          U : Tables
          U = apply_writes x y v T

          g : OstFid
          g = z.fid

          swapped : apply_writes x y v S ≡ without U q
          swapped =
              ap (λ (X : Tables). apply_write (apply_write X y) v) (beside_swap q g T x b.0)
              ∙ ap (λ (X : Tables). apply_write X v) (beside_swap q g (apply_write T x) y b.1)
              ∙ beside_swap q g (apply_write (apply_write T x) y) v b.2

          kept : Waits U q z
          kept =
              record {
                sound = m.calm.sound;
                holds = beside_holds q g (apply_write (apply_write T x) y) v b.2 ∙ beside_holds q g (apply_write T x) y b.1 ∙ beside_holds q g T x b.0 ∙ w.holds;
                fresh = w.fresh;
                claimed = w.claimed;
                unnamed = beside_unnamed q g (apply_write (apply_write T x) y) v b.2 (beside_unnamed q g (apply_write T x) y b.1 (beside_unnamed q g T x b.0 w.unnamed));
              }

      go : Compare k q → ((U : Tables) (j : ℕ) → Waits U q z → j ≤ q → stand (run settings n (without U q) (place 2 j 0)) ≡ s → Ends settings s last U (place 2 j 0)) → Ends settings s last T (place 2 k 0)
      go (is_same d) ih = subst (λ j. Ends settings s last T (place 2 j 0)) (sym d) (here d)
      go (is_less l) ih =
          let apart : k ≡ q → ⊥ = (λ y. omega arith) in
          less l ih (step_at settings T (place 2 k 0)) refl (step_beside T q z w settings k apart) (step_makes settings T (place 2 k 0) w.sound)
          (subst (λ (u : Step). stand (after_step_lem u) ≡ s) (step_there T q z w k apart settings) e)
      go (is_more m) ih = absurd (omega arith)
