-- MULTIPLE, WRONG-OST and ORPHAN change a slot or the slot count whenever they are made. Assumes nothing.
use Prim.Native.Nat.{ℕ, zero, suc, ◌-◌, ◌≤◌, ◌<◌}
use Rattle.std.specs.Prelude.{Option, Some, None}
use native.Mathlib.Omega.{arith}
use mathlib.Core.Path.{◌≡◌, refl, sym, ap, subst, ◌∙◌}
use mathlib.Core.Bool.{Bool, true, false, cond, ◌&&◌, true≢false}
use mathlib.Core.List.{List, [], ◌++◌}
use borrow.Author.Tests.{eq-eqb, ne_eqb, eqb-false}
use lib.Dec.{eqb}
use lib.ListN.{length, get_or, set, replicate, length-append, length-replicate, length-set}
use Rattle.fid.specs.Fid.{same_fid}
use Rattle.fid.specs.declared.MdtFid.{MdtFid}
use Rattle.fid.specs.declared.OstFid.{OstFid}
use Rattle.fid.proofs.SameLaws.{same_self}
use Rattle.layout.specs.Slot.{same_slot, same_slots, slot_names}
use Rattle.layout.specs.Layout.{restriped}
use Rattle.layout.specs.declared.Slot.{Slot}
use Rattle.layout.specs.declared.Slot.TheVariants.{Hole, Names}
use Rattle.layout.proofs.StripeLaws.{slot_self, slots_same, slots_longer}
use Rattle.tables.specs.Records.{ParentRow, ObjectRow, unused, used, Tables}
use Rattle.tables.specs.Positions.{slots_of, row_at, width}
use Rattle.tables.specs.declared.Owner.{Owner}
use Rattle.tables.specs.declared.Place.{Place}
use Rattle.tables.specs.declared.Object.{Object}
use Rattle.tables.specs.declared.Position.{Position}
use Rattle.rules.specs.Rows.{owner_of, has_fid, is_parent, free_parent, slot_at, names_at, named, object_at, object_row, object_in, object_in_row, object_of, free_object, same_owner}
use Rattle.rules.specs.Keeper.{keeper, is_place}
use Rattle.rules.specs.Places.{claims, place_of}
use Rattle.rules.specs.Classes.{header_class, claimed_class, claim_class, keeper_class, slot_class_of, slot_class, unnamed_class, object_class_of, object_class}
use Rattle.rules.specs.Settings.{Settings, creates, adopts}
use Rattle.rules.specs.Repairs.{with_slots, grown, made, put_parent, put_object, apply_write, apply_writes, repair_header, new_object, usable, redirect_to, redirect, is_reusable, reusable, reuse, redirect_by, make_object, mended, mend_write, index_write, mend_object, mend_at, repair_slot, slot_for, owner_write, with_owner, make_parent, adopt_by, adopt, repair_object}
use Rattle.rules.specs.Steps.{slot_step, part_step, object_step, step_at}
use Rattle.rules.specs.Generations.{restripes, changes_slots, ChangedStep}
use Rattle.rules.specs.declared.Way.{Way}
use Rattle.rules.specs.declared.HeaderClass.{HeaderClass}
use Rattle.rules.specs.declared.HeaderClass.TheVariants.{UNUSED as UNUSED-PARENT, SELF, CLEAN as CLEAN-HEADER}
use Rattle.rules.specs.declared.SlotClass.{SlotClass}
use Rattle.rules.specs.declared.SlotClass.TheVariants.{HOLE, MULTIPLE, DANGLING, BLANK, UNMATCHED, WRONGOST as WRONG-OST, OWNER, CLEAN}
use Rattle.rules.specs.declared.ObjectClass.{ObjectClass}
use Rattle.rules.specs.declared.ObjectClass.TheVariants.{UNUSED, KEPT, SPARE, EMPTY, ORPHAN, CONFLICT}
use Rattle.rules.specs.declared.Repair.{Repair}
use Rattle.rules.specs.declared.Repair.TheVariants.{OfBlank, OfUnmatched, OfOwner, OfWrongOst}
use Rattle.rules.specs.declared.Write.{Write}
use Rattle.rules.specs.declared.Write.TheVariants.{Nothing, Object as PutObject, Slot as PutSlot, Grow as GrowTo, Make}
use Rattle.rules.specs.declared.Step.{Step}
use Rattle.rules.specs.declared.Step.TheVariants.{Rests as rests, Repairs as repairs, Stops as stops}
use Rattle.rules.proofs.Searches.{named_inside}
use Rattle.rules.proofs.Theorem.{row_same, slot_same, put_slot, named_none, parent_inside, free_row_lem, usable_free, reusable_means, reusable_passes, Means, none_at_all, to_make, to_fill, to_grow, to_take, way_means}
use Rattle.rules.proofs.Raised.{Aside, aside_nothing, aside_owner, aside_named}

-- ## Rows that differ

abbrev Differ : List ParentRow → List ParentRow → Type 0
Differ rows more = (r : ℕ) × (same_slots (slots_of (row_at rows r)) (slots_of (row_at more r)) ≡ false)

-- in a slot
differ_at : (rows more : List ParentRow) (r j : ℕ) → same_slot (slot_at rows r j) (slot_at more r j) ≡ false → Differ rows more
unfolding slot_at
differ_at rows more r j e = (r, go (same_slots old new) refl)
  where
    old : List Slot
    old = slots_of (row_at rows r)

    new : List Slot
    new = slots_of (row_at more r)

    go : (b : Bool) → same_slots old new ≡ b → b ≡ false
    go false q = refl
    go true q =
        let same : same_slot (get_or old j Hole) (get_or new j Hole) ≡ true =
        ap (λ (l : List Slot). same_slot (get_or old j Hole) (get_or l j Hole)) (sym (slots_same old new q)) ∙ slot_self (get_or old j Hole) in
        absurd (true≢false (sym same ∙ e))

-- in a slot that was written
slot_differs : (T : Tables) (r j : ℕ) (s t : Slot) → r < length T.parents → j < width T.parents r → slot_at T.parents r j ≡ t → same_slot t s ≡ false →
    Differ T.parents (put_slot T r j s).parents
slot_differs T r j s t h k at d = differ_at T.parents (put_slot T r j s).parents r j (rw (slot_same T r j s h k, at) d)

-- in the row that was written
row_differs : (T : Tables) (r : ℕ) (w : ParentRow) → r < length T.parents → same_slots (slots_of (row_at T.parents r)) (slots_of w) ≡ false →
    Differ T.parents (put_parent T r w).parents
row_differs T r w h d = (r, rw (row_same T r w h) d)

named_there : (T : Tables) (r j : ℕ) (f : OstFid) (n i : ℕ) → slot_at T.parents r j ≡ Names f n i → (r < length T.parents) × (j < width T.parents r)
unfolding names_at slot_names
named_there T r j f n i at = named_inside T.parents f r j (rw (at, same_self f.0))

-- a slot that names something, and an object that no slot names
other_object : (T : Tables) (r j : ℕ) (f g : OstFid) (n i m k : ℕ) → slot_at T.parents r j ≡ Names f n i → named T.parents g ≡ false →
    same_slot (Names f n i) (Names g m k) ≡ false
unfolding names_at slot_names same_slot
other_object T r j f g n i m k at u =
    let e : same_fid f.0 g.0 ≡ false = ap (slot_names g) (sym at) ∙ named_none T g u r j in
    rw e

-- ## What is claimed of a step

Changes : Tables → Step → Type 0
Changes T rests = Unit {0}
Changes T (stops a) = Unit {0}
Changes T (repairs c a b e) = changes_slots c ≡ true → Differ T.parents (apply_writes a b e T).parents

changes_rests : (T : Tables) → Changes T rests
unfolding Changes
changes_rests T = tt

changes_when : (T : Tables) (b : Bool) (d : Step) → Changes T d → Changes T (cond b d rests)
unfolding Changes
changes_when T true d h = h
changes_when T false d h = tt

-- ## Headers and slots

changes_header : (T : Tables) (r : ℕ) (c : HeaderClass) → Changes T (repair_header T r c)
unfolding Changes changes_slots repair_header
changes_header T r UNUSED-PARENT = tt
changes_header T r CLEAN-HEADER = tt
changes_header T r SELF = λ l. absurd (true≢false (sym l))

changes_redirect : (T : Tables) (r j : ℕ) (f : OstFid) (n ost : ℕ) (gs : List OstFid) → slot_at T.parents r j ≡ Names f n ost → (u : Option OstFid) → usable T gs ≡ u →
    Changes T (redirect T r j ost u)
unfolding Changes redirect redirect_to apply_writes apply_write put_object put_slot put_parent
changes_redirect T r j f n ost gs at None e = tt
changes_redirect T r j f n ost gs at (Some g) e = go (free_object T.objects)
  where
    go : (a : Option ℕ) → Changes T (redirect_to T.parents r j ost g a)
    go None = tt
    go (Some o) = λ l.
        let in_rows = named_there T r j f n ost at in
        slot_differs T r j (Names g 0 ost) (Names f n ost) in_rows.0 in_rows.1 at (other_object T r j f g n ost 0 ost at (usable_free T gs g e).1)

mend_differs : (T : Tables) (right index : Bool) (o : ℕ) (y : Object) (r j : ℕ) (s : Slot) → index ≡ false → Differ T.parents (put_slot T r j s).parents →
    Differ T.parents (apply_writes (cond right Nothing (PutObject o y)) (cond index Nothing (PutSlot r j s)) Nothing T).parents
unfolding apply_writes apply_write put_object put_slot put_parent
mend_differs T true false o y r j s e d = d
mend_differs T false false o y r j s e d = d
mend_differs T right true o y r j s e d = absurd (true≢false e)

changes_reuse : (T : Tables) (r j : ℕ) (f : OstFid) (n ost o : ℕ) → slot_at T.parents r j ≡ Names f n ost → (y : ObjectRow) →
    is_reusable T.parents (place_of (row_at T.parents r) j) y ≡ true → Changes T (reuse T.parents r j o y)
unfolding Changes reuse owner_write slot_for
changes_reuse T r j f n ost o at (unused b) e = tt
changes_reuse T r j f n ost o at (used x) e = λ l.
    let in_rows = named_there T r j f n ost at in
    mend_differs T (same_owner x.owner owner) false o (with_owner x owner) r j (Names x.fid 0 x.ost) refl
    (slot_differs T r j (Names x.fid 0 x.ost) (Names f n ost) in_rows.0 in_rows.1 at
    (other_object T r j f x.fid n ost 0 x.ost at (reusable_means T.parents (place_of (row_at T.parents r) j) x e).2))
  where
    owner : Owner
    owner = owner_of (row_at T.parents r)

changes_by : (settings : Settings) (T : Tables) (r j : ℕ) (f : OstFid) (n ost : ℕ) → slot_at T.parents r j ≡ Names f n ost → (a : Option ℕ) → reusable T r j ≡ a →
    Changes T (redirect_by settings T r j ost a)
unfolding redirect_by
changes_by settings T r j f n ost at None e = changes_redirect T r j f n ost settings.reserve at (usable T settings.reserve) refl
changes_by settings T r j f n ost at (Some o) e = changes_reuse T r j f n ost o at (object_at T.objects o) (reusable_passes T r j o e)

changes_make : (T : Tables) (x : Object) (a : Option ℕ) → Changes T (make_object x a)
unfolding Changes changes_slots make_object
changes_make T x None = tt
changes_make T x (Some o) = λ l. absurd (true≢false (sym l))

-- BLANK, UNMATCHED and OWNER are none of them
changes_mend : (T : Tables) (c : Repair) → changes_slots c ≡ false → (r j : ℕ) (f : OstFid) (n ost : ℕ) (a : Option ℕ) → Changes T (mend_at T c r j f n ost a)
unfolding Changes mend_at mend_object
changes_mend T c other r j f n ost None = tt
changes_mend T c other r j f n ost (Some o) = go (object_at T.objects o)
  where
    go : (y : ObjectRow) → Changes T (mend_object T.parents c r j f n ost o y)
    go (unused b) = tt
    go (used x) = λ l. absurd (true≢false (sym l ∙ other))

-- WRONG-OST: the index differs
wrong_there : (p : Place) (there owned : Bool) (k : Option Place) → claim_class p there owned k ≡ WRONG-OST → there ≡ false
unfolding claim_class claimed_class
wrong_there p there owned None e = let z : ◌≡◌ {A = ℕ} 0 1 = cc in absurd (omega arith)
wrong_there p there owned (Some q) e = go (claims (Some q) p) there owned e
  where
    go : (b t o : Bool) → cond b (cond t (cond o CLEAN OWNER) WRONG-OST) (UNMATCHED q.file q.index) ≡ WRONG-OST → t ≡ false
    go false t o d = let z : ◌≡◌ {A = ℕ} 0 1 = cc in absurd (omega arith)
    go true false o d = refl
    go true true true d = let z : ◌≡◌ {A = ℕ} 0 1 = cc in absurd (omega arith)
    go true true false d = let z : ◌≡◌ {A = ℕ} 0 1 = cc in absurd (omega arith)

other_index : (f : OstFid) (n ost index : ℕ) → eqb index ost ≡ false → same_slot (Names f n ost) (Names f n index) ≡ false
unfolding same_slot
other_index f n ost index e = rw (same_self f.0, eq-eqb n n refl, ne_eqb ost index (λ q. eqb-false index ost e (sym q)))

changes_index : (T : Tables) (r j : ℕ) (f : OstFid) (n ost : ℕ) → slot_at T.parents r j ≡ Names f n ost → slot_class_of T r j (Names f n ost) ≡ WRONG-OST →
    Changes T (mend_at T OfWrongOst r j f n ost (object_row T.objects f))
unfolding Changes mend_at mend_object mend_write index_write slot_class_of keeper_class object_of object_in_row object_in object_at
changes_index T r j f n ost at = go (is_place (keeper T f) r j) (object_row T.objects f)
  where
    home : Place
    home = place_of (row_at T.parents r) j

    owner : Owner
    owner = owner_of (row_at T.parents r)

    object : (o : ℕ) (y : ObjectRow) → keeper_class home ost owner (object_in y) ≡ WRONG-OST → Changes T (mend_object T.parents OfWrongOst r j f n ost o y)
    object o (unused b) d = tt
    object o (used x) d = λ l.
        let in_rows = named_there T r j f n ost at in
        let wrong : eqb x.ost ost ≡ false = wrong_there home (eqb x.ost ost) (same_owner x.owner owner) x.claim d in
        mend_differs T (claims x.claim home && same_owner x.owner owner) (eqb x.ost ost) o (mended T.parents r j x) r j (Names f n x.ost) wrong
        (slot_differs T r j (Names f n x.ost) (Names f n ost) in_rows.0 in_rows.1 at (other_index f n ost x.ost wrong))

    go : (b : Bool) (a : Option ℕ) → cond b (keeper_class home ost owner (object_in_row T.objects a)) MULTIPLE ≡ WRONG-OST → Changes T (mend_at T OfWrongOst r j f n ost a)
    go false a e = let z : ◌≡◌ {A = ℕ} 0 1 = cc in absurd (omega arith)
    go true None e = tt
    go true (Some o) e = object o (object_at T.objects o) e

changes_slot : (settings : Settings) (T : Tables) (r j : ℕ) (f : OstFid) (n ost : ℕ) → slot_at T.parents r j ≡ Names f n ost → (c : SlotClass) →
    slot_class_of T r j (Names f n ost) ≡ c → Changes T (repair_slot settings T r j f n ost c)
unfolding repair_slot changes_slots
changes_slot settings T r j f n ost at HOLE e = changes_rests T
changes_slot settings T r j f n ost at MULTIPLE e =
    changes_when T (creates settings.policy) _ (changes_by settings T r j f n ost at (reusable T r j) refl)
changes_slot settings T r j f n ost at DANGLING e =
    changes_when T (creates settings.policy) _ (changes_make T (new_object T.parents f r j ost) (free_object T.objects))
changes_slot settings T r j f n ost at BLANK e = changes_mend T OfBlank refl r j f n ost (object_row T.objects f)
changes_slot settings T r j f n ost at (UNMATCHED g i) e = changes_mend T OfUnmatched refl r j f n ost (object_row T.objects f)
changes_slot settings T r j f n ost at WRONG-OST e = changes_index T r j f n ost at e
changes_slot settings T r j f n ost at OWNER e = changes_mend T OfOwner refl r j f n ost (object_row T.objects f)
changes_slot settings T r j f n ost at CLEAN e = changes_rests T

-- ## Objects

first_differs : (T : Tables) (a b e : Write) → Differ T.parents (apply_write T a).parents → Aside b → Aside e → Differ T.parents (apply_writes a b e T).parents
unfolding apply_writes Aside
first_differs T a b e d p q = subst (Differ T.parents) (sym (q (apply_write (apply_write T a) b) ∙ p (apply_write T a))) d

grown_differs : (f : MdtFid) (w : ParentRow) (i : ℕ) (s : Slot) → is_parent f w ≡ true → length (slots_of w) ≤ i → same_slots (slots_of w) (slots_of (grown w i s)) ≡ false
unfolding is_parent has_fid slots_of grown with_slots restriped
grown_differs f (unused b) i s e h = absurd (true≢false (sym e))
grown_differs f (used p) i s e h =
    let ss : List Slot = p.layout.slots in
    let more : List Slot = ss ++ replicate (suc i - length ss) Hole in
    let n : length more ≡ suc i = rw (length-append ss (replicate (suc i - length ss) Hole), length-replicate (suc i - length ss) Hole) (omega arith) in
    slots_longer ss (set more i s) (rw (length-set more i s, n) (omega arith))

made_differs : (w : ParentRow) (b : List ℕ) → w ≡ unused b → (f : MdtFid) (i : ℕ) (o : Owner) (s : Slot) (l : List ℕ) →
    same_slots (slots_of w) (slots_of (made f i o s l)) ≡ false
unfolding slots_of made
made_differs w b u f i o s l =
    let holes : List Slot = replicate (suc i) Hole in
    let n : length (set holes i s) ≡ suc i = length-set holes i s ∙ length-replicate (suc i) Hole in
    ap (λ (v : ParentRow). same_slots (slots_of v) (set holes i s)) u ∙ slots_longer [] (set holes i s) (rw n (omega arith))

module _ (T : Tables) (o : ℕ) (x : Object) (p : Place) (unnamed : named T.parents x.fid ≡ false) where
  changes_parent : (a : Option ℕ) → free_parent T.parents ≡ a → Changes T (make_parent x p a)
  unfolding Changes make_parent apply_write
  changes_parent None e = tt
  changes_parent (Some r) e = λ l.
      let free = free_row_lem T r e in
      first_differs T (Make r p.file x.owner p.index (slot_for x)) Nothing Nothing
      (row_differs T r _ free.1 (made_differs (row_at T.parents r) free.0.0 free.0.1 _ _ _ _ _)) aside_nothing aside_nothing

  changes_adopt : {v : Way} → Means T p v → Changes T (adopt_by T o x p v)
  unfolding Changes adopt_by apply_write put_slot slot_for same_slot width
  changes_adopt none_at_all = tt
  changes_adopt (to_make n) = changes_parent (free_parent T.parents) refl
  changes_adopt (to_fill {r = r} e h q) = λ l.
      first_differs T (PutSlot r p.index (slot_for x)) _ Nothing
      (slot_differs T r p.index (slot_for x) Hole (parent_inside T p.file r e) h q refl) (aside_owner o x _) aside_nothing
  changes_adopt (to_grow {r = r} e h q) = λ l.
      first_differs T (GrowTo r p.index (slot_for x)) _ Nothing
      (row_differs T r _ (parent_inside T p.file r e) (grown_differs p.file (row_at T.parents r) p.index (slot_for x) e h)) (aside_owner o x _) aside_nothing
  changes_adopt (to_take {r = r} g n m e h q t) = λ l.
      first_differs T (PutSlot r p.index (slot_for x)) _ _
      (slot_differs T r p.index (slot_for x) (Names g n m) (parent_inside T p.file r e) h q (other_object T r p.index g x.fid n m 0 x.ost q unnamed))
      (aside_owner o x _) (aside_named T.objects _)

orphan_unnamed : (T : Tables) (x : Object) → object_class_of T (used x) ≡ ORPHAN → named T.parents x.fid ≡ false
unfolding object_class_of
orphan_unnamed T x e = go (named T.parents x.fid) e
  where
    go : (b : Bool) → cond b KEPT (unnamed_class T x.fresh x.claim) ≡ ORPHAN → b ≡ false
    go false d = refl
    go true d = let z : ◌≡◌ {A = ℕ} 0 1 = cc in absurd (omega arith)

changes_object : (settings : Settings) (T : Tables) (o : ℕ) (x : Object) (c : ObjectClass) → object_class_of T (used x) ≡ c → Changes T (repair_object settings T o x c)
unfolding repair_object adopt Changes changes_slots
changes_object settings T o x UNUSED e = tt
changes_object settings T o x KEPT e = tt
changes_object settings T o x SPARE e = tt
changes_object settings T o x EMPTY e = changes_when T (adopts settings.policy) _ (λ l. absurd (true≢false (sym l)))
changes_object settings T o x ORPHAN e = changes_when T (adopts settings.policy) _ (go x.claim)
  where
    go : (k : Option Place) → Changes T (adopt T o x k)
    go None = tt
    go (Some p) = changes_adopt T o x p (orphan_unnamed T x e) (way_means T p)
changes_object settings T o x CONFLICT e = tt

-- ## Every step

changes_at : (settings : Settings) (T : Tables) (p : Position) → Changes T (step_at settings T p)
unfolding step_at part_step slot_step object_step slot_class object_class
changes_at settings T p = go (eqb p.stage 1) (eqb p.stage 2)
  where
    slot : (r j : ℕ) (s : Slot) → slot_at T.parents r j ≡ s → Changes T (slot_step settings T r j s)
    slot r j Hole e = changes_rests T
    slot r j (Names f n ost) e =
        changes_slot settings T r j f n ost e (slot_class_of T r j (slot_at T.parents r j)) (ap (slot_class_of T r j) (sym e))

    part : (r m : ℕ) → Changes T (part_step settings T r m)
    part r zero = changes_header T r (header_class (row_at T.parents r))
    part r (suc j) = slot r j (slot_at T.parents r j) refl

    object : (o : ℕ) (y : ObjectRow) → object_at T.objects o ≡ y → Changes T (object_step settings T o y)
    object o (unused b) e = changes_rests T
    object o (used x) e = changes_object settings T o x (object_class_of T (object_at T.objects o)) (ap (object_class_of T) (sym e))

    go : (a b : Bool) → Changes T (cond a (part_step settings T p.row p.part) (cond b (object_step settings T p.row (object_at T.objects p.row)) rests))
    go true b = part p.row p.part
    go false true = object p.row (object_at T.objects p.row) refl
    go false false = changes_rests T

pub changed_step : (settings : Settings) (T : Tables) (p : Position) → ChangedStep settings T p
unfolding ChangedStep Changes restripes
changed_step settings T p c a b e q l =
    let d : Differ T.parents (apply_writes a b e T).parents = subst (Changes T) q (changes_at settings T p) l in
    (d.0, rw d.1)
