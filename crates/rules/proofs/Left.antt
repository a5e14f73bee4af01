-- SELF, DANGLING, OWNER and EMPTY leave all slots and generations. Assumes nothing.
use Prim.Native.Nat.{ℕ, zero, suc}
use Rattle.std.specs.Prelude.{Option, Some, None}
use native.Mathlib.Omega.{arith}
use mathlib.Core.Path.{◌≡◌, refl, sym, ap, subst, ◌∙◌}
use mathlib.Core.Bool.{Bool, true, false, cond, ◌&&◌, true≢false}
use mathlib.Core.List.{List, []}
use lib.Dec.{eqb}
use lib.ListN.{get_or}
use Rattle.fid.specs.declared.OstFid.{OstFid}
use Rattle.layout.specs.declared.Slot.{Slot}
use Rattle.layout.specs.declared.Slot.TheVariants.{Hole, Names}
use Rattle.tables.specs.Records.{ParentRow, ObjectRow, unused, used, Tables}
use Rattle.tables.specs.Positions.{slots_of, row_at}
use Rattle.tables.specs.declared.Owner.{Owner}
use Rattle.tables.specs.declared.Place.{Place}
use Rattle.tables.specs.declared.Object.{Object}
use Rattle.tables.specs.declared.Position.{Position}
use Rattle.rules.specs.Rows.{owner_of, generation_in, free_parent, slot_at, object_at, object_row, object_in, object_in_row, object_of, free_object, same_owner}
use Rattle.rules.specs.Keeper.{keeper, is_place}
use Rattle.rules.specs.Places.{way, claims, place_of}
use Rattle.rules.specs.Classes.{header_class, claimed_class, claim_class, keeper_class, slot_class_of, slot_class, object_class}
use Rattle.rules.specs.Settings.{Settings, creates, adopts}
use Rattle.rules.specs.Repairs.{put_parent, put_object, apply_write, apply_writes, own_header, with_own, repair_header, new_object, usable, redirect_to, redirect, reusable, reuse, redirect_by, make_object, mended, mend_write, index_write, mend_object, mend_at, repair_slot, make_parent, adopt_by, adopt, repair_object}
use Rattle.rules.specs.Steps.{slot_step, part_step, object_step, step_at}
use Rattle.rules.specs.Generations.{leaves_slots, Left, LeftStep}
use Rattle.rules.specs.declared.Way.{Way}
use Rattle.rules.specs.declared.Way.TheVariants.{NoWay, NewParent, Fill, Grow, Take}
use Rattle.rules.specs.declared.HeaderClass.{HeaderClass}
use Rattle.rules.specs.declared.HeaderClass.TheVariants.{UNUSED as UNUSED-PARENT, SELF, CLEAN as CLEAN-HEADER}
use Rattle.rules.specs.declared.SlotClass.{SlotClass}
use Rattle.rules.specs.declared.SlotClass.TheVariants.{HOLE, MULTIPLE, DANGLING, BLANK, UNMATCHED, WRONGOST as WRONG-OST, OWNER, CLEAN}
use Rattle.rules.specs.declared.ObjectClass.{ObjectClass}
use Rattle.rules.specs.declared.ObjectClass.TheVariants.{UNUSED, KEPT, SPARE, EMPTY, ORPHAN, CONFLICT}
use Rattle.rules.specs.declared.Repair.{Repair}
use Rattle.rules.specs.declared.Repair.TheVariants.{OfBlank, OfUnmatched, OfOwner, OfWrongOst}
use Rattle.rules.specs.declared.Write.{Write}
use Rattle.rules.specs.declared.Write.TheVariants.{Nothing, Object as PutObject, Slot as PutSlot}
use Rattle.rules.specs.declared.Step.{Step}
use Rattle.rules.specs.declared.Step.TheVariants.{Rests as rests, Repairs as repairs, Stops as stops}
use Rattle.rules.proofs.Lists.{set_pointwise}

abbrev Stay : List ParentRow → List ParentRow → Type 0
Stay rows more = (r : ℕ) → Left (row_at rows r) (row_at more r)

-- what is claimed of a step
Leaves : Tables → Step → Type 0
Leaves T rests = Unit {0}
Leaves T (stops a) = Unit {0}
Leaves T (repairs c a b e) = leaves_slots c ≡ true → Stay T.parents (apply_writes a b e T).parents

left_same : (w : ParentRow) → Left w w
unfolding Left
left_same w = (refl, refl)

left_rests : (T : Tables) → Leaves T rests
unfolding Leaves
left_rests T = tt

left_when : (T : Tables) (b : Bool) (d : Step) → Leaves T d → Leaves T (cond b d rests)
unfolding Leaves
left_when T true d h = h
left_when T false d h = tt

-- ## Headers and slots

own_stays : (w : ParentRow) → Left w (with_own w)
unfolding Left slots_of generation_in with_own own_header
own_stays (unused b) = (refl, refl)
own_stays (used p) = (refl, refl)

left_header : (T : Tables) (r : ℕ) (c : HeaderClass) → Leaves T (repair_header T r c)
unfolding Leaves repair_header apply_writes apply_write put_parent row_at
left_header T r UNUSED-PARENT = tt
left_header T r CLEAN-HEADER = tt
left_header T r SELF = λ l k.
    let row : ParentRow = get_or T.parents r (unused []) in
    set_pointwise T.parents r (with_own row) (unused []) (λ v. Left (get_or T.parents k (unused [])) v) k
    (λ e. rw e (left_same row)) (λ e. rw e (own_stays row)) (λ n. left_same (get_or T.parents k (unused [])))

left_redirect : (T : Tables) (r j ost : ℕ) (u : Option OstFid) → Leaves T (redirect T r j ost u)
unfolding Leaves leaves_slots redirect redirect_to
left_redirect T r j ost None = tt
left_redirect T r j ost (Some f) = go (free_object T.objects)
  where
    go : (a : Option ℕ) → Leaves T (redirect_to T.parents r j ost f a)
    go None = tt
    go (Some o) = λ l. absurd (true≢false (sym l))

left_by : (settings : Settings) (T : Tables) (r j ost : ℕ) (a : Option ℕ) → Leaves T (redirect_by settings T r j ost a)
unfolding Leaves leaves_slots redirect_by reuse
left_by settings T r j ost None = left_redirect T r j ost (usable T settings.reserve)
left_by settings T r j ost (Some o) = go (object_at T.objects o)
  where
    go : (y : ObjectRow) → Leaves T (reuse T.parents r j o y)
    go (unused b) = tt
    go (used x) = λ l. absurd (true≢false (sym l))

left_make : (T : Tables) (x : Object) (a : Option ℕ) → Leaves T (make_object x a)
unfolding Leaves make_object apply_writes apply_write put_object
left_make T x None = tt
left_make T x (Some o) = λ l k. left_same (row_at T.parents k)

-- BLANK, UNMATCHED and WRONG-OST are none of them
left_mend : (T : Tables) (c : Repair) → leaves_slots c ≡ false → (r j : ℕ) (f : OstFid) (n ost : ℕ) (a : Option ℕ) → Leaves T (mend_at T c r j f n ost a)
unfolding Leaves mend_at mend_object
left_mend T c other r j f n ost None = tt
left_mend T c other r j f n ost (Some o) = go (object_at T.objects o)
  where
    go : (y : ObjectRow) → Leaves T (mend_object T.parents c r j f n ost o y)
    go (unused b) = tt
    go (used x) = λ l. absurd (true≢false (sym l ∙ other))

-- OWNER comes after WRONG-OST: the index is right
owner_there : (p : Place) (there owned : Bool) (k : Option Place) → claim_class p there owned k ≡ OWNER → there ≡ true
unfolding claim_class claimed_class
owner_there p there owned None e = let z : ◌≡◌ {A = ℕ} 0 1 = cc in absurd (omega arith)
owner_there p there owned (Some q) e = go (claims (Some q) p) there e
  where
    go : (b t : Bool) → cond b (cond t (cond owned CLEAN OWNER) WRONG-OST) (UNMATCHED q.file q.index) ≡ OWNER → t ≡ true
    go false t d = let z : ◌≡◌ {A = ℕ} 0 1 = cc in absurd (omega arith)
    go true false d = let z : ◌≡◌ {A = ℕ} 0 1 = cc in absurd (omega arith)
    go true true d = refl

mend_stays : (T : Tables) (right index : Bool) (o : ℕ) (x : Object) (w : Write) → index ≡ true →
    Stay T.parents (apply_writes (cond right Nothing (PutObject o x)) (cond index Nothing w) Nothing T).parents
unfolding apply_writes apply_write put_object
mend_stays T true true o x w e = λ k. left_same (row_at T.parents k)
mend_stays T false true o x w e = λ k. left_same (row_at T.parents k)
mend_stays T right false o x w e = absurd (true≢false (sym e))

left_owner : (T : Tables) (r j : ℕ) (f : OstFid) (n ost : ℕ) → slot_class_of T r j (Names f n ost) ≡ OWNER →
    Leaves T (mend_at T OfOwner r j f n ost (object_row T.objects f))
unfolding Leaves mend_at mend_object mend_write index_write slot_class_of keeper_class object_of object_in_row object_in object_at
left_owner T r j f n ost = go (is_place (keeper T f) r j) (object_row T.objects f)
  where
    home : Place
    home = place_of (row_at T.parents r) j

    owner : Owner
    owner = owner_of (row_at T.parents r)

    object : (o : ℕ) (y : ObjectRow) → keeper_class home ost owner (object_in y) ≡ OWNER → Leaves T (mend_object T.parents OfOwner r j f n ost o y)
    object o (unused b) d = tt
    object o (used x) d = λ l.
        mend_stays T (claims x.claim home && same_owner x.owner owner) (eqb x.ost ost) o (mended T.parents r j x) (PutSlot r j (Names f n x.ost))
        (owner_there home (eqb x.ost ost) (same_owner x.owner owner) x.claim d)

    go : (b : Bool) (a : Option ℕ) → cond b (keeper_class home ost owner (object_in_row T.objects a)) MULTIPLE ≡ OWNER → Leaves T (mend_at T OfOwner r j f n ost a)
    go false a e = let z : ◌≡◌ {A = ℕ} 0 1 = cc in absurd (omega arith)
    go true None e = tt
    go true (Some o) e = object o (object_at T.objects o) e

left_slot : (settings : Settings) (T : Tables) (r j : ℕ) (f : OstFid) (n ost : ℕ) (c : SlotClass) → slot_class_of T r j (Names f n ost) ≡ c →
    Leaves T (repair_slot settings T r j f n ost c)
unfolding repair_slot leaves_slots
left_slot settings T r j f n ost HOLE e = left_rests T
left_slot settings T r j f n ost MULTIPLE e = left_when T (creates settings.policy) _ (left_by settings T r j ost (reusable T r j))
left_slot settings T r j f n ost DANGLING e = left_when T (creates settings.policy) _ (left_make T (new_object T.parents f r j ost) (free_object T.objects))
left_slot settings T r j f n ost BLANK e = left_mend T OfBlank refl r j f n ost (object_row T.objects f)
left_slot settings T r j f n ost (UNMATCHED g i) e = left_mend T OfUnmatched refl r j f n ost (object_row T.objects f)
left_slot settings T r j f n ost WRONG-OST e = left_mend T OfWrongOst refl r j f n ost (object_row T.objects f)
left_slot settings T r j f n ost OWNER e = left_owner T r j f n ost e
left_slot settings T r j f n ost CLEAN e = left_rests T

-- ## Objects

left_adopt : (T : Tables) (o : ℕ) (x : Object) (p : Place) (v : Way) → Leaves T (adopt_by T o x p v)
unfolding Leaves adopt_by make_parent leaves_slots
left_adopt T o x p NoWay = tt
left_adopt T o x p NewParent = go (free_parent T.parents)
  where
    go : (a : Option ℕ) → Leaves T (make_parent x p a)
    go None = tt
    go (Some r) = λ l. absurd (true≢false (sym l))
left_adopt T o x p (Fill r) = λ l. absurd (true≢false (sym l))
left_adopt T o x p (Grow r) = λ l. absurd (true≢false (sym l))
left_adopt T o x p (Take r) = λ l. absurd (true≢false (sym l))

left_object : (settings : Settings) (T : Tables) (o : ℕ) (x : Object) (c : ObjectClass) → Leaves T (repair_object settings T o x c)
unfolding repair_object adopt Leaves apply_writes apply_write put_object
left_object settings T o x UNUSED = tt
left_object settings T o x KEPT = tt
left_object settings T o x SPARE = tt
left_object settings T o x EMPTY = left_when T (adopts settings.policy) _ (λ l k. left_same (row_at T.parents k))
left_object settings T o x ORPHAN = left_when T (adopts settings.policy) _ (go x.claim)
  where
    go : (k : Option Place) → Leaves T (adopt T o x k)
    go None = tt
    go (Some p) = left_adopt T o x p (way T p)
left_object settings T o x CONFLICT = tt

-- ## Every step

left_at : (settings : Settings) (T : Tables) (p : Position) → Leaves T (step_at settings T p)
unfolding step_at part_step slot_step object_step slot_class
left_at settings T p = go (eqb p.stage 1) (eqb p.stage 2)
  where
    slot : (r j : ℕ) (s : Slot) → slot_at T.parents r j ≡ s → Leaves T (slot_step settings T r j s)
    slot r j Hole e = left_rests T
    slot r j (Names f n ost) e =
        left_slot settings T r j f n ost (slot_class_of T r j (slot_at T.parents r j)) (ap (slot_class_of T r j) (sym e))

    part : (r m : ℕ) → Leaves T (part_step settings T r m)
    part r zero = left_header T r (header_class (row_at T.parents r))
    part r (suc j) = slot r j (slot_at T.parents r j) refl

    object : (o : ℕ) (y : ObjectRow) → Leaves T (object_step settings T o y)
    object o (unused b) = left_rests T
    object o (used x) = left_object settings T o x (object_class T o)

    go : (a b : Bool) → Leaves T (cond a (part_step settings T p.row p.part) (cond b (object_step settings T p.row (object_at T.objects p.row)) rests))
    go true b = part p.row p.part
    go false true = object p.row (object_at T.objects p.row)
    go false false = left_rests T

pub left_step : (settings : Settings) (T : Tables) (p : Position) → LeftStep settings T p
unfolding LeftStep Leaves
left_step settings T p c a b e q = subst (Leaves T) q (left_at settings T p)
