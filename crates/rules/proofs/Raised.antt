-- A step raises the generation of a layout that exists exactly where it changes the slots or their number; a run, as often. Assumes nothing.
use Prim.Native.Nat.{ℕ, zero, suc, ◌+◌, ◌%◌, ◌<◌}
use Rattle.refusals.specs.declared.Refusal.{Refusal}
use Rattle.refusals.specs.declared.Refusal.TheVariants.{NoReserve, NoObjectRow, NoParentRow}
use Rattle.std.specs.Prelude.{Option, Some, None}
use native.Mathlib.Omega.{arith}
use mathlib.Core.Path.{◌≡◌, refl, sym, ap, subst, ◌∙◌}
use mathlib.Core.Bool.{Bool, true, false, cond, ◌&&◌}
use mathlib.Core.List.{List, []}
use borrow.Author.Tests.{eqb-true}
use lib.Dec.{eqb}
use lib.ListN.{get_or}
use Rattle.fid.specs.declared.MdtFid.{MdtFid}
use Rattle.fid.specs.declared.OstFid.{OstFid}
use Rattle.layout.specs.Slot.{same_slots}
use Rattle.layout.specs.Layout.{last_generation, generations, next_generation, at_generation, generation_with, restriped, changed}
use Rattle.layout.specs.declared.Slot.{Slot}
use Rattle.layout.specs.declared.Slot.TheVariants.{Hole, Names}
use Rattle.layout.proofs.StripeLaws.{slots_self, generation_small}
use Rattle.tables.specs.Records.{Parent, ParentRow, ObjectRow, unused, used, Tables}
use Rattle.tables.specs.Positions.{slots_of, row_at, is_end, next}
use Rattle.tables.specs.declared.Owner.{Owner}
use Rattle.tables.specs.declared.Place.{Place}
use Rattle.tables.specs.declared.Object.{Object}
use Rattle.tables.specs.declared.Position.{Position}
use Rattle.rules.specs.Rows.{owner_of, generation_in, free_parent, slot_at, object_at, object_row, free_object, same_owner}
use Rattle.rules.specs.Places.{way, claims, place_of}
use Rattle.rules.specs.Classes.{header_class, slot_class, object_class}
use Rattle.rules.specs.Settings.{Settings, creates, adopts}
use Rattle.rules.specs.Repairs.{put_parent, put_object, apply_write, apply_writes, with_slots, with_slot, own_header, with_own, with_owner, grown, made, repair_header, usable, redirect_to, redirect, reusable, reuse, redirect_by, make_object, mended, mend_write, index_write, mend_object, mend_at, repair_slot, slot_for, owner_write, make_parent, destroy_at, destroy_named, adopt_by, adopt, repair_object}
use Rattle.rules.specs.Steps.{slot_step, part_step, object_step, step_at}
use Rattle.rules.specs.Runs.{Run, halt, after, on_step, run, step_tables}
use Rattle.rules.specs.Generations.{GoesOn, Begins, RaisedStep, restripes, restripes_from, restripings, RaisedRun}
use Rattle.rules.specs.declared.Way.{Way}
use Rattle.rules.specs.declared.Way.TheVariants.{NoWay, NewParent, Fill, Grow, Take}
use Rattle.rules.specs.declared.HeaderClass.{HeaderClass}
use Rattle.rules.specs.declared.HeaderClass.TheVariants.{UNUSED as UNUSED-PARENT, SELF, CLEAN as CLEAN-HEADER}
use Rattle.rules.specs.declared.SlotClass.{SlotClass}
use Rattle.rules.specs.declared.SlotClass.TheVariants.{HOLE, MULTIPLE, DANGLING, BLANK, UNMATCHED, WRONGOST as WRONG-OST, OWNER, CLEAN}
use Rattle.rules.specs.declared.ObjectClass.{ObjectClass}
use Rattle.rules.specs.declared.ObjectClass.TheVariants.{UNUSED, KEPT, SPARE, EMPTY, ORPHAN, CONFLICT}
use Rattle.rules.specs.declared.Repair.{Repair}
use Rattle.rules.specs.declared.Repair.TheVariants.{OfBlank, OfUnmatched, OfOwner, OfEmpty, OfWrongOst}
use Rattle.rules.specs.declared.Write.{Write}
use Rattle.rules.specs.declared.Write.TheVariants.{Nothing, Object as PutObject, Destroy, Own, Slot as PutSlot, Grow as GrowTo, Make}
use Rattle.rules.specs.declared.Step.{Step}
use Rattle.rules.specs.declared.Step.TheVariants.{Rests as rests, Repairs as repairs, Stops as stops}
use Rattle.rules.proofs.Lists.{set_pointwise}
use Rattle.rules.proofs.Theorem.{free_row_lem}

-- ## One row

abbrev Follows : ParentRow → ParentRow → Type 0
Follows v w = GoesOn v w × Begins v w

-- no row is both
apart : {X : Type 0} (v : ParentRow) (b : List ℕ) (q : Parent) → v ≡ unused b → v ≡ used q → X
apart v b q u e = let z : ◌≡◌ {A = ℕ} 0 1 = cc in absurd (omega arith)

goes_same : (w : ParentRow) → Follows w w
unfolding GoesOn Begins generation_with
goes_same w = (λ p e. (p, e, rw (slots_self p.layout.slots)), λ b u q e. apart w b q u e)

goes_with : (w : ParentRow) (ss : List Slot) (t : List ℕ) → Follows w (with_slots w ss t)
unfolding GoesOn Begins with_slots restriped at_generation
goes_with w ss t =
    let f : ParentRow → ParentRow = λ v. with_slots v ss t in (
      λ p e. (record { self = p.self; owner = p.owner; layout = restriped p.layout ss; tail = t }, ap f e, refl),
      λ b u q e. apart (with_slots w ss t) b q (ap f u) e,
    )

goes_slot : (w : ParentRow) (j : ℕ) (s : Slot) → Follows w (with_slot w j s)
unfolding GoesOn Begins with_slot changed restriped at_generation
goes_slot w j s =
    let f : ParentRow → ParentRow = λ v. with_slot v j s in (
      λ p e. (record { self = p.self; owner = p.owner; layout = changed p.layout j s; tail = p.tail }, ap f e, refl),
      λ b u q e. apart (with_slot w j s) b q (ap f u) e,
    )

goes_grown : (w : ParentRow) (i : ℕ) (s : Slot) → Follows w (grown w i s)
unfolding grown
goes_grown w i s = goes_with w _ _

-- "Mending the own id doesn't count"
goes_own : (w : ParentRow) → Follows w (with_own w)
unfolding GoesOn Begins with_own own_header generation_with
goes_own w = (
  λ p e. (
    record { self = p.self; owner = p.owner; layout = record { header = own_header p.layout.header p.self; pool = p.layout.pool; slots = p.layout.slots }; tail = p.tail },
    ap with_own e,
    rw (slots_self p.layout.slots),
  ),
  λ b u q e. apart (with_own w) b q (ap with_own u) e,
)

-- "a made parent starts at 0", in a row that wasn't used
goes_made : (v : ParentRow) (b : List ℕ) → v ≡ unused b → (f : MdtFid) (i : ℕ) (w : Owner) (s : Slot) (l : List ℕ) → Follows v (made f i w s l)
unfolding GoesOn Begins made generation_in
goes_made v b u f i w s l = (λ p e. apart v b p u e, λ c t q e. sym (ap generation_in e))

-- ## One write

abbrev Goes : List ParentRow → List ParentRow → Type 0
Goes rows more = (r : ℕ) → Follows (row_at rows r) (row_at more r)

goes_still : (rows : List ParentRow) → Goes rows rows
goes_still rows r = goes_same (row_at rows r)

goes_put : (T : Tables) (r : ℕ) (w : ParentRow) → Follows (row_at T.parents r) w → Goes T.parents (put_parent T r w).parents
unfolding row_at put_parent
goes_put T r w h k =
    set_pointwise T.parents r w (unused []) (λ v. Follows (get_or T.parents k (unused [])) v) k
    (λ e. rw e (goes_same (get_or T.parents r (unused [])))) (λ e. rw e h) (λ n. goes_same (get_or T.parents k (unused [])))

-- a write that leaves the parents alone
unfoldable pub Aside : Write → Type 0
Aside w = (T : Tables) → (apply_write T w).parents ≡ T.parents

pub aside_nothing : Aside Nothing
unfolding Aside apply_write
aside_nothing T = refl

aside_object : (o : ℕ) (x : Object) → Aside (PutObject o x)
unfolding Aside apply_write put_object
aside_object o x T = refl

aside_destroy : (o : ℕ) → Aside (Destroy o)
unfolding Aside apply_write put_object
aside_destroy o T = refl

aside_when : (b : Bool) (w : Write) → Aside w → Aside (cond b Nothing w)
aside_when true w h = aside_nothing
aside_when false w h = h

goes_nothing : (S : Tables) → Goes S.parents (apply_write S Nothing).parents
unfolding apply_write
goes_nothing S = goes_still S.parents

-- ## The writes of a step, at most one of them of a parent row

abbrev Raises : Tables → Step → Type 0
Raises T d = Goes T.parents (step_tables d T).parents

raises_rests : (T : Tables) → Raises T rests
unfolding step_tables
raises_rests T = goes_still T.parents

raises_stops : (T : Tables) (a : Refusal) → Raises T (stops a)
unfolding step_tables
raises_stops T a = goes_still T.parents

raises_when : (T : Tables) (b : Bool) (d : Step) → Raises T d → Raises T (cond b d rests)
raises_when T true d h = h
raises_when T false d h = raises_rests T

-- first a parent row
raises_first : (T : Tables) (c : Repair) (a b e : Write) → Goes T.parents (apply_write T a).parents → Aside b → Aside e → Raises T (repairs c a b e)
unfolding step_tables apply_writes Aside
raises_first T c a b e h p q = subst (Goes T.parents) (sym (q (apply_write (apply_write T a) b) ∙ p (apply_write T a))) h

-- first an object, then a parent row
raises_second : (T : Tables) (c : Repair) (a b : Write) → Aside a → ((S : Tables) → Goes S.parents (apply_write S b).parents) → Raises T (repairs c a b Nothing)
unfolding step_tables apply_writes Aside apply_write
raises_second T c a b p h = subst (λ (rows : List ParentRow). Goes rows (apply_write (apply_write T a) b).parents) (p T) (h (apply_write T a))

goes_at : (S : Tables) (r j : ℕ) (s : Slot) → Goes S.parents (apply_write S (PutSlot r j s)).parents
unfolding apply_write
goes_at S r j s = goes_put S r _ (goes_slot (row_at S.parents r) j s)

-- ## Headers and slots

raises_header : (T : Tables) (r : ℕ) (c : HeaderClass) → Raises T (repair_header T r c)
unfolding repair_header apply_write
raises_header T r UNUSED-PARENT = raises_rests T
raises_header T r CLEAN-HEADER = raises_rests T
raises_header T r SELF = raises_first T _ (Own r) Nothing Nothing (goes_put T r _ (goes_own (row_at T.parents r))) aside_nothing aside_nothing

raises_redirect : (T : Tables) (r j ost : ℕ) (u : Option OstFid) → Raises T (redirect T r j ost u)
unfolding redirect redirect_to
raises_redirect T r j ost None = raises_stops T NoReserve
raises_redirect T r j ost (Some f) = go (free_object T.objects)
  where
    go : (a : Option ℕ) → Raises T (redirect_to T.parents r j ost f a)
    go None = raises_stops T NoObjectRow
    go (Some o) = raises_second T _ _ _ (aside_object o _) (λ S. goes_at S r j _)

raises_reuse : (T : Tables) (r j o : ℕ) (y : ObjectRow) → Raises T (reuse T.parents r j o y)
unfolding reuse owner_write
raises_reuse T r j o (unused b) = raises_rests T
raises_reuse T r j o (used x) =
    let owner : Owner = owner_of (row_at T.parents r) in
    let new : Write = PutObject o (with_owner x owner) in
    raises_second T _ (cond (same_owner x.owner owner) Nothing new) _ (aside_when (same_owner x.owner owner) new (aside_object o (with_owner x owner))) (λ S. goes_at S r j _)

raises_by : (settings : Settings) (T : Tables) (r j ost : ℕ) (a : Option ℕ) → Raises T (redirect_by settings T r j ost a)
unfolding redirect_by
raises_by settings T r j ost None = raises_redirect T r j ost (usable T settings.reserve)
raises_by settings T r j ost (Some o) = raises_reuse T r j o (object_at T.objects o)

raises_make : (T : Tables) (x : Object) (a : Option ℕ) → Raises T (make_object x a)
unfolding make_object
raises_make T x None = raises_stops T NoObjectRow
raises_make T x (Some o) = raises_second T _ _ Nothing (aside_object o x) goes_nothing

raises_mend : (T : Tables) (c : Repair) (r j : ℕ) (f : OstFid) (n ost : ℕ) (a : Option ℕ) → Raises T (mend_at T c r j f n ost a)
unfolding mend_at mend_object mend_write index_write
raises_mend T c r j f n ost None = raises_rests T
raises_mend T c r j f n ost (Some o) = go (object_at T.objects o)
  where
    index : (b : Bool) (s : Slot) (S : Tables) → Goes S.parents (apply_write S (cond b Nothing (PutSlot r j s))).parents
    index true s S = goes_nothing S
    index false s S = goes_at S r j s

    go : (y : ObjectRow) → Raises T (mend_object T.parents c r j f n ost o y)
    go (unused b) = raises_rests T
    go (used x) =
        let row = row_at T.parents r in
        let right : Bool = claims x.claim (place_of row j) && same_owner x.owner (owner_of row) in
        let new : Write = PutObject o (mended T.parents r j x) in
        let index_is : Bool = eqb x.ost ost in
        raises_second T c (cond right Nothing new) (cond index_is Nothing (PutSlot r j (Names f n x.ost))) (aside_when right new (aside_object o (mended T.parents r j x)))
        (index index_is (Names f n x.ost))

raises_slot : (settings : Settings) (T : Tables) (r j : ℕ) (f : OstFid) (n ost : ℕ) (c : SlotClass) → Raises T (repair_slot settings T r j f n ost c)
unfolding repair_slot
raises_slot settings T r j f n ost HOLE = raises_rests T
raises_slot settings T r j f n ost MULTIPLE = raises_when T (creates settings.policy) _ (raises_by settings T r j ost (reusable T r j))
raises_slot settings T r j f n ost DANGLING = raises_when T (creates settings.policy) _ (raises_make T _ (free_object T.objects))
raises_slot settings T r j f n ost BLANK = raises_mend T OfBlank r j f n ost (object_row T.objects f)
raises_slot settings T r j f n ost (UNMATCHED g i) = raises_mend T OfUnmatched r j f n ost (object_row T.objects f)
raises_slot settings T r j f n ost WRONG-OST = raises_mend T OfWrongOst r j f n ost (object_row T.objects f)
raises_slot settings T r j f n ost OWNER = raises_mend T OfOwner r j f n ost (object_row T.objects f)
raises_slot settings T r j f n ost CLEAN = raises_rests T

-- ## Objects

pub aside_owner : (o : ℕ) (x : Object) (w : Owner) → Aside (owner_write o x w)
unfolding owner_write
aside_owner o x w = aside_when (same_owner x.owner w) _ (aside_object o (with_owner x w))

pub aside_named : (rows : List ObjectRow) (s : Slot) → Aside (destroy_named rows s)
unfolding destroy_named destroy_at
aside_named rows Hole = aside_nothing
aside_named rows (Names g n i) = go (object_row rows g)
  where
    go : (a : Option ℕ) → Aside (destroy_at a)
    go None = aside_nothing
    go (Some o) = aside_destroy o

raises_parent : (T : Tables) (x : Object) (p : Place) (a : Option ℕ) → free_parent T.parents ≡ a → Raises T (make_parent x p a)
unfolding make_parent apply_write
raises_parent T x p None e = raises_stops T NoParentRow
raises_parent T x p (Some r) e =
    let free = free_row_lem T r e in
    raises_first T _ (Make r p.file x.owner p.index (slot_for x)) Nothing Nothing
    (goes_put T r _ (goes_made (row_at T.parents r) free.0.0 free.0.1 _ _ _ _ _)) aside_nothing aside_nothing

raises_adopt : (T : Tables) (o : ℕ) (x : Object) (p : Place) (v : Way) → Raises T (adopt_by T o x p v)
unfolding adopt_by apply_write
raises_adopt T o x p NoWay = raises_rests T
raises_adopt T o x p NewParent = raises_parent T x p (free_parent T.parents) refl
raises_adopt T o x p (Fill r) = raises_first T _ (PutSlot r _ _) _ _ (goes_at T r _ _) (aside_owner o x _) aside_nothing
raises_adopt T o x p (Grow r) =
    raises_first T _ (GrowTo r _ _) _ _ (goes_put T r _ (goes_grown (row_at T.parents r) _ _)) (aside_owner o x _) aside_nothing
raises_adopt T o x p (Take r) = raises_first T _ (PutSlot r _ _) _ _ (goes_at T r _ _) (aside_owner o x _) (aside_named T.objects _)

raises_object : (settings : Settings) (T : Tables) (o : ℕ) (x : Object) (c : ObjectClass) → Raises T (repair_object settings T o x c)
unfolding repair_object adopt apply_write put_object
raises_object settings T o x UNUSED = raises_rests T
raises_object settings T o x KEPT = raises_rests T
raises_object settings T o x SPARE = raises_rests T
raises_object settings T o x EMPTY = raises_when T (adopts settings.policy) _ (raises_first T OfEmpty (Destroy o) Nothing Nothing (goes_still T.parents) aside_nothing aside_nothing)
raises_object settings T o x ORPHAN = raises_when T (adopts settings.policy) _ (go x.claim)
  where
    go : (k : Option Place) → Raises T (adopt T o x k)
    go None = raises_rests T
    go (Some p) = raises_adopt T o x p (way T p)
raises_object settings T o x CONFLICT = raises_rests T

-- ## Every step

pub raised_step : (settings : Settings) (T : Tables) (p : Position) → RaisedStep settings T p
unfolding RaisedStep step_at part_step slot_step object_step
raised_step settings T p = go (eqb p.stage 1) (eqb p.stage 2)
  where
    slot : (r j : ℕ) (s : Slot) → Raises T (slot_step settings T r j s)
    slot r j Hole = raises_rests T
    slot r j (Names f n ost) = raises_slot settings T r j f n ost (slot_class T r j)

    part : (r m : ℕ) → Raises T (part_step settings T r m)
    part r zero = raises_header T r (header_class (row_at T.parents r))
    part r (suc j) = slot r j (slot_at T.parents r j)

    object : (o : ℕ) (y : ObjectRow) → Raises T (object_step settings T o y)
    object o (unused b) = raises_rests T
    object o (used x) = raises_object settings T o x (object_class T o)

    go : (a b : Bool) →
        Raises T (cond a (part_step settings T p.row p.part) (cond b (object_step settings T p.row (object_at T.objects p.row)) rests))
    go true b = part p.row p.part
    go false true = object p.row (object_at T.objects p.row)
    go false false = raises_rests T

-- ## Every run

-- one more, or none, and then as many as follow
onward : (g k : ℕ) (b : Bool) → g < generations → (cond b g (next_generation g) + k) % generations ≡ (g + (cond {A = ℕ} b 0 1 + k)) % generations
unfolding next_generation
onward g k true h = omega arith
onward g k false h = go (eqb g last_generation) refl
  where
    go : (b : Bool) → eqb g last_generation ≡ b → (cond b 0 (g + 1) + k) % generations ≡ (g + (1 + k)) % generations
    go true e = let q = eqb-true g last_generation e in omega arith
    go false e = omega arith

pub raised_run : (settings : Settings) (n : ℕ) (T : Tables) (p : Position) → RaisedRun settings n T p
unfolding RaisedRun RaisedStep GoesOn run restripings restripes_from restripes halt on_step after step_tables generation_with slots_of
raised_run settings zero T p r w e h = (w, e, omega arith)
raised_run settings (suc n) T p r w e h = go (is_end p) (step_at settings T p) ((raised_step settings T p r).0 w e) (λ S. raised_run settings n S (next S p) r)
  where
    Result : Run → ℕ → Type 0
    Result x k = (q : Parent) × (row_at x.tables.parents r ≡ used q) × (q.layout.header.generation ≡ (w.layout.header.generation + k) % generations)

    go : (b : Bool) (d : Step) →
        (q : Parent) × (row_at (step_tables d T).parents r ≡ used q) × (q.layout.header.generation ≡ generation_with w.layout q.layout.slots) →
        ((S : Tables) (v : Parent) → row_at S.parents r ≡ used v → v.layout.header.generation < generations →
        (q : Parent) × (row_at (run settings n S (next S p)).tables.parents r ≡ used q)
        × (q.layout.header.generation ≡ (v.layout.header.generation + restripings settings r n S (next S p)) % generations)) →
        Result (cond b (halt T p 0) (on_step T p (λ S. run settings n S (next S p)) d))
        (cond b 0 (restripes_from r T (λ S. restripings settings r n S (next S p)) d))
    go true d s ih = (w, e, omega arith)
    go false rests s ih = ih T w e h
    go false (stops a) s ih = (w, e, omega arith)
    go false (repairs c x y z) s ih =
        let S : Tables = apply_writes x y z T in
        let q = s.0 in
        let g : ℕ = w.layout.header.generation in
        let k : ℕ = restripings settings r n S (next S p) in
        let small : q.layout.header.generation < generations = rw s.2 (generation_small w.layout q.layout.slots h) in
        let rest = ih S q s.1 small in
        (rest.0, rest.1, rest.2 ∙ rw (s.2, e, s.1) (onward g k (same_slots w.layout.slots q.layout.slots) h))
