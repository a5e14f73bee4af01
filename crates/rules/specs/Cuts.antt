-- The writes of a step, and a cut between two of them. Document 02, 2026-09.
use Rattle.std.specs.Prelude.{ℕ, zero, suc, ◌≤◌, ◌<◌, ◌≡◌, true, false, List, [], ◌∷◌, ◌++◌, ◌⊎◌}
use Rattle.std.specs.Prelude.{Some}
use Rattle.layout.specs.declared.Slot.TheVariants.{Names}
use Rattle.tables.specs.Records.{used, Tables}
use Rattle.tables.specs.Positions.{row_at, place, start, count_steps}
use Rattle.tables.specs.declared.Object.{Object}
use Rattle.rules.specs.Rows.{owner_of, names_at, object_at}
use Rattle.rules.specs.Places.{place_of}
use Rattle.rules.specs.Repairs.{apply_write, apply_writes, owner_write, usable, redirect}
use Rattle.rules.specs.declared.Write.{Write}
use Rattle.rules.specs.declared.Write.TheVariants.{Nothing, Object as PutObject, Destroy, Own, Slot as PutSlot, Grow as GrowTo, Make}
use Rattle.rules.specs.declared.Repair.{Repair}
use Rattle.rules.specs.declared.Repair.TheVariants.{OfSelf, OfMultiple, OfDangling, OfBlank, OfUnmatched, OfOwner, OfEmpty, OfOrphan, OfWrongOst}
use Rattle.rules.specs.declared.Step.{Step}
use Rattle.rules.specs.declared.Step.TheVariants.{Rests as rests, Repairs as repairs, Stops as stops}
use Rattle.rules.specs.Steps.{step_at}
use Rattle.rules.specs.Runs.{run}
use Rattle.rules.specs.Settings.{Settings}
use Rattle.rules.specs.Promises.{Distinct, uncut, Ended}

-- ## A redirect

-- row o holds "the first unreferenced fresh object that claims this very slot", slot j of row r: object x
pub record Reused (T : Tables) (r j o : ℕ) (x : Object) : Type 0 where
  pub there : object_at T.objects o ≡ used x
  pub fresh : x.fresh ≡ true
  pub claim : x.claim ≡ Some (place_of (row_at T.parents r) j)
  pub unnamed : (k i : ℕ) → names_at T.parents x.fid k i ≡ false
  -- none before it is one
  pub first : (q : ℕ) (y : Object) → q < o → object_at T.objects q ≡ used y → y.fresh ≡ true → y.claim ≡ Some (place_of (row_at T.parents r) j) →
      ((k i : ℕ) → names_at T.parents y.fid k i ≡ false) → ⊥

-- of a slot that is MULTIPLE, with create
pub record Redirects (settings : Settings) (T : Tables) (r j ost : ℕ) : Type 0 where
  -- "Before taking from the reserve, a redirect uses" it, "writes its owner and gives the slot its FID, generation 0 and its OST index"
  pub reused : (o : ℕ) (x : Object) → Reused T r j o x →
      step_at settings T (place 1 r (suc j)) ≡ repairs OfMultiple (owner_write o x (owner_of (row_at T.parents r))) (PutSlot r j (Names x.fid 0 x.ost)) Nothing
  -- "only without one can a redirect meet 21 or 22": it takes from the reserve
  pub taken : ((o : ℕ) (x : Object) → Reused T r j o x → ⊥) → step_at settings T (place 1 r (suc j)) ≡ redirect T r j ost (usable T settings.reserve)

-- ## The writes of a step

-- a write is left out, or changes the tables that it is made in
unfoldable pub Changes : Tables → Write → Type 0
Changes T w = (w ≡ Nothing) ⊎ (apply_write T w ≡ T → ⊥)

-- "an ordered list of whole-record writes", "unchanged records are left out": each write changes the tables as those before it left them, and
-- all of them together do
unfoldable pub EachChanges : Tables → Step → Type 0
EachChanges T rests = Unit {0}
EachChanges T (repairs k a b c) =
    Changes T a × Changes (apply_write T a) b × Changes (apply_write (apply_write T a) b) c × (apply_writes a b c T ≡ T → ⊥)
EachChanges T (stops n) = Unit {0}

-- ## The order of a step's writes

-- what is written: "one object row, or one parent row with its layout"
pub data Target : Type 0 where
  object_record : ℕ → Target
  destroyed_record : ℕ → Target
  parent_record : ℕ → Target

-- a write that is left out is of none
unfoldable pub target : Write → List Target
target Nothing = []
target (PutObject o x) = object_record o ∷ []
target (Destroy o) = destroyed_record o ∷ []
target (Own r) = parent_record r ∷ []
target (PutSlot r j s) = parent_record r ∷ []
target (GrowTo r i s) = parent_record r ∷ []
target (Make r f w i s) = parent_record r ∷ []

-- "Give each step as an ordered list of whole-record writes": the records that are written, of a step that rests or stops none
unfoldable pub targets : Step → List Target
targets rests = []
targets (repairs k a b c) = target a ++ target b ++ target c
targets (stops n) = []

-- "when an orphan takes a place the layout, then the orphan's owner, then the destroyed row", which is another: the orphan's row is o
pub data LayoutFirst (o : ℕ) : List Target → Type 0 where
  placed_alone : {r : ℕ} → LayoutFirst o (parent_record r ∷ [])
  placed_owned : {r : ℕ} → LayoutFirst o (parent_record r ∷ object_record o ∷ [])
  placed_emptied : {r k : ℕ} → (k ≡ o → ⊥) → LayoutFirst o (parent_record r ∷ destroyed_record k ∷ [])
  placed_both : {r k : ℕ} → (k ≡ o → ⊥) → LayoutFirst o (parent_record r ∷ object_record o ∷ destroyed_record k ∷ [])

-- "in every other step the object, then the layout"
pub data ObjectFirst : List Target → Type 0 where
  object_alone : {o : ℕ} → ObjectFirst (object_record o ∷ [])
  destroyed_alone : {o : ℕ} → ObjectFirst (destroyed_record o ∷ [])
  layout_alone : {r : ℕ} → ObjectFirst (parent_record r ∷ [])
  object_layout : {o r : ℕ} → ObjectFirst (object_record o ∷ parent_record r ∷ [])

unfoldable pub OrderFor : ℕ → Repair → List Target → Type 0
OrderFor o OfSelf l = ObjectFirst l
OrderFor o OfMultiple l = ObjectFirst l
OrderFor o OfDangling l = ObjectFirst l
OrderFor o OfBlank l = ObjectFirst l
OrderFor o OfUnmatched l = ObjectFirst l
OrderFor o OfOwner l = ObjectFirst l
OrderFor o OfEmpty l = ObjectFirst l
OrderFor o OfOrphan l = LayoutFirst o l
OrderFor o OfWrongOst l = ObjectFirst l

-- the list of the step at row o stands in that order, no record twice and at least one; and it is empty of a step that repairs nothing
unfoldable pub InOrder : ℕ → Step → Type 0
InOrder o rests = targets rests ≡ []
InOrder o (repairs k a b c) = OrderFor o k (targets (repairs k a b c))
InOrder o (stops n) = targets (stops n) ≡ []

-- ## A cut between two writes

-- the tables after the first m of three writes
unfoldable pub first_writes : ℕ → Write → Write → Write → Tables → Tables
first_writes zero a b c T = T
first_writes (suc zero) a b c T = apply_write T a
first_writes (suc (suc zero)) a b c T = apply_write (apply_write T a) b
first_writes (suc (suc (suc m))) a b c T = apply_writes a b c T

-- and of a step's
unfoldable pub cut_step : ℕ → Step → Tables → Tables
cut_step m rests T = T
cut_step m (repairs k a b c) T = first_writes m a b c T
cut_step m (stops n) T = T

-- the tables after k steps of the uncut run and the first m writes of the next one
unfoldable pub cut_tables : Settings → ℕ → ℕ → Tables → Tables
cut_tables settings k m T =
    let x = run settings k T (start T) in
    cut_step m (step_at settings x.tables x.report.position) x.tables

-- "A cut after any single write, then a run from the start with the same policy and reserve and enough steps, ends with the tables of the
-- uncut run": C are the tables at the cut, and T those of the start
pub record CutMended (settings : Settings) (T C : Tables) : Type 0 where
  -- no FID has come to stand twice
  pub distinct : Distinct C
  pub ends : (n : ℕ) → count_steps C ≤ n → let x = run settings n C (start C) in
      Ended x × (x.report.answer ≡ 0) × (x.tables ≡ (uncut settings T).tables)

-- "if that one reaches its end": where it stops, nothing is said
unfoldable pub CutsMended : Settings → Tables → Type 0
CutsMended settings T = Ended (uncut settings T) → (k m : ℕ) → CutMended settings T (cut_tables settings k m T)
