-- The generations of the layouts, over a step and over a run. Document 02, 2026-05.
use Rattle.std.specs.Prelude.{ℕ, zero, suc, ◌+◌, ◌%◌, ◌<◌, ◌≡◌, Bool, true, false, cond, List}
use Rattle.layout.specs.Slot.{same_slots}
use Rattle.layout.specs.Layout.{generations, generation_with}
use Rattle.tables.specs.Records.{Parent, ParentRow, unused, used, Tables}
use Rattle.tables.specs.Positions.{slots_of, row_at, is_end, next}
use Rattle.tables.specs.declared.Position.{Position}
use Rattle.rules.specs.Rows.{generation_in}
use Rattle.rules.specs.Repairs.{apply_writes}
use Rattle.rules.specs.declared.Repair.{Repair}
use Rattle.rules.specs.declared.Repair.TheVariants.{OfSelf, OfMultiple, OfDangling, OfBlank, OfUnmatched, OfOwner, OfEmpty, OfOrphan, OfWrongOst}
use Rattle.rules.specs.declared.Write.{Write}
use Rattle.rules.specs.declared.Step.{Step}
use Rattle.rules.specs.declared.Step.TheVariants.{Rests as rests, Repairs as repairs, Stops as stops}
use Rattle.rules.specs.Steps.{step_at}
use Rattle.rules.specs.Runs.{run, step_tables}
use Rattle.rules.specs.Settings.{Settings}

-- ## A step

-- a layout that exists goes on: its row stays used, and its generation is the one before, raised by one exactly where the slots or their
-- number differ
unfoldable pub GoesOn : ParentRow → ParentRow → Type 0
GoesOn v w =
    (p : Parent) → v ≡ used p →
    (q : Parent) × (w ≡ used q) × (q.layout.header.generation ≡ generation_with p.layout q.layout.slots)

-- "a made parent starts at 0": a row that wasn't used, and is
unfoldable pub Begins : ParentRow → ParentRow → Type 0
Begins v w = (b : List ℕ) → v ≡ unused b → (q : Parent) → w ≡ used q → q.layout.header.generation ≡ 0

-- "Every step that changes a slot or the slot count of an existing layout now raises that layout's generation by one", and no other does
unfoldable pub RaisedStep : Settings → Tables → Position → Type 0
RaisedStep settings T p =
    (r : ℕ) →
    GoesOn (row_at T.parents r) (row_at (step_tables (step_at settings T p) T).parents r)
    × Begins (row_at T.parents r) (row_at (step_tables (step_at settings T p) T).parents r)

-- "Mending the own id doesn't count": the repairs that leave all slots, and so all generations
unfoldable pub leaves_slots : Repair → Bool
leaves_slots OfSelf = true
leaves_slots OfMultiple = false
leaves_slots OfDangling = true
leaves_slots OfBlank = false
leaves_slots OfUnmatched = false
leaves_slots OfOwner = true
leaves_slots OfEmpty = true
leaves_slots OfOrphan = false
leaves_slots OfWrongOst = false

-- a row with the slots and the generation that it had
unfoldable pub Left : ParentRow → ParentRow → Type 0
Left v w = (slots_of w ≡ slots_of v) × (generation_in w ≡ generation_in v)

-- a step that makes one of these repairs leaves every row so
unfoldable pub LeftStep : Settings → Tables → Position → Type 0
LeftStep settings T p =
    (c : Repair) (a b e : Write) → step_at settings T p ≡ repairs c a b e → leaves_slots c ≡ true →
    (r : ℕ) → Left (row_at T.parents r) (row_at (apply_writes a b e T).parents r)

-- whether row r has other slots, or another number of them: 1 or 0
unfoldable pub restripes : ℕ → Tables → Tables → ℕ
restripes r T S = cond (same_slots (slots_of (row_at T.parents r)) (slots_of (row_at S.parents r))) 0 1

-- the repairs that change a slot or the slot count whenever they are made
unfoldable pub changes_slots : Repair → Bool
changes_slots OfSelf = false
changes_slots OfMultiple = true
changes_slots OfDangling = false
changes_slots OfBlank = false
changes_slots OfUnmatched = false
changes_slots OfOwner = false
changes_slots OfEmpty = false
changes_slots OfOrphan = true
changes_slots OfWrongOst = true

-- a step that makes one of these leaves some row with other slots, or another number of them
unfoldable pub ChangedStep : Settings → Tables → Position → Type 0
ChangedStep settings T p =
    (c : Repair) (a b e : Write) → step_at settings T p ≡ repairs c a b e → changes_slots c ≡ true →
    (r : ℕ) × (restripes r T (apply_writes a b e T) ≡ 1)

-- ## A run

-- one step's, and those of the steps that follow it
unfoldable pub restripes_from : ℕ → Tables → (Tables → ℕ) → Step → ℕ
restripes_from r T go rests = go T
restripes_from r T go (repairs c a b e) = restripes r T (apply_writes a b e T) + go (apply_writes a b e T)
restripes_from r T go (stops a) = 0

-- how many steps of a run change row r's slots or their number
unfoldable pub restripings : Settings → ℕ → ℕ → Tables → Position → ℕ
restripings settings r zero T p = 0
restripings settings r (suc n) T p =
    cond (is_end p) 0 (restripes_from r T (λ S. restripings settings r n S (next S p)) (step_at settings T p))

-- after a run, a row that was used before it has the generation that it had and as many more, modulo 65,536
unfoldable pub RaisedRun : Settings → ℕ → Tables → Position → Type 0
RaisedRun settings n T p =
    (r : ℕ) (w : Parent) → row_at T.parents r ≡ used w → w.layout.header.generation < generations →
    (q : Parent) × (row_at (run settings n T p).tables.parents r ≡ used q)
    × (q.layout.header.generation ≡ (w.layout.header.generation + restripings settings r n T p) % generations)
