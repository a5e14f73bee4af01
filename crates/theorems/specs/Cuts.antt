-- A cut between two writes, on the lent bytes: as a program sees it that keeps its tables elsewhere and stores one record after the other.
-- Document 02, 2026-09.
use Rattle.std.specs.Prelude.{ℕ, suc, ◌*◌, ◌≤◌, ◌≡◌, take, drop, replicate}
use mathlib.Core.List.{List, [], ◌∷◌, Memᴰ}
use Rattle.std.proofs.lemmas.List.Edits.{sets}
use Rattle.wire.specs.Numbers.{Bytes}
use Rattle.tables.specs.Bytes.{parent_size, object_size}
use Rattle.tables.specs.Check.{Sound}
use Rattle.tables.specs.Positions.{count_steps}
use Rattle.tables.specs.declared.Position.{Position}
use Rattle.rules.specs.Steps.{step_at}
use Rattle.rules.specs.Settings.{settings_of}
use Rattle.rules.specs.Cuts.{Target, object_record, destroyed_record, parent_record, targets, InOrder}
use Rattle.theorems.specs.Calls.{Lent, tables_of, call, Accepted, ran, left, leaves, AtEnd, from_start, uncut}
use Rattle.theorems.specs.Promises.{Begins}

-- ## Whole-record writes

-- row i of the table u, in rows of one size, copied over row i of the table l
unfoldable pub copy_row : ℕ → List ℕ → ℕ → List ℕ → List ℕ
copy_row size u i l = sets l (size * i) (take size (drop (size * i) u))

-- "whole-record writes (one object row, or one parent row with its layout)": the record x as it stands in the tables u, stored in the tables t
unfoldable pub stored : Lent → Target → Lent → Lent
stored u (object_record o) t = record { parents = t.parents; objects = copy_row object_size u.objects o t.objects }
stored u (destroyed_record o) t = record { parents = t.parents; objects = copy_row object_size u.objects o t.objects }
stored u (parent_record r) t = record { parents = copy_row parent_size u.parents r t.parents; objects = t.objects }

-- "an ordered list" of them
unfoldable pub stored_all : Lent → List Target → Lent → Lent
stored_all u [] t = t
stored_all u (x ∷ xs) t = stored_all u xs (stored u x t)

-- the records that the step at a position writes
unfoldable pub step_targets : ℕ → List ℕ → Lent → Position → List Target
step_targets policy reserve t p = targets (step_at (settings_of policy reserve) (tables_of t) p)

-- the step at position p of tables t
pub record StepStored (policy : ℕ) (reserve : List ℕ) (t : Lent) (p : Position) : Type 0 where
  -- "when an orphan takes a place the layout, then the orphan's owner, then the destroyed row; in every other step the object, then the layout"
  pub ordered : InOrder p.row (step_at (settings_of policy reserve) (tables_of t) p)
  -- its records, stored in order, make the tables that it leaves: no other has changed
  pub whole : stored_all (leaves t (call policy reserve 1 p)) (step_targets policy reserve t p) t ≡ leaves t (call policy reserve 1 p)
  -- "unchanged records are left out": to store any one of them changes the tables
  pub needed : (x : Target) → Memᴰ x (step_targets policy reserve t p) → stored (leaves t (call policy reserve 1 p)) x t ≡ t → ⊥
  -- "A destroyed row becomes zero throughout"
  pub zeroed : (o : ℕ) → Memᴰ (destroyed_record o) (step_targets policy reserve t p) →
      take object_size (drop (object_size * o) (leaves t (call policy reserve 1 p)).objects) ≡ replicate object_size 0

-- of each step of a call that isn't refused
unfoldable pub EveryStored : Type 0
EveryStored =
    (policy : ℕ) (reserve : List ℕ) (t : Lent) (p : Position) → Bytes t.parents → Bytes t.objects → Bytes reserve →
    Accepted t (call policy reserve 1 p) → StepStored policy reserve t p

-- ## A cut

-- the records that the step after k steps of the uncut run writes
unfoldable pub next_targets : ℕ → List ℕ → ℕ → Lent → List Target
next_targets policy reserve k t =
    let x = ran t (from_start policy reserve t k) in
    step_targets policy reserve (left x) x.report.position

-- "A cut after any single write": the tables after k steps, and then the first m records of the next step stored as it leaves them
unfoldable pub cut_at : ℕ → List ℕ → ℕ → ℕ → Lent → Lent
cut_at policy reserve k m t =
    stored_all (leaves t (from_start policy reserve t (suc k))) (take m (next_targets policy reserve k t)) (leaves t (from_start policy reserve t k))

-- c are the tables at a cut of the uncut run over t
pub record CutMended (policy : ℕ) (reserve : List ℕ) (t c : Lent) : Type 0 where
  -- they pass the check
  pub sound : Sound c.parents c.objects
  -- "then a run from the start with the same policy and reserve and enough steps, ends with the tables of the uncut run": it is accepted, reaches
  -- the end, answers 0, and leaves them byte for byte
  pub ends : (n : ℕ) → count_steps (tables_of c) ≤ n →
      Accepted c (from_start policy reserve c n)
      × AtEnd (ran c (from_start policy reserve c n))
      × ((ran c (from_start policy reserve c n)).report.answer ≡ 0)
      × (leaves c (from_start policy reserve c n) ≡ left (uncut policy reserve t))

-- "if that one reaches its end": where the uncut run stops, nothing is said
unfoldable pub EveryCut : Type 0
EveryCut =
    (policy : ℕ) (reserve : List ℕ) (t : Lent) → Begins policy reserve t → AtEnd (uncut policy reserve t) →
    (k m : ℕ) → CutMended policy reserve t (cut_at policy reserve k m t)

-- ## Cuts after cuts

-- a cut of a run from the start: after so many steps, and so many records of the next
pub record Cut : Type 0 where
  pub steps : ℕ
  pub writes : ℕ

-- the run that is to mend a cut is cut too, and so on
unfoldable pub cuts_at : ℕ → List ℕ → List Cut → Lent → Lent
cuts_at policy reserve [] t = t
cuts_at policy reserve (c ∷ cs) t = cuts_at policy reserve cs (cut_at policy reserve c.steps c.writes t)

-- the next run with enough steps ends with the first one's tables
unfoldable pub EveryCuts : Type 0
EveryCuts =
    (policy : ℕ) (reserve : List ℕ) (t : Lent) (cs : List Cut) → Begins policy reserve t → AtEnd (uncut policy reserve t) →
    CutMended policy reserve t (cuts_at policy reserve cs t)
