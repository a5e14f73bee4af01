-- A program that keeps its tables elsewhere: it asks `lfsck_step_writes` for the writes of a step, makes the step by `lfsck_run`, and stores the
-- rows that were named, one after the other. Document 02, 2026-09.
use Rattle.std.specs.Prelude.{ℕ, zero, suc, ◌*◌, ◌≡◌, List, [], ◌∷◌, take}
use Rattle.tables.specs.Bytes.{parent_size, object_size}
use Rattle.tables.specs.declared.Position.{Position}
use Rattle.theorems.specs.Calls.{Lent, ran, leaves, AtEnd, from_start, uncut}
use Rattle.theorems.specs.Promises.{Begins}
use Rattle.theorems.specs.Cuts.{copy_row, stored_all, step_targets, CutMended}
use Rattle.capi_writes.specs.Writes.{writes_answer, writes_out}

-- "table (0 parents, 1 objects) and row": that row as the tables u have it, stored in the tables t
unfoldable pub store_row : Lent → ℕ → ℕ → Lent → Lent
store_row u zero row t = record { parents = copy_row parent_size u.parents row t.parents; objects = t.objects }
store_row u (suc n) row t = record { parents = t.parents; objects = copy_row object_size u.objects row t.objects }

-- up to m rows, by table and row of each
unfoldable pub store_rows : Lent → ℕ → List ℕ → Lent → Lent
store_rows u zero l t = t
store_rows u (suc m) [] t = t
store_rows u (suc m) (table ∷ []) t = t
store_rows u (suc m) (table ∷ row ∷ l) t = store_rows u m l (store_row u table row t)

-- "how many writes, then three times table and row": the first m of those that are named, or all where they are fewer
unfoldable pub store_named : Lent → ℕ → List ℕ → Lent → Lent
store_named u m [] t = t
store_named u m (n ∷ l) t = store_rows u m (take (2 * n) l) t

-- where `lfsck_step_writes` answers 0, the rows that it names are the records of the step, in their order
unfoldable pub EveryNamed : Type 0
EveryNamed =
    (policy : ℕ) (reserve : List ℕ) (t : Lent) (p : Position) (out : List ℕ) → writes_answer t.parents t.objects reserve policy p out ≡ 0 →
    (u s : Lent) (m : ℕ) →
    store_named u m (writes_out t.parents t.objects reserve policy p out) s ≡ stored_all u (take m (step_targets policy reserve t p)) s

-- ## Cut off

-- what is asked after k steps, and its answer
unfoldable pub asks : ℕ → List ℕ → Lent → ℕ → List ℕ → ℕ
asks policy reserve t k out =
    let x = ran t (from_start policy reserve t k) in
    writes_answer x.parents x.objects reserve policy x.report.position out

-- what is handed out
unfoldable pub hears : ℕ → List ℕ → Lent → ℕ → List ℕ → List ℕ
hears policy reserve t k out =
    let x = ran t (from_start policy reserve t k) in
    writes_out x.parents x.objects reserve policy x.report.position out

-- the tables that are kept after k steps and m of the rows that the next one names
unfoldable pub keeps : ℕ → List ℕ → Lent → ℕ → ℕ → List ℕ → Lent
keeps policy reserve t k m out =
    store_named (leaves t (from_start policy reserve t (suc k))) m (hears policy reserve t k out) (leaves t (from_start policy reserve t k))

-- "A cut after any single write, then a run from the start .. ends with the tables of the uncut run, if that one reaches its end"
unfoldable pub EveryInPlace : Type 0
EveryInPlace =
    (policy : ℕ) (reserve : List ℕ) (t : Lent) → Begins policy reserve t → AtEnd (uncut policy reserve t) →
    (k m : ℕ) (out : List ℕ) → asks policy reserve t k out ≡ 0 → CutMended policy reserve t (keeps policy reserve t k m out)
