-- The writes of a step as numbers: what its export hands out. Document 02, 2026-09.
use Rattle.refusals.specs.Numbers.{number}
use Rattle.std.specs.Prelude.{ℕ, ◌+◌, ◌*◌, List, [], ◌∷◌, ◌++◌, cond, eqb, ltb, length, take, replicate}
use Rattle.std.proofs.lemmas.List.Edits.{sets}
use Rattle.tables.specs.Check.{check_number}
use Rattle.tables.specs.Positions.{is_end}
use Rattle.tables.specs.declared.Position.{Position}
use Rattle.rules.specs.Cuts.{Target, object_record, destroyed_record, parent_record, targets}
use Rattle.rules.specs.declared.Step.{Step}
use Rattle.rules.specs.declared.Step.TheVariants.{Rests, Repairs, Stops}
use Rattle.repair.specs.StepBytes.{step_of}

-- "three times table and row"
abbrev pub most_writes : ℕ
most_writes = 3

-- "7 numbers": how many writes, and two for each
abbrev pub writes_size : ℕ
writes_size = 1 + 2 * most_writes

-- "table (0 parents, 1 objects)"
unfoldable pub table_of : Target → ℕ
table_of (object_record o) = 1
table_of (destroyed_record o) = 1
table_of (parent_record r) = 0

-- "and row"
unfoldable pub row_of : Target → ℕ
row_of (object_record o) = o
row_of (destroyed_record o) = o
row_of (parent_record r) = r

unfoldable pub row_numbers : List Target → List ℕ
row_numbers [] = []
row_numbers (t ∷ l) = table_of t ∷ row_of t ∷ row_numbers l

-- "how many writes, then three times table and row; unused places 0"
unfoldable pub writes_numbers : List Target → List ℕ
writes_numbers l = length l ∷ take (2 * most_writes) (row_numbers l ++ replicate (2 * most_writes) 0)

-- ## The answer

unfoldable pub step_number : Step → ℕ
step_number Rests = 0
step_number (Repairs c x y z) = 0
step_number (Stops e) = number e

-- "at the end it is 16, and a short out is 17, before 21 to 23"
unfoldable pub writes_answer : List ℕ → List ℕ → List ℕ → ℕ → Position → List ℕ → ℕ
writes_answer parents objects reserve policy at out =
    cond (eqb (check_number parents objects reserve policy at) 0)
    (cond (is_end at) 16 (cond (ltb (length out) writes_size) 17 (step_number (step_of parents objects reserve policy at))))
    (check_number parents objects reserve policy at)

-- ## What is handed out

-- with 21 to 23 nothing
unfoldable pub told : Step → List ℕ → List ℕ
told Rests out = sets out 0 (writes_numbers (targets Rests))
told (Repairs c x y z) out = sets out 0 (writes_numbers (targets (Repairs c x y z)))
told (Stops e) out = out

unfoldable pub writes_out : List ℕ → List ℕ → List ℕ → ℕ → Position → List ℕ → List ℕ
writes_out parents objects reserve policy at out =
    cond (eqb (check_number parents objects reserve policy at) 0)
    (cond (is_end at) out (cond (ltb (length out) writes_size) out (told (step_of parents objects reserve policy at) out)))
    out
