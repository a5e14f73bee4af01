-- Positions, start and step count as numbers: what their exports take and hand out.
use Rattle.std.specs.Prelude.{ℕ, List, [], ◌∷◌, cond, eqb, length, get_or, Result, Ok, Err}
use Rattle.refusals.specs.declared.Refusal.{Refusal}
use Rattle.tables.specs.Positions.{place}
use Rattle.tables.specs.declared.Position.{Position}

-- "stage, row, part"
unfoldable pub position_numbers : Position → List ℕ
position_numbers p = p.stage ∷ p.row ∷ p.part ∷ []

-- three numbers; another amount is a position that doesn't exist
unfoldable pub position_given : List ℕ → Position
position_given l = cond (eqb (length l) 3) (place (get_or l 0 0) (get_or l 1 0) (get_or l 2 0)) (place 0 0 0)

unfoldable pub start_numbers : Result Position Refusal → List ℕ
start_numbers (Err e) = []
start_numbers (Ok p) = position_numbers p

-- "the steps of an uncut run by document 01's count"
unfoldable pub steps_numbers : Result ℕ Refusal → List ℕ
steps_numbers (Err e) = []
steps_numbers (Ok n) = n ∷ []
