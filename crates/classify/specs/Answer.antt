-- What is said of the class at a position, for every input. Document 01, "What comes back".
use Rattle.std.specs.Prelude.{ℕ, List, Bool, not, cond, ◌&&◌, eqb, Result}
use Rattle.refusals.specs.Numbers.{answer, told}
use Rattle.refusals.specs.declared.Refusal.{Refusal}
use Rattle.tables.specs.Bytes.{parse}
use Rattle.tables.specs.Positions.{is_position, is_end}
use Rattle.tables.specs.Check.{tables_number}
use Rattle.tables.specs.declared.Position.{Position}
use Rattle.rules.specs.Steps.{class_at}
use Rattle.rules.specs.declared.Class.{Class}

-- a class is asked at a position that exists and is not the end: "a class asked there is 16"
unfoldable pub has_class : List ℕ → List ℕ → Position → Bool
has_class parents objects at = is_position (parse parents objects) at && not (is_end at)

-- "Input is checked first": 11 and 13 to 15 for the tables, then 16, "no such position"
unfoldable pub class_refused : List ℕ → List ℕ → Position → ℕ
class_refused parents objects at =
    cond (eqb (tables_number parents objects) 0) (cond (has_class parents objects at) 0 16) (tables_number parents objects)

-- the class, where none of these refuses
unfoldable pub class_answer : List ℕ → List ℕ → Position → Result Class Refusal
class_answer parents objects at = told (class_refused parents objects at) (class_at (parse parents objects) at)

-- the number of each answer: 11 or 13 to 16 where there is a refusal, else 0
unfoldable pub class_number : Result Class Refusal → ℕ
class_number a = answer a
