-- Every class in one call: the classes from a position on, in the order of the steps.
use Rattle.std.specs.Prelude.{ℕ, zero, suc, ◌/◌, List, [], ◌∷◌, ◌++◌, cond, ltb, eqb, length}
use Rattle.std.proofs.lemmas.List.Edits.{sets}
use Rattle.tables.specs.Records.{Tables}
use Rattle.tables.specs.Bytes.{parse}
use Rattle.tables.specs.Positions.{is_position, is_end, next}
use Rattle.tables.specs.Check.{tables_number}
use Rattle.tables.specs.declared.Position.{Position}
use Rattle.rules.specs.Classes.{class_numbers}
use Rattle.rules.specs.Steps.{class_at}
use Rattle.capi_tables.specs.Tables.{position_numbers, position_given}

-- "4 numbers a position, as `lfsck_class` gives them"
abbrev pub class_size : ℕ
class_size = 4

-- "as many positions as `out` holds whole places for"
unfoldable pub room : List ℕ → ℕ
room out = length out / class_size

-- at most n positions, "in the order of the steps from the position handed in"; the end is none
unfoldable pub positions_from : ℕ → Tables → Position → List Position
positions_from zero T p = []
positions_from (suc n) T p = cond (is_end p) [] (p ∷ positions_from n T (next T p))

-- the position n positions on
unfoldable pub onward : ℕ → Tables → Position → Position
onward zero T p = p
onward (suc n) T p = onward n T (next T p)

-- the classes at these positions
unfoldable pub classes_at : Tables → List Position → List ℕ
classes_at T [] = []
classes_at T (p ∷ ps) = class_numbers (class_at T p) ++ classes_at T ps

-- what a call answers and how it leaves what is lent to be written
pub record Listing : Type 0 where
  pub answer : ℕ
  pub position : List ℕ
  pub out : List ℕ
  pub done : List ℕ

-- with a refusal nothing is written
unfoldable pub untold : ℕ → List ℕ → List ℕ → List ℕ → Listing
untold n position out done = record { answer = n; position = position; out = out; done = done }

-- the positions that are told
unfoldable pub told_positions : Tables → Position → List ℕ → List Position
told_positions T p out = positions_from (room out) T p

-- "the position is left at the first that was not told"; "a longer one keeps its rest"
unfoldable pub told : Tables → Position → List ℕ → List ℕ → List ℕ → Listing
told T p position out done =
    record {
      answer = 0;
      position = sets position 0 (position_numbers (onward (length (told_positions T p out)) T p));
      out = sets out 0 (classes_at T (told_positions T p out));
      done = sets done 0 (length (told_positions T p out) ∷ []);
    }

-- "11 to 15", of the tables alone; "16 (also a position that is not 3 numbers)"
unfoldable pub listing_number : List ℕ → List ℕ → Position → ℕ
listing_number parents objects at =
    cond (eqb (tables_number parents objects) 0) (cond (is_position (parse parents objects) at) 0 16) (tables_number parents objects)

-- "One check, then the classes"; "17 (`done` has no place)", after the other refusals
unfoldable pub listing : List ℕ → List ℕ → List ℕ → List ℕ → List ℕ → Listing
listing parents objects position out done =
    cond (eqb (listing_number parents objects (position_given position)) 0)
    (cond (ltb (length done) 1) (untold 17 position out done) (told (parse parents objects) (position_given position) position out done))
    (untold (listing_number parents objects (position_given position)) position out done)
