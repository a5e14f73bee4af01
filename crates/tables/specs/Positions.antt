-- Which positions exist, the start, the next one, and the count of steps. Document 01, "Steps and positions".
use Rattle.std.specs.Prelude.{ℕ, suc, ◌+◌, List, [], ◌∷◌, Bool, cond, ◌&&◌, ◌||◌, length, get_or, leb, ltb, eqb}
use Rattle.layout.specs.declared.Slot.{Slot}
use Rattle.tables.specs.Records.{ParentRow, ObjectRow, unused, used, Tables}
use Rattle.tables.specs.declared.Position.{Position}

-- the slots of a row: none where it is unused
unfoldable pub slots_of : ParentRow → List Slot
slots_of (unused b) = []
slots_of (used p) = p.layout.slots

-- a row that isn't there is unused
unfoldable pub row_at : List ParentRow → ℕ → ParentRow
row_at rows r = get_or rows r (unused [])

-- the number of slots of row r
unfoldable pub width : List ParentRow → ℕ → ℕ
width rows r = length (slots_of (row_at rows r))

-- "A position is stage, row and part (header 0, slot j as j+1; 0 in stage two)"
unfoldable pub in_stage_one : List ParentRow → ℕ → ℕ → Bool
in_stage_one rows row part = ltb row (length rows) && leb part (width rows row)

unfoldable pub in_stage_two : List ObjectRow → ℕ → ℕ → Bool
in_stage_two rows row part = ltb row (length rows) && eqb part 0

-- "or the end, 3, 0, 0"
unfoldable pub is_end : Position → Bool
is_end p = eqb p.stage 3 && eqb p.row 0 && eqb p.part 0

unfoldable pub is_position : Tables → Position → Bool
is_position T p =
    eqb p.stage 1 && in_stage_one T.parents p.row p.part || eqb p.stage 2 && in_stage_two T.objects p.row p.part || is_end p

unfoldable pub place : ℕ → ℕ → ℕ → Position
place stage row part = record { stage = stage; row = row; part = part }

-- object row o if there is one, else the end
unfoldable pub from_object : List ObjectRow → ℕ → Position
from_object rows o = cond (ltb o (length rows)) (place 2 o 0) (place 3 0 0)

-- the header of parent row r if there is one, else stage two
unfoldable pub from_parent : Tables → ℕ → Position
from_parent T r = cond (ltb r (length T.parents)) (place 1 r 0) (from_object T.objects 0)

-- "The start is the first of these that exists"
unfoldable pub start : Tables → Position
start T = from_parent T 0

-- the part after this one in row r if there is one, else the next row
unfoldable pub after_part : Tables → ℕ → ℕ → Position
after_part T r part = cond (ltb part (width T.parents r)) (place 1 r (suc part)) (from_parent T (suc r))

-- the position after a position
unfoldable pub next : Tables → Position → Position
next T p =
    cond (eqb p.stage 1) (after_part T p.row p.part)
    (cond (eqb p.stage 2) (from_object T.objects (suc p.row)) (place 3 0 0))

-- "a used row takes one step for its header (SELF) and one per slot, an unused row one step"
unfoldable pub row_steps : List ParentRow → ℕ
row_steps [] = 0
row_steps (row ∷ rest) = suc (length (slots_of row)) + row_steps rest

-- "Stage two takes one step per object row"
unfoldable pub count_steps : Tables → ℕ
count_steps T = row_steps T.parents + length T.objects
