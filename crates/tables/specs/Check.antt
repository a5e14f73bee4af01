-- The check of the input: "the lowest of 11 to 17 that applies is given", "none is given otherwise". Document 01, "What comes back".
use Rattle.std.specs.Prelude.{ℕ, ◌*◌, ◌/◌, ◌≡◌, List, [], ◌∷◌, Bool, true, false, cond, not, ◌&&◌, ◌||◌, length, get_or, drop, leb, eqb}
use Rattle.wire.specs.Numbers.{le}
use Rattle.fid.specs.Fid.{good_file, good_object as good_object_fid, good_reserve, good_number, same_fid, zero_fid}
use Rattle.fid.specs.declared.Fid.{Fid}
use Rattle.layout.specs.Slot.{max_index}
use Rattle.layout.specs.Layout.{accepted_layout}
use Rattle.tables.specs.Bytes.{parent_size, object_size, entry_size, ost_at, fresh_at, layout_room, is_used, self_fid, layout_length, layout_bytes, claimed_fid, parent_rows, object_rows, reserve_entries, reserve_fid, parse}
use Rattle.tables.specs.Positions.{is_position}
use Rattle.tables.specs.declared.Position.{Position}

-- every row passes a test
unfoldable pub all : (List ℕ → Bool) → List (List ℕ) → Bool
all test [] = true
all test (row ∷ rest) = test row && all test rest

-- every used row passes a test: "Fields of an unused row are not examined"
unfoldable pub when_used : (List ℕ → Bool) → List ℕ → Bool
when_used test row = cond (is_used row) (test row) true

-- ## 11: "table not whole rows, too long, or a mark not 0 or 1"

-- "At most 1,024 parent rows, 65,536 object rows, 65,536 reserve entries"
abbrev pub max_parents : ℕ
max_parents = 1024

abbrev pub max_objects : ℕ
max_objects = 65536

abbrev pub max_reserve : ℕ
max_reserve = 65536

unfoldable pub whole_rows : ℕ → ℕ → List ℕ → Bool
whole_rows size most l = eqb (size * (length l / size)) (length l) && leb (length l / size) most

unfoldable pub is_mark : ℕ → Bool
is_mark b = leb b 1

unfoldable pub used_mark : List ℕ → Bool
used_mark row = is_mark (get_or row 0 0)

unfoldable pub fresh_mark : List ℕ → Bool
fresh_mark row = is_mark (get_or row fresh_at 0)

unfoldable pub parents_whole : List ℕ → Bool
parents_whole l = whole_rows parent_size max_parents l && all used_mark (parent_rows l)

unfoldable pub objects_whole : List ℕ → Bool
objects_whole l = whole_rows object_size max_objects l && all used_mark (object_rows l) && all (when_used fresh_mark) (object_rows l)

unfoldable pub reserve_whole : List ℕ → Bool
reserve_whole l = whole_rows entry_size max_reserve l

unfoldable pub tables_whole : List ℕ → List ℕ → List ℕ → Bool
tables_whole parents objects reserve = parents_whole parents && objects_whole objects && reserve_whole reserve

-- ## 12: "policy above 3"

unfoldable pub good_policy : ℕ → Bool
good_policy policy = leb policy 3

-- ## 13: "layout not as above"

-- the layout lies in the row's room and is accepted
unfoldable pub good_layout : List ℕ → Bool
good_layout row = leb (layout_length row) layout_room && accepted_layout (layout_bytes row)

unfoldable pub good_layouts : List ℕ → Bool
good_layouts parents = all (when_used good_layout) (parent_rows parents)

-- ## 14: "bad FID, object index or claim, or fresh without claim"

unfoldable pub good_parent : List ℕ → Bool
good_parent row = good_file (record { 0 = self_fid row })

-- "OST index 4 (at most 65,535)"
unfoldable pub good_index : List ℕ → Bool
good_index row = leb (le 4 (drop ost_at row)) max_index

-- "16 zero bytes mean no claim. Otherwise sequence and id must be good; any index is allowed"
unfoldable pub good_claim : List ℕ → Bool
good_claim row = same_fid (claimed_fid row) zero_fid || good_number (claimed_fid row)

-- "A fresh object must have a claim"
unfoldable pub fresh_claims : List ℕ → Bool
fresh_claims row = cond (eqb (get_or row fresh_at 0) 1) (not (same_fid (claimed_fid row) zero_fid)) true

unfoldable pub good_object : List ℕ → Bool
good_object row = good_object_fid (record { 0 = self_fid row }) && good_index row && good_claim row && fresh_claims row

unfoldable pub good_entry : List ℕ → Bool
good_entry entry = good_reserve (reserve_fid entry)

unfoldable pub good_fids : List ℕ → List ℕ → List ℕ → Bool
good_fids parents objects reserve =
    all (when_used good_parent) (parent_rows parents) && all (when_used good_object) (object_rows objects)
    && all good_entry (reserve_entries reserve)

-- ## 15: "a FID twice among used parents, or twice among used objects"

-- a used row with this self FID
unfoldable pub is_row_of : Fid → List ℕ → Bool
is_row_of f row = is_used row && same_fid (self_fid row) f

-- one of them is among the rows
unfoldable pub has_self : Fid → List (List ℕ) → Bool
has_self f [] = false
has_self f (row ∷ rest) = is_row_of f row || has_self f rest

unfoldable pub none_twice : List (List ℕ) → Bool
none_twice [] = true
none_twice (row ∷ rest) = cond (is_used row) (not (has_self (self_fid row) rest)) true && none_twice rest

unfoldable pub all_different : List ℕ → List ℕ → Bool
all_different parents objects = none_twice (parent_rows parents) && none_twice (object_rows objects)

-- ## The tests in their order

-- a test of the input, and the number that is given where it fails
pub record Test : Type 0 where
  pub number : ℕ
  pub passes : Bool

abbrev pub test : ℕ → Bool → Test
test number passes = record { number = number; passes = passes }

-- "the lowest .. that applies is given", "none is given otherwise": the number of the first test that fails, 0 where none does
unfoldable pub first_failing : List Test → ℕ
first_failing [] = 0
first_failing (t ∷ ts) = cond t.passes (first_failing ts) t.number

-- of the tables alone: start, step count and class take no policy and no reserve
unfoldable pub tables_tests : List ℕ → List ℕ → List Test
tables_tests parents objects =
    test 11 (tables_whole parents objects []) ∷ test 13 (good_layouts parents) ∷ test 14 (good_fids parents objects [])
    ∷ test 15 (all_different parents objects) ∷ []

unfoldable pub tables_number : List ℕ → List ℕ → ℕ
tables_number parents objects = first_failing (tables_tests parents objects)

-- "Input is checked first, over all tables"; 16 is "no such position"
unfoldable pub input_tests : List ℕ → List ℕ → List ℕ → ℕ → Position → List Test
input_tests parents objects reserve policy position =
    test 11 (tables_whole parents objects reserve) ∷ test 12 (good_policy policy) ∷ test 13 (good_layouts parents)
    ∷ test 14 (good_fids parents objects reserve) ∷ test 15 (all_different parents objects)
    ∷ test 16 (is_position (parse parents objects) position) ∷ []

unfoldable pub check_number : List ℕ → List ℕ → List ℕ → ℕ → Position → ℕ
check_number parents objects reserve policy position = first_failing (input_tests parents objects reserve policy position)

-- the tables that pass: every later fact about them is drawn from this
unfoldable pub Sound : List ℕ → List ℕ → Type 0
Sound parents objects = tables_number parents objects ≡ 0

unfoldable pub SoundReserve : List ℕ → Type 0
SoundReserve reserve = (reserve_whole reserve && all good_entry (reserve_entries reserve)) ≡ true
