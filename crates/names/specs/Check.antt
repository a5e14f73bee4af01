-- The check of the lent tables: whole rows, children that are there, names and linkEAs. Document 02, 2026-06.
use Rattle.std.specs.Prelude.{ℕ, ◌≡◌, Bool, not, ◌&&◌, ◌||◌, List, [], ◌∷◌, length, leb, ltb, eqb}
use Rattle.linkea.specs.Conditions.{some, bad_byte, refused_link}
use Rattle.tables.specs.Check.{all, whole_rows, Test, test, first_failing}
use Rattle.names.specs.Rows.{entry_size, child_size, name_room, link_room, child_row, name_length, name_bytes, link_length, link_bytes, entry_rows, child_rows}

-- ## 11: not whole rows, or too many

abbrev pub max_rows : ℕ
max_rows = 65536

unfoldable pub names_whole : List ℕ → List ℕ → Bool
names_whole entries children = whole_rows entry_size max_rows entries && whole_rows child_size max_rows children

-- ## 16: "a child's row past the table is 16"

unfoldable pub child_there : ℕ → List ℕ → Bool
child_there n row = ltb (child_row row) n

unfoldable pub children_there : List ℕ → List ℕ → Bool
children_there entries children = all (child_there (length (child_rows children))) (entry_rows entries)

-- ## 31: "a bad linkEA or entry name 31"

-- a name of 1 to 255 bytes, none of which is a slash or zero
unfoldable pub good_name : List ℕ → Bool
good_name row = leb 1 (name_length row) && leb (name_length row) name_room && not (some bad_byte (name_bytes row))

-- none, or one that lies in the room and that the reader of linkEAs takes
unfoldable pub good_link_ea : List ℕ → Bool
good_link_ea row = eqb (link_length row) 0 || leb (link_length row) link_room && not (refused_link (link_bytes row))

unfoldable pub names_good : List ℕ → List ℕ → Bool
names_good entries children = all good_name (entry_rows entries) && all good_link_ea (child_rows children)

-- ## In their order

unfoldable pub names_tests : List ℕ → List ℕ → List Test
names_tests entries children =
    test 11 (names_whole entries children) ∷ test 16 (children_there entries children) ∷ test 31 (names_good entries children) ∷ []

unfoldable pub names_number : List ℕ → List ℕ → ℕ
names_number entries children = first_failing (names_tests entries children)

-- the tables that pass
unfoldable pub SoundNames : List ℕ → List ℕ → Type 0
SoundNames entries children = names_number entries children ≡ 0
