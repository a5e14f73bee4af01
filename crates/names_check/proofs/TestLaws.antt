-- The tests of the tables, case by case. Assumes nothing.
use mathlib.Core.Path.{◌≡◌}
use mathlib.Core.Bool.{Bool, true, false, not, ◌&&◌}
use mathlib.Core.List.{List}
use Prim.Native.Nat.{ℕ, ◌/◌, ◌≤◌, ◌<◌}
use borrow.Author.Tests.{lt-leb, le-leb, leb-true, eq-eqb, ne_eqb}
use lib.Dec.{leb}
use lib.ListN.{length}
use Rattle.wire.specs.Rows.{rows}
use Rattle.wire.proofs.Both.{and_first, and_second}
use Rattle.wire.proofs.RowLaws.{rows_length}
use Rattle.linkea.specs.Conditions.{some, bad_byte, refused_link}
use Rattle.tables.specs.Check.{all, whole_rows, first_failing}
use Rattle.names.specs.Rows.{entry_size, child_size, name_room, link_room, name_length, name_bytes, link_length, link_bytes, decode_entry, entry_rows, child_rows}
use Rattle.names.specs.Check.{max_rows, names_whole, child_there, children_there, good_name, good_link_ea, names_good, names_tests, names_number}

module _ (e c : List ℕ) where
  pub whole_not : whole_rows entry_size max_rows e ≡ false → false ≡ names_whole e c
  unfolding names_whole
  whole_not h = rw h

  pub whole_then : whole_rows entry_size max_rows e ≡ true → whole_rows child_size max_rows c ≡ names_whole e c
  unfolding names_whole
  whole_then h = rw h

  pub there_is : all (child_there (length c / child_size)) (rows entry_size (length e / entry_size) e) ≡ children_there e c
  unfolding children_there entry_rows child_rows
  there_is =
      let n : length (rows child_size (length c / child_size) c) ≡ length c / child_size = rows_length child_size (length c / child_size) c in
      rw n

  pub good_not : all good_name (entry_rows e) ≡ false → false ≡ names_good e c
  unfolding names_good
  good_not h = rw h

  pub good_then : all good_name (entry_rows e) ≡ true → all good_link_ea (child_rows c) ≡ names_good e c
  unfolding names_good
  good_then h = rw h

  -- ## The numbers

  pub names_11 : names_whole e c ≡ false → 11 ≡ names_number e c
  unfolding names_number names_tests first_failing
  names_11 h = rw h

  module _ (w : names_whole e c ≡ true) where
    pub names_16 : children_there e c ≡ false → 16 ≡ names_number e c
    unfolding names_number names_tests first_failing
    names_16 h = rw (w, h)

    module _ (t : children_there e c ≡ true) where
      pub names_31 : names_good e c ≡ false → 31 ≡ names_number e c
      unfolding names_number names_tests first_failing
      names_31 h = rw (w, t, h)

      pub names_0 : names_good e c ≡ true → 0 ≡ names_number e c
      unfolding names_number names_tests first_failing
      names_0 h = rw (w, t, h)

-- ## Names and linkEAs

module _ (row : List ℕ) where
  pub name_empty : name_length row < 1 → false ≡ good_name row
  unfolding good_name
  name_empty h = rw (lt-leb 1 (name_length row) h)

  pub name_long : 1 ≤ name_length row → name_room < name_length row → false ≡ good_name row
  unfolding good_name
  name_long h k = rw (le-leb 1 (name_length row) h, lt-leb (name_length row) name_room k)

  pub name_read : 1 ≤ name_length row → name_length row ≤ name_room → not (some bad_byte (decode_entry row).name) ≡ good_name row
  unfolding good_name decode_entry
  name_read h k = rw (le-leb 1 (name_length row) h, le-leb (name_length row) name_room k)

  pub name_room_lem : good_name row ≡ true → name_length row ≤ name_room
  unfolding good_name
  name_room_lem h =
      let a : Bool = leb 1 (name_length row) in
      let b : Bool = leb (name_length row) name_room in
      leb-true (name_length row) name_room (and_second a b (and_first (a && b) (not (some bad_byte (name_bytes row))) h))

  pub link_none : link_length row ≡ 0 → true ≡ good_link_ea row
  unfolding good_link_ea
  link_none h = rw (eq-eqb (link_length row) 0 h)

  pub link_long : (link_length row ≡ 0 → ⊥) → link_room < link_length row → false ≡ good_link_ea row
  unfolding good_link_ea
  link_long h k = rw (ne_eqb (link_length row) 0 h, lt-leb (link_length row) link_room k)

  pub link_read : (link_length row ≡ 0 → ⊥) → link_length row ≤ link_room → not (refused_link (link_bytes row)) ≡ good_link_ea row
  unfolding good_link_ea
  link_read h k = rw (ne_eqb (link_length row) 0 h, le-leb (link_length row) link_room k)
