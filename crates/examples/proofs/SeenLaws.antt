-- A case seen by the rows that it gives: the rows of the joined bytes are these rows, whatever stands past what they begin with. Assumes nothing.
use Prim.Native.Nat.{ℕ, zero, suc, ◌-◌, ◌≤◌, ◌<◌}
use native.Mathlib.Omega.{arith}
use mathlib.Core.Path.{◌≡◌, refl}
use mathlib.Core.Bool.{Bool, true, ◌&&◌}
use mathlib.Core.List.{List, [], ◌∷◌, map}
use lib.ListN.{length, get_or, length-append}
use lib.Dec.{leb}
use borrow.Author.Tests.{leb-true}
use Rattle.wire.proofs.Both.{and_first, and_second}
use Rattle.tables.specs.Records.{Tables}
use Rattle.tables.specs.Bytes.{parent_size, parse, parse_parent, parent_rows, object_rows, reserve_entries, join, parse_parents, parse_objects}
use Rattle.tables.specs.Positions.{is_position, start}
use Rattle.tables.specs.Check.{test as numbered, max_parents, all, when_used, used_mark, whole_rows, parents_whole, objects_whole, reserve_whole, tables_whole, good_policy, good_layout, good_layouts, good_parent, good_object, good_entry, good_fids, none_twice, all_different, first_failing, input_tests, check_number}
use Rattle.tables.proofs.ParseLaws.{join_length, rows_join}
use Rattle.tables.proofs.WrittenPasses.{whole}
use Rattle.rules.specs.Settings.{settings_of}
use Rattle.tables.specs.declared.Position.{Position}
use Rattle.examples.specs.Cases.{Case, Seen, Example, filled, parent_table, seen, tests}

-- ## By rows

-- the check's number from the parent rows, `whole` saying whether the table is whole rows and not too long
unfoldable pub number_by : Bool → List (List ℕ) → List ℕ → List ℕ → ℕ → Position → ℕ
number_by whole ps objects reserve policy at =
    first_failing (numbered 11 ((whole && all used_mark ps) && objects_whole objects && reserve_whole reserve) ∷ numbered 12 (good_policy policy)
    ∷ numbered 13 (all (when_used good_layout) ps)
    ∷ numbered 14 (all (when_used good_parent) ps && all (when_used good_object) (object_rows objects) && all good_entry (reserve_entries reserve))
    ∷ numbered 15 (none_twice ps && none_twice (object_rows objects))
    ∷ numbered 16 (is_position (record { parents = map parse_parent ps; objects = parse_objects objects }) at) ∷ [])

number_by_lem : (p o s : List ℕ) (policy : ℕ) (at : Position) →
    check_number p o s policy at ≡ number_by (whole_rows parent_size max_parents p) (parent_rows p) o s policy at
unfolding check_number input_tests tables_whole parents_whole good_layouts good_fids all_different parse_parents number_by
number_by_lem p o s policy at = refl

-- what the rows say that begin so
unfoldable pub row_tables : (ℕ → List ℕ) → List (List ℕ) → List ℕ → Tables
row_tables past ls objects = record { parents = map parse_parent (map (filled past) ls); objects = parse_objects objects }

unfoldable pub rows_seen : (ℕ → List ℕ) → Case → Seen
rows_seen past e =
    let T = row_tables past e.parents (join e.objects) in
    record {
      past = past;
      tables = T;
      settings = settings_of e.policy (join e.reserve);
      number = number_by true (map (filled past) e.parents) (join e.objects) (join e.reserve) e.policy (start T);
    }

-- what the rows begin with fits in them, and there are not too many
unfoldable pub short : List ℕ → Bool
short l = leb (length l) parent_size

unfoldable pub fits : List (List ℕ) → Bool
fits ls = all short ls && leb (length ls) max_parents

unfoldable pub all_fit : List Example → Bool
all_fit [] = true
all_fit (e ∷ es) = fits e.of.parents && all_fit es

-- ## As the bytes say

module _ (past : ℕ → List ℕ) (long : (n : ℕ) → length (past n) ≡ n) where
  pub row_whole : (l : List ℕ) → short l ≡ true → length (filled past l) ≡ parent_size
  unfolding filled short
  row_whole l k =
      let m : length l ≤ parent_size = leb-true (length l) parent_size k in
      rw (length-append l (past (parent_size - length l)), long (parent_size - length l)) (omega arith)

  each_whole : (ls : List (List ℕ)) → all short ls ≡ true → (r : ℕ) → r < length ls → length (filled past (get_or ls r [])) ≡ parent_size
  unfolding all
  each_whole [] k r b = absurd (omega arith)
  each_whole (l ∷ ls) k zero b = row_whole l (and_first (short l) (all short ls) k)
  each_whole (l ∷ ls) k (suc r) b = each_whole ls (and_second (short l) (all short ls) k) r (omega arith)

  module _ (ls : List (List ℕ)) (k : fits ls ≡ true) where
    rows_whole : (r : ℕ) → r < length ls → length (filled past (get_or ls r [])) ≡ parent_size
    unfolding fits
    rows_whole = each_whole ls (and_first (all short ls) (leb (length ls) max_parents) k)

    rows_are : parent_rows (parent_table past ls) ≡ map (filled past) ls
    unfolding parent_rows parent_table
    rows_are = rows_join (filled past) parent_size [] (omega arith) ls rows_whole

    table_whole : whole_rows parent_size max_parents (parent_table past ls) ≡ true
    unfolding parent_table fits
    table_whole =
        whole parent_size max_parents (length ls) (join (map (filled past) ls)) (omega arith) (join_length (filled past) parent_size [] ls rows_whole)
        (leb-true (length ls) max_parents (and_second (all short ls) (leb (length ls) max_parents) k))

    pub number_is : (o s : List ℕ) (policy : ℕ) (at : Position) →
        check_number (parent_table past ls) o s policy at ≡ number_by true (map (filled past) ls) o s policy at
    number_is o s policy at = rw (number_by_lem (parent_table past ls) o s policy at, table_whole, rows_are)

    pub tables_are : (o : List ℕ) → parse (parent_table past ls) o ≡ row_tables past ls o
    unfolding row_tables parse_parents
    tables_are o = rw rows_are

  seen_is : (e : Case) → fits e.parents ≡ true → seen past e ≡ rows_seen past e
  unfolding seen rows_seen
  seen_is e k =
      let o : List ℕ = join e.objects in
      let s : List ℕ = join e.reserve in
      rw (number_is e.parents k o s e.policy (start (parse (parent_table past e.parents) o)), tables_are e.parents k o)

  pub tests_are : (es : List Example) → all_fit es ≡ true → tests (seen past) es ≡ tests (rows_seen past) es
  unfolding tests all_fit
  tests_are [] k = refl
  tests_are (e ∷ es) k =
      rw (seen_is e.of (and_first (fits e.of.parents) (all_fit es) k), tests_are es (and_second (fits e.of.parents) (all_fit es) k))
