-- What tables that pass the check give, as a whole and row by row. Assumes nothing.
use mathlib.Core.Path.{◌≡◌, refl, ap, ◌∙◌}
use mathlib.Core.Bool.{Bool, true, false, cond}
use mathlib.Core.List.{List, []}
use Prim.Native.Nat.{ℕ, ◌*◌, ◌/◌, ◌<◌}
use native.Mathlib.Omega.{arith}
use borrow.Author.Tests.{ltb-true}
use lib.ListN.{length, take, drop, length-map, get_or-map}
use Rattle.wire.proofs.Both.{and_first, and_second}
use Rattle.wire.proofs.RowLaws.{rows_length, rows_at}
use Rattle.tables.specs.Check.{all, whole_rows, first_failing}
use Rattle.tables.proofs.AllLaws.{all_at}
use Rattle.tables.proofs.SoundLaws.{WholeFacts, whole_facts}
use Rattle.names.specs.Rows.{entry_size, child_size, child_row, decode_entry, decode_child, entry_rows, child_rows, parse_entries, parse_children, no_child, child_at}
use Rattle.names.specs.Check.{max_rows, names_whole, child_there, children_there, good_name, good_link_ea, names_good, names_tests, names_number, SoundNames}

pub record NamesFacts (e c : List ℕ) : Type 0 where
  pub entries_whole : WholeFacts entry_size max_rows e
  pub children_whole : WholeFacts child_size max_rows c
  pub there : children_there e c ≡ true
  pub names : all good_name (entry_rows e) ≡ true
  pub links : all good_link_ea (child_rows c) ≡ true

-- the first number that fails is 0: so none fails
none_fails : (a b d : Bool) → ◌≡◌ {A = ℕ} (cond a (cond b (cond d 0 31) 16) 11) 0 → (a ≡ true) × (b ≡ true) × (d ≡ true)
none_fails true true true h = (refl, refl, refl)
none_fails true true false h = absurd (omega arith)
none_fails true false d h = absurd (omega arith)
none_fails false b d h = absurd (omega arith)

pub names_facts : (e c : List ℕ) → SoundNames e c → NamesFacts e c
unfolding SoundNames names_number names_tests first_failing names_whole names_good
names_facts e c h =
    let f = none_fails (names_whole e c) (children_there e c) (names_good e c) h in
    let a : Bool = whole_rows entry_size max_rows e in
    let b : Bool = whole_rows child_size max_rows c in
    let n : Bool = all good_name (entry_rows e) in
    let l : Bool = all good_link_ea (child_rows c) in
    record {
      entries_whole = whole_facts entry_size max_rows e (and_first a b f.0);
      children_whole = whole_facts child_size max_rows c (and_second a b f.0);
      there = f.1;
      names = and_first n l f.2;
      links = and_second n l f.2;
    }

-- ## Rows

pub entries_many : (e : List ℕ) → length (entry_rows e) ≡ length e / entry_size
unfolding entry_rows
entries_many e = rows_length entry_size (length e / entry_size) e

pub children_many : (c : List ℕ) → length (child_rows c) ≡ length c / child_size
unfolding child_rows
children_many c = rows_length child_size (length c / child_size) c

pub parsed_entries : (e : List ℕ) → length (parse_entries e) ≡ length e / entry_size
unfolding parse_entries
parsed_entries e = length-map (entry_rows e) decode_entry ∙ entries_many e

pub parsed_children : (c : List ℕ) → length (parse_children c) ≡ length c / child_size
unfolding parse_children
parsed_children c = length-map (child_rows c) decode_child ∙ children_many c

-- row r of a table is row r of the bytes
pub parsed_child : (c : List ℕ) (r : ℕ) → r < length c / child_size → child_at (parse_children c) r ≡ decode_child (take child_size (drop (child_size * r) c))
unfolding parse_children child_at child_rows no_child
parsed_child c r h = get_or-map decode_child (child_rows c) r [] ∙ ap decode_child (rows_at child_size (length c / child_size) r c h)

module _ (e c : List ℕ) (h : SoundNames e c) where
  module _ (i : ℕ) (k : i < length e / entry_size) where
    pub name_at_lem : good_name (take entry_size (drop (entry_size * i) e)) ≡ true
    unfolding entry_rows
    name_at_lem = all_at good_name entry_size (length e / entry_size) i e (names_facts e c h).names k

    pub child_at_lem : child_row (take entry_size (drop (entry_size * i) e)) < length c / child_size
    unfolding children_there entry_rows child_there
    child_at_lem =
        let t : child_there (length (child_rows c)) (take entry_size (drop (entry_size * i) e)) ≡ true =
        all_at (child_there (length (child_rows c))) entry_size (length e / entry_size) i e (names_facts e c h).there k in
        omega (arith, ltb-true (child_row (take entry_size (drop (entry_size * i) e))) (length (child_rows c)) t, children_many c)

  pub link_at : (r : ℕ) → r < length c / child_size → good_link_ea (take child_size (drop (child_size * r) c)) ≡ true
  unfolding child_rows
  link_at r k = all_at good_link_ea child_size (length c / child_size) r c (names_facts e c h).links k
