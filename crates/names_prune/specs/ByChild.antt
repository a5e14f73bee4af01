-- The index of the entries by the row of their child.
use Rattle.std.specs.Prelude.{ℕ, suc, ◌*◌, ◌/◌, ◌≤◌, ◌≡◌, Bool, cond, ◌&&◌, List, [], ◌∷◌, map, ltb, eqb, length, get_or, Option, None, Some}
use Rattle.linkea.specs.Link.{Link}
use Rattle.index.specs.Entries.{place_size, entries, sorted}
use Rattle.index.specs.Search.{Key, key, key_of, listed}
use Rattle.names.specs.Rows.{Entry, entry_size, parse_entries}
use Rattle.names.specs.Check.{max_rows}
use Rattle.names.specs.Findings.{same_link, link_for}
use Rattle.names.specs.Promises.{no_entry}

unfoldable pub entry_key : Entry → Key
entry_key e = key (key_of 0 e.child)

unfoldable pub entry_numbers : List Entry → List ℕ
entry_numbers es = listed (map entry_key es) 0

-- as many entries of the index as there are entry rows are these, by their children, in order
pub record ByChild (table index : List ℕ) : Type 0 where
  pub few : length table / entry_size ≤ max_rows
  pub room : place_size * (length table / entry_size) ≤ length index
  pub rows : entries (length table / entry_size) index ≡ sorted (entry_numbers (parse_entries table))

-- entry i is there and has the record
unfoldable pub is_named : List Entry → Link → ℕ → Bool
is_named es x i = ltb i (length es) && same_link x (link_for (get_or es i no_entry))

-- the first entry of child r that has a record; the list is that of the entries from i on
unfoldable pub first_named : List Entry → ℕ → Link → ℕ → Option ℕ
first_named [] r x i = None
first_named (e ∷ es) r x i = cond (eqb e.child r && same_link x (link_for e)) (Some i) (first_named es r x (suc i))
