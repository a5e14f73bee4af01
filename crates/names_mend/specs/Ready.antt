-- What a mending makes ready: the index of directories, the index of entries behind it, and the notes.
use Rattle.std.specs.Prelude.{ℕ, ◌*◌, ◌/◌, ◌≤◌, List, length, take, drop}
use Rattle.index.specs.Entries.{place_size}
use Rattle.names.specs.Rows.{entry_size, child_size, parse_children}
use Rattle.names.specs.Visible.{seen_by}
use Rattle.names_marks.specs.Directories.{IndexedUnder}
use Rattle.names_prune.specs.ByChild.{ByChild}
use Rattle.names_store.specs.Notes.{Noted}

-- where the index of the entries begins: behind a place for each child row
unfoldable pub entries_at : List ℕ → ℕ
entries_at children = place_size * (length children / child_size)

pub record Ready (entries children marks index notes : List ℕ) (n : ℕ) : Type 0 where
  pub index_long : entries_at children ≤ length index
  pub notes_long : length entries / entry_size ≤ length notes
  pub directories : IndexedUnder children marks (take (entries_at children) index) n
  pub by_child : ByChild entries (drop (entries_at children) index)
  pub noted : Noted (seen_by marks (parse_children children)) entries notes
