-- Notes: one number for each entry, 1 where its directory is visible.
use Rattle.std.specs.Prelude.{ℕ, ◌/◌, ◌≡◌, Bool, List, map, length, take}
use Rattle.fid.specs.declared.MdtFid.{MdtFid}
use Rattle.names.specs.Rows.{Entry, entry_size, parse_entries}
use Rattle.names.specs.Sweeps.{one}

unfoldable pub note_of : (MdtFid → Bool) → Entry → ℕ
note_of seen e = one (seen e.parent)

-- the notes of the entries are those of a visibility
unfoldable pub Noted : (MdtFid → Bool) → List ℕ → List ℕ → Type 0
Noted seen entries notes = take (length entries / entry_size) notes ≡ map (note_of seen) (parse_entries entries)
