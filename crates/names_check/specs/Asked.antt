-- The record that is asked for, by its directory and its name, and the entry of a row.
use Rattle.std.specs.Prelude.{ℕ, ◌*◌, List, take, drop}
use Rattle.fid.specs.declared.MdtFid.{MdtFid}
use Rattle.linkea.specs.Link.{Link}
use Rattle.names.specs.Rows.{Entry, entry_size, decode_entry}

unfoldable pub asked : MdtFid → List ℕ → Link
asked parent name = record { parent = parent; name = name }

-- what entry row i says
unfoldable pub entry_at : List ℕ → ℕ → Entry
entry_at entries i = decode_entry (take entry_size (drop (entry_size * i) entries))
