-- Entry rows and child rows, as bytes and as what they say. Document 02, 2026-06.
use Rattle.std.specs.Prelude.{ℕ, ◌+◌, ◌-◌, ◌/◌, Bool, true, false, cond, List, [], ◌++◌, map, length, take, drop, get_or, replicate, eqb}
use Rattle.wire.specs.Numbers.{le, bytes}
use Rattle.wire.specs.Rows.{rows}
use Rattle.fid.specs.Fid.{fid_size, decode_fid, encode_fid, same_fid, zero_fid}
use Rattle.fid.specs.declared.MdtFid.{MdtFid}
use Rattle.linkea.specs.Link.{Link, LinkEA, decode_link_ea, encode_link_ea}
use Rattle.tables.specs.Bytes.{join}

-- ## Where the fields stand

-- "entry rows are parent FID 16, child's row 4, child FID 16, name length 2, name 255"
abbrev pub child_row_at : ℕ
child_row_at = fid_size

abbrev pub child_fid_at : ℕ
child_fid_at = child_row_at + 4

abbrev pub name_length_at : ℕ
name_length_at = child_fid_at + fid_size

abbrev pub entry_name_at : ℕ
entry_name_at = name_length_at + 2

abbrev pub name_room : ℕ
name_room = 255

abbrev pub entry_size : ℕ
entry_size = entry_name_at + name_room

-- "child rows self FID 16, `..` 16 (directories), linkEA length 2, room 4,096"
abbrev pub up_at : ℕ
up_at = fid_size

abbrev pub link_length_at : ℕ
link_length_at = up_at + fid_size

abbrev pub link_room_at : ℕ
link_room_at = link_length_at + 2

abbrev pub link_room : ℕ
link_room = 4096

abbrev pub child_size : ℕ
child_size = link_room_at + link_room

-- ## Entries

-- a name in a directory: which row its child has, and the FID-in-dirent; `rest` is the bytes of the room past the name
pub record Entry : Type 0 where
  pub parent : MdtFid
  pub child : ℕ
  pub fid : MdtFid
  pub name : List ℕ
  pub rest : List ℕ

unfoldable pub mdt_fid : List ℕ → MdtFid
mdt_fid l = record { 0 = decode_fid l }

unfoldable pub child_row : List ℕ → ℕ
child_row row = le 4 (drop child_row_at row)

unfoldable pub name_length : List ℕ → ℕ
name_length row = le 2 (drop name_length_at row)

unfoldable pub name_bytes : List ℕ → List ℕ
name_bytes row = take (name_length row) (drop entry_name_at row)

unfoldable pub decode_entry : List ℕ → Entry
decode_entry row =
    record {
      parent = mdt_fid row;
      child = child_row row;
      fid = mdt_fid (drop child_fid_at row);
      name = name_bytes row;
      rest = drop (entry_name_at + name_length row) row;
    }

unfoldable pub encode_entry : Entry → List ℕ
encode_entry e = encode_fid e.parent.0 ++ bytes 4 e.child ++ encode_fid e.fid.0 ++ bytes 2 (length e.name) ++ e.name ++ e.rest

-- ## Children

-- "a zero FID or linkEA length means none"
unfoldable pub is_none : MdtFid → Bool
is_none f = same_fid f.0 zero_fid

-- a child's linkEA: none, or what it says
pub data Linked : Type 0 where
  unlinked : Linked
  linked : LinkEA → Linked

-- a file or a directory; `rest` is the bytes of the room past the link_ea
pub record Child : Type 0 where
  pub self : MdtFid
  pub up : MdtFid
  pub link : Linked
  pub rest : List ℕ

unfoldable pub link_length : List ℕ → ℕ
link_length row = le 2 (drop link_length_at row)

unfoldable pub link_bytes : List ℕ → List ℕ
link_bytes row = take (link_length row) (drop link_room_at row)

unfoldable pub decode_linked : List ℕ → Linked
decode_linked row = cond (eqb (link_length row) 0) unlinked (linked (decode_link_ea (link_bytes row)))

unfoldable pub encode_linked : Linked → List ℕ
encode_linked unlinked = []
encode_linked (linked e) = encode_link_ea e

unfoldable pub decode_child : List ℕ → Child
decode_child row =
    record { self = mdt_fid row; up = mdt_fid (drop up_at row); link = decode_linked row; rest = drop (link_room_at + link_length row) row }

unfoldable pub encode_child : Child → List ℕ
encode_child c = encode_fid c.self.0 ++ encode_fid c.up.0 ++ bytes 2 (length (encode_linked c.link)) ++ encode_linked c.link ++ c.rest

-- the records of a child
unfoldable pub links_in : Linked → List Link
links_in unlinked = []
links_in (linked e) = e.links

unfoldable pub links_of : Child → List Link
links_of c = links_in c.link

-- whether a child has a link_ea, be it without records
unfoldable pub is_linked : Linked → Bool
is_linked unlinked = false
is_linked (linked e) = true

-- ## Tables

unfoldable pub entry_rows : List ℕ → List (List ℕ)
entry_rows l = rows entry_size (length l / entry_size) l

unfoldable pub child_rows : List ℕ → List (List ℕ)
child_rows l = rows child_size (length l / child_size) l

unfoldable pub parse_entries : List ℕ → List Entry
parse_entries l = map decode_entry (entry_rows l)

unfoldable pub parse_children : List ℕ → List Child
parse_children l = map decode_child (child_rows l)

unfoldable pub render_entries : List Entry → List ℕ
render_entries es = join (map encode_entry es)

unfoldable pub render_children : List Child → List ℕ
render_children cs = join (map encode_child cs)

-- a row that isn't there
unfoldable pub no_child : Child
no_child = decode_child []

unfoldable pub child_at : List Child → ℕ → Child
child_at cs r = get_or cs r no_child

-- the child of an entry, by its row number
unfoldable pub child_of : List Child → Entry → Child
child_of cs e = child_at cs e.child

-- ## Changes of one field

unfoldable pub with_fid : Entry → MdtFid → Entry
with_fid e f = record { parent = e.parent; child = e.child; fid = f; name = e.name; rest = e.rest }

unfoldable pub with_self : Child → MdtFid → Child
with_self c f = record { self = f; up = c.up; link = c.link; rest = c.rest }

-- "the room past a changed linkEA zeroed"
unfoldable pub with_link_ea : Child → LinkEA → Child
with_link_ea c e = record { self = c.self; up = c.up; link = linked e; rest = replicate (link_room - length (encode_link_ea e)) 0 }
