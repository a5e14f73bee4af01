-- The tables as bytes and back: `parse` and `render`. Document 01: "Rows are bytes, their fields packed in the order named here".
use Rattle.std.specs.Prelude.{ℕ, ◌+◌, ◌/◌, List, [], ◌∷◌, ◌++◌, map, Bool, cond, length, get_or, take, drop, eqb}
use Rattle.std.specs.Prelude.{Option, Some, None}
use Rattle.tables.specs.declared.Place.{Place}
use Rattle.wire.specs.Numbers.{le, bytes}
use Rattle.wire.specs.Rows.{rows}
use Rattle.fid.specs.Fid.{fid_size, decode_fid, encode_fid, zero_fid, same_fid}
use Rattle.fid.specs.declared.Fid.{Fid}
use Rattle.fid.specs.declared.OstFid.{OstFid}
use Rattle.layout.specs.Layout.{max_layout, decode_layout, encode_layout}
use Rattle.tables.specs.Records.{Parent, TableRow, unused, used, ParentRow, ObjectRow, Tables}
use Rattle.tables.specs.declared.Owner.{Owner}
use Rattle.tables.specs.declared.Object.{Object}

-- ## Where the fields stand

-- "used mark 1 byte", and the self FID after it, in both kinds of row
abbrev pub self_at : ℕ
self_at = 1

-- "uid 4, gid 4"
abbrev pub owner_size : ℕ
owner_size = 8

-- "the room of a parent row from 3,888 to 48,048 bytes"
abbrev pub layout_room : ℕ
layout_room = max_layout

-- "Parent row: used mark 1 byte, self FID 16, uid 4, gid 4, layout length 2, and [..] room": 48,075 bytes
abbrev pub owner_at : ℕ
owner_at = self_at + fid_size

abbrev pub length_at : ℕ
length_at = owner_at + owner_size

abbrev pub room_at : ℕ
room_at = length_at + 2

abbrev pub parent_size : ℕ
parent_size = room_at + layout_room

-- "The claim is a FID"
abbrev pub claim_size : ℕ
claim_size = fid_size

-- "Object row, 46 bytes: used mark 1, self FID 16, OST index 4, uid 4, gid 4, claim 16, fresh mark 1"
abbrev pub ost_at : ℕ
ost_at = self_at + fid_size

abbrev pub object_owner_at : ℕ
object_owner_at = ost_at + 4

abbrev pub claim_at : ℕ
claim_at = object_owner_at + owner_size

abbrev pub fresh_at : ℕ
fresh_at = claim_at + claim_size

abbrev pub object_size : ℕ
object_size = fresh_at + 1

-- "Reserve: a list of good OST FIDs, 16 bytes each"
abbrev pub entry_size : ℕ
entry_size = fid_size

-- ## Rows of either table

-- "used mark 1 byte (0 or 1)"
unfoldable pub is_used : List ℕ → Bool
is_used row = eqb (get_or row 0 0) 1

-- a row, `decode` telling what a used one says
unfoldable pub parse_row : {A : Type 0} → (List ℕ → A) → List ℕ → TableRow A
parse_row decode row = cond (is_used row) (used (decode row)) (unused (drop 1 row))

-- and its bytes, `encode` giving those after the mark of a used one
unfoldable pub render_row : {A : Type 0} → (A → List ℕ) → TableRow A → List ℕ
render_row encode (unused b) = 0 ∷ b
render_row encode (used x) = 1 ∷ encode x

unfoldable pub self_fid : List ℕ → Fid
self_fid row = decode_fid (drop self_at row)

unfoldable pub decode_owner : List ℕ → Owner
decode_owner l = record { uid = le 4 l; gid = le 4 (drop 4 l) }

unfoldable pub encode_owner : Owner → List ℕ
encode_owner w = bytes 4 w.uid ++ bytes 4 w.gid

-- ## Parent rows

unfoldable pub layout_length : List ℕ → ℕ
layout_length row = le 2 (drop length_at row)

-- the bytes of a row's layout
unfoldable pub layout_bytes : List ℕ → List ℕ
layout_bytes row = take (layout_length row) (drop room_at row)

unfoldable pub decode_parent : List ℕ → Parent
decode_parent row =
    record {
      self = record { 0 = self_fid row };
      owner = decode_owner (drop owner_at row);
      layout = decode_layout (layout_bytes row);
      tail = drop (room_at + layout_length row) row;
    }

unfoldable pub encode_parent : Parent → List ℕ
encode_parent p =
    encode_fid p.self.0 ++ encode_owner p.owner ++ bytes 2 (length (encode_layout p.layout)) ++ encode_layout p.layout ++ p.tail

unfoldable pub parse_parent : List ℕ → ParentRow
parse_parent row = parse_row decode_parent row

unfoldable pub render_parent : ParentRow → List ℕ
render_parent w = render_row encode_parent w

-- ## Object rows

-- the claim's bytes are those of a FID
unfoldable pub claimed_fid : List ℕ → Fid
claimed_fid row = decode_fid (drop claim_at row)

-- "The claim is a FID whose version field is the stripe index"; "16 zero bytes mean no claim"
unfoldable pub claim_from : Fid → Option Place
claim_from f =
    cond (same_fid f zero_fid) None
    (Some (record { file = record { 0 = record { seq = f.seq; oid = f.oid; ver = 0 } }; index = f.ver }))

unfoldable pub claim_fid : Option Place → Fid
claim_fid None = zero_fid
claim_fid (Some p) = record { seq = p.file.0.seq; oid = p.file.0.oid; ver = p.index }

unfoldable pub decode_object : List ℕ → Object
decode_object row =
    record {
      fid = record { 0 = self_fid row };
      ost = le 4 (drop ost_at row);
      owner = decode_owner (drop object_owner_at row);
      claim = claim_from (claimed_fid row);
      fresh = eqb (get_or row fresh_at 0) 1;
    }

unfoldable pub mark : Bool → ℕ
mark b = cond b 1 0

unfoldable pub encode_object : Object → List ℕ
encode_object x =
    encode_fid x.fid.0 ++ bytes 4 x.ost ++ encode_owner x.owner ++ encode_fid (claim_fid x.claim) ++ mark x.fresh ∷ []

unfoldable pub parse_object : List ℕ → ObjectRow
parse_object row = parse_row decode_object row

unfoldable pub render_object : ObjectRow → List ℕ
render_object w = render_row encode_object w

-- ## Tables

unfoldable pub parent_rows : List ℕ → List (List ℕ)
parent_rows l = rows parent_size (length l / parent_size) l

unfoldable pub object_rows : List ℕ → List (List ℕ)
object_rows l = rows object_size (length l / object_size) l

unfoldable pub parse_parents : List ℕ → List ParentRow
parse_parents l = map parse_parent (parent_rows l)

unfoldable pub parse_objects : List ℕ → List ObjectRow
parse_objects l = map parse_object (object_rows l)

-- what both tables say
abbrev pub parse : List ℕ → List ℕ → Tables
parse parents objects = record { parents = parse_parents parents; objects = parse_objects objects }

unfoldable pub join : List (List ℕ) → List ℕ
join [] = []
join (row ∷ rest) = row ++ join rest

-- the bytes of the parent table, and of the object table
unfoldable pub render_parents : Tables → List ℕ
render_parents T = join (map render_parent T.parents)

unfoldable pub render_objects : Tables → List ℕ
render_objects T = join (map render_object T.objects)

-- ## The reserve

unfoldable pub reserve_entries : List ℕ → List (List ℕ)
reserve_entries l = rows entry_size (length l / entry_size) l

unfoldable pub reserve_fid : List ℕ → OstFid
reserve_fid entry = record { 0 = decode_fid entry }

unfoldable pub parse_reserve : List ℕ → List OstFid
parse_reserve l = map reserve_fid (reserve_entries l)
