-- The link_ea as its bytes and back: header, records, and the places at which records begin. Document 02, 2026-01.
use Rattle.std.specs.Prelude.{ℕ, zero, suc, ◌+◌, ◌-◌, List, [], ◌∷◌, ◌++◌, map, Bool, cond, length, take, drop, ltb}
use Rattle.wire.specs.Numbers.{le, bytes, big, number, number_bytes}
use Rattle.fid.specs.Fid.{fid_size, decode_fid_in, encode_fid_in}
use Rattle.fid.specs.declared.MdtFid.{MdtFid}
use Rattle.linkea.specs.declared.LinkHeader.{LinkHeader}

-- ## The header

-- "magic 0x11EAF1DF, record count, total length, overflow time and padding in 24 bytes, little-endian": where each stands
abbrev pub link_magic : ℕ
link_magic = 0x11eaf1df

abbrev pub count_at : ℕ
count_at = 4

abbrev pub total_at : ℕ
total_at = count_at + 4

abbrev pub time_at : ℕ
time_at = total_at + 8

abbrev pub padding_at : ℕ
padding_at = time_at + 4

abbrev pub link_header : ℕ
link_header = padding_at + 4

unfoldable pub decode_link_header : List ℕ → LinkHeader
decode_link_header l =
    record { count = le 4 (drop count_at l); total = le 8 (drop total_at l); time = le 4 (drop time_at l); padding = le 4 (drop padding_at l) }

unfoldable pub encode_link_header : LinkHeader → List ℕ
encode_link_header h = bytes 4 link_magic ++ bytes 4 h.count ++ bytes 8 h.total ++ bytes 4 h.time ++ bytes 4 h.padding

-- ## Records

-- "records with a big-endian 16-bit length, a big-endian parent FID and the name": where FID and name stand
abbrev pub parent_at : ℕ
parent_at = 2

abbrev pub name_at : ℕ
name_at = parent_at + fid_size

-- what a record says: a directory, and the file's name there
pub record Link : Type 0 where
  pub parent : MdtFid
  pub name : List ℕ

-- the length of the record that a list begins with, which counts its own 2 bytes, the FID and the name
unfoldable pub link_length : List ℕ → ℕ
link_length l = number big 2 l

unfoldable pub decode_link : List ℕ → Link
decode_link l = record { parent = record { 0 = decode_fid_in big (drop parent_at l) }; name = take (link_length l - name_at) (drop name_at l) }

unfoldable pub encode_link : Link → List ℕ
encode_link x = number_bytes big 2 (name_at + length x.name) ++ encode_fid_in big x.parent.0 ++ x.name

unfoldable pub encode_links : List Link → List ℕ
encode_links [] = []
encode_links (x ∷ xs) = encode_link x ++ encode_links xs

-- ## The whole

-- "a record length below 19": the shortest record has a name of one byte
abbrev pub shortest_record : ℕ
shortest_record = name_at + 1

-- of the record at a place
unfoldable pub length_at : List ℕ → ℕ → ℕ
length_at l p = link_length (drop p l)

unfoldable pub short_record : List ℕ → ℕ → Bool
short_record l p = ltb (length_at l p) shortest_record

-- the places at which records begin, from p on and at most n: one follows the other to the end of the bytes, and where one is too short
-- no other is looked for
unfoldable pub places_from : ℕ → List ℕ → ℕ → List ℕ
places_from zero l p = []
places_from (suc n) l p = cond (ltb p (length l)) (p ∷ cond (short_record l p) [] (places_from n l (p + length_at l p))) []

-- the first stands after the header; there are fewer than bytes
unfoldable pub places : List ℕ → List ℕ
places l = places_from (length l) l link_header

-- time, padding and records; record count and total length follow from the records
pub record LinkEA : Type 0 where
  pub time : ℕ
  pub padding : ℕ
  pub links : List Link

unfoldable pub link_at : List ℕ → ℕ → Link
link_at l p = decode_link (drop p l)

unfoldable pub decode_link_ea : List ℕ → LinkEA
decode_link_ea l = record { time = (decode_link_header l).time; padding = (decode_link_header l).padding; links = map (link_at l) (places l) }

-- the header that belongs to the records
unfoldable pub header_of : LinkEA → LinkHeader
header_of e =
    record { count = length e.links; total = link_header + length (encode_links e.links); time = e.time; padding = e.padding }

unfoldable pub encode_link_ea : LinkEA → List ℕ
encode_link_ea e = encode_link_header (header_of e) ++ encode_links e.links
