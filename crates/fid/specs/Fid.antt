-- FIDs: their 16 bytes, the good-FID rule, and when two are the same. Document 01, "The tables".
use Rattle.std.specs.Prelude.{ℕ, ◌+◌, List, ◌++◌, Bool, ◌&&◌, drop, leb, eqb}
use Rattle.wire.specs.Numbers.{le, bytes, Order, number, number_bytes}
use Rattle.fid.specs.declared.Fid.{Fid}
use Rattle.fid.specs.declared.MdtFid.{MdtFid}
use Rattle.fid.specs.declared.OstFid.{OstFid}

-- "A FID is 16 bytes: sequence (64 bits), object id (32), version (32)": where id and version stand
abbrev pub id_at : ℕ
id_at = 8

abbrev pub version_at : ℕ
version_at = id_at + 4

abbrev pub fid_size : ℕ
fid_size = version_at + 4

-- the FID that a list begins with
unfoldable pub decode_fid : List ℕ → Fid
decode_fid l = record { seq = le 8 l; oid = le 4 (drop id_at l); ver = le 4 (drop version_at l) }

-- and its bytes
unfoldable pub encode_fid : Fid → List ℕ
encode_fid f = bytes 8 f.seq ++ bytes 4 f.oid ++ bytes 4 f.ver

-- the same in either byte order, field by field
unfoldable pub decode_fid_in : Order → List ℕ → Fid
decode_fid_in o l = record { seq = number o 8 l; oid = number o 4 (drop id_at l); ver = number o 4 (drop version_at l) }

unfoldable pub encode_fid_in : Order → Fid → List ℕ
encode_fid_in o f = number_bytes o 8 f.seq ++ number_bytes o 4 f.oid ++ number_bytes o 4 f.ver

-- "a sequence from 0x200000400 to 0xfffffffffffffffe"
abbrev pub least_sequence : ℕ
least_sequence = 0x200000400

abbrev pub greatest_sequence : ℕ
greatest_sequence = 0xfffffffffffffffe

unfoldable pub good_sequence : ℕ → Bool
good_sequence s = leb least_sequence s && leb s greatest_sequence

-- sequence and object id are good: what a claim's FID needs, whose version is an index
unfoldable pub good_number : Fid → Bool
good_number f = good_sequence f.seq && leb 1 f.oid

-- the good-FID rule: good sequence, "an id of at least 1 and version 0"
unfoldable pub good_fid : Fid → Bool
good_fid f = good_number f && eqb f.ver 0

-- "An MDT FID and an OST FID are two kinds of number": a file's, and an object's, both by the good-FID rule
unfoldable pub good_file : MdtFid → Bool
good_file f = good_fid f.0

unfoldable pub good_object : OstFid → Bool
good_object f = good_fid f.0

-- "Reserve: a list of good OST FIDs"
unfoldable pub good_reserve : OstFid → Bool
good_reserve f = good_fid f.0

-- the FID of 16 zero bytes
unfoldable pub zero_fid : Fid
zero_fid = record { seq = 0; oid = 0; ver = 0 }

unfoldable pub same_fid : Fid → Fid → Bool
same_fid f g = eqb f.seq g.seq && eqb f.oid g.oid && eqb f.ver g.ver
