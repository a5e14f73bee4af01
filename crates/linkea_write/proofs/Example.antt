-- Two records handed to the writer, by computation. Assumes nothing.
use mathlib.Core.Path.{◌≡◌, refl}
use mathlib.Core.List.{List, [], ◌∷◌, ◌++◌}
use Prim.Native.Nat.{ℕ}
use lib.ListN.{replicate}
use Rattle.wire.specs.Numbers.{bytes, number_bytes}
use Rattle.fid.specs.Fid.{encode_fid_in}
use Rattle.linkea.specs.Link.{header_of, encode_link, encode_links, encode_link_header, encode_link_ea}
use Rattle.linkea.specs.Conditions.{some, bad_byte}
use Rattle.linkea.specs.declared.LinkHeader.{LinkHeader}
use Rattle.linkea.proofs.Example.{example}
use Rattle.std.specs.Prelude.{Ok, Err}
use Rattle.refusals.specs.declared.Refusal.TheVariants.{BadLink, TooShort}
use Rattle.linkea_write.specs.Writer.{number_of, parent_given, start_given, size_given, link_given, upward, link_ea_given, wide_parent, empty_name, long_record, name_outside, bad_name_given, bad_given, other_count, other_total, refused_given, write_link, left_by, write_link_bytes}

unfoldable pub header : LinkHeader
header = record { count = 2; total = 66; time = 5; padding = 6 }

-- "a/notes"
unfoldable pub lent : List ℕ
lent = 0x61 ∷ 0x2f ∷ 0x6e ∷ 0x6f ∷ 0x74 ∷ 0x65 ∷ 0x73 ∷ []

-- "a" in [0x200000401:1:0] and, from a place on, "notes" in [0x200000402:7:0]
unfoldable pub numbers : ℕ → List ℕ
numbers start = 0x200000401 ∷ 1 ∷ 0 ∷ 0 ∷ 1 ∷ 0x200000402 ∷ 7 ∷ 0 ∷ start ∷ 5 ∷ []

-- written over 68 bytes, they leave the last two
pub two_written : (write_link header (numbers 2) lent (replicate 68 7) ≡ Ok 66) × (write_link_bytes header (numbers 2) lent (replicate 68 7) ≡ example ++ 7 ∷ 7 ∷ [])
unfolding header lent numbers example bytes number_bytes encode_fid_in header_of encode_link encode_links encode_link_header encode_link_ea some bad_byte number_of parent_given start_given size_given link_given upward link_ea_given wide_parent empty_name long_record name_outside bad_name_given bad_given other_count other_total refused_given write_link left_by write_link_bytes
two_written = (refl, refl)

-- a name with a slash is 31, with room or without; with good names and no room it is 17
pub slash_refused : (write_link header (numbers 1) lent (replicate 65 7) ≡ Err BadLink) × (write_link header (numbers 2) lent (replicate 65 7) ≡ Err TooShort)
unfolding header lent numbers bytes number_bytes encode_fid_in header_of encode_link encode_links some bad_byte number_of parent_given start_given size_given link_given upward link_ea_given wide_parent empty_name long_record name_outside bad_name_given bad_given other_count other_total refused_given write_link
slash_refused = (refl, refl)
