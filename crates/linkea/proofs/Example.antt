-- A link_ea of two records in full, read, walked and written back by computation. Assumes nothing.
use mathlib.Core.Path.{◌≡◌, refl}
use mathlib.Core.List.{List, [], ◌∷◌}
use Prim.Native.Nat.{ℕ}
use Rattle.std.specs.Prelude.{Ok, Err}
use Rattle.refusals.specs.declared.Refusal.TheVariants.{NoPlace}
use Rattle.wire.specs.Numbers.{le, bytes, number, number_bytes}
use Rattle.fid.specs.Fid.{decode_fid_in, encode_fid_in}
use Rattle.linkea.specs.Link.{decode_link_header, encode_link_header, link_length, decode_link, encode_link, encode_links, length_at, short_record, places_from, places, link_at, decode_link_ea, header_of, encode_link_ea}
use Rattle.linkea.specs.Conditions.{some, short_header, other_magic, past_end, count_disagrees, total_disagrees, bad_byte, bad_name, refused_link}
use Rattle.linkea.specs.Answers.{read_link, read_record, found_at}

-- "a" in [0x200000401:1:0] and "notes" in [0x200000402:7:0]
unfoldable pub example : List ℕ
example =
    0xdf ∷ 0xf1 ∷ 0xea ∷ 0x11 ∷ 2 ∷ 0 ∷ 0 ∷ 0 ∷ 66 ∷ 0 ∷ 0 ∷ 0 ∷ 0 ∷ 0 ∷ 0 ∷ 0 ∷ 5 ∷ 0 ∷ 0 ∷ 0 ∷ 6 ∷ 0 ∷ 0 ∷ 0
    ∷ 0 ∷ 19 ∷ 0 ∷ 0 ∷ 0 ∷ 2 ∷ 0 ∷ 0 ∷ 4 ∷ 1 ∷ 0 ∷ 0 ∷ 0 ∷ 1 ∷ 0 ∷ 0 ∷ 0 ∷ 0 ∷ 0x61
    ∷ 0 ∷ 23 ∷ 0 ∷ 0 ∷ 0 ∷ 2 ∷ 0 ∷ 0 ∷ 4 ∷ 2 ∷ 0 ∷ 0 ∷ 0 ∷ 7 ∷ 0 ∷ 0 ∷ 0 ∷ 0 ∷ 0x6e ∷ 0x6f ∷ 0x74 ∷ 0x65 ∷ 0x73 ∷ []

-- two records, 66 bytes, time 5, padding 6
pub example_read : read_link example ≡ Ok (record { count = 2; total = 66; time = 5; padding = 6 })
unfolding example read_link refused_link short_header other_magic some short_record past_end count_disagrees total_disagrees bad_name bad_byte places places_from length_at link_length link_at decode_link decode_link_header decode_fid_in number le
example_read = refl

-- the second record begins at 43, and its name at 61
pub example_record : read_record example 43
    ≡ Ok (record { parent = record { 0 = record { seq = 0x200000402; oid = 7; ver = 0 } }; start = 61; size = 5; next = 66 })
unfolding read_record found_at example read_link refused_link short_header other_magic some short_record past_end count_disagrees total_disagrees bad_name bad_byte places places_from length_at link_length link_at decode_link decode_link_header decode_fid_in number le
example_record = refl

-- no record begins at the end
pub example_end : read_record example 66 ≡ Err NoPlace
unfolding read_record found_at example read_link refused_link short_header other_magic some short_record past_end count_disagrees total_disagrees bad_name bad_byte places places_from length_at link_length link_at decode_link decode_link_header decode_fid_in number le
example_end = refl

-- written, it is the same bytes again
pub example_written : encode_link_ea (decode_link_ea example) ≡ example
unfolding encode_link_ea header_of encode_link_header encode_links encode_link encode_fid_in number_bytes bytes decode_link_ea example read_link refused_link short_header other_magic some short_record past_end count_disagrees total_disagrees bad_name bad_byte places places_from length_at link_length link_at decode_link decode_link_header decode_fid_in number le
example_written = refl
