-- What the link_ea writer takes, answers and leaves in the destination, refusals first. Document 02, 2026-01.
use Rattle.std.specs.Prelude.{ℕ, zero, suc, ◌+◌, ◌*◌, List, [], ◌∷◌, map, Bool, cond, not, ◌||◌, length, take, drop, get_or, ltb, eqb, Result, Ok, Err}
use Rattle.std.proofs.lemmas.List.Edits.{sets}
use Rattle.wire.specs.Numbers.{max_word}
use Rattle.refusals.specs.Numbers.{answer}
use Rattle.refusals.specs.declared.Refusal.{Refusal}
use Rattle.refusals.specs.declared.Refusal.TheVariants.{BadLink, TooShort}
use Rattle.fid.specs.declared.MdtFid.{MdtFid}
use Rattle.linkea.specs.Link.{Link, LinkEA, name_at, header_of, encode_link_ea}
use Rattle.linkea.specs.Conditions.{some, bad_byte}
use Rattle.linkea.specs.declared.LinkHeader.{LinkHeader}

-- ## Records as numbers

-- records are handed in as five numbers each, in this order: sequence, id and version of the parent, where the name starts, its length
abbrev pub link_numbers : ℕ
link_numbers = 5

-- number k of the j-th record
unfoldable pub number_of : List ℕ → ℕ → ℕ → ℕ
number_of numbers j k = get_or numbers (link_numbers * j + k) 0

unfoldable pub parent_given : List ℕ → ℕ → MdtFid
parent_given numbers j = record { 0 = record { seq = number_of numbers j 0; oid = number_of numbers j 1; ver = number_of numbers j 2 } }

unfoldable pub start_given : List ℕ → ℕ → ℕ
start_given numbers j = number_of numbers j 3

unfoldable pub size_given : List ℕ → ℕ → ℕ
size_given numbers j = number_of numbers j 4

-- "names (the bytes in which the names lie)"
unfoldable pub link_given : List ℕ → List ℕ → ℕ → Link
link_given numbers names j =
    record { parent = parent_given numbers j; name = take (size_given numbers j) (drop (start_given numbers j) names) }

-- the n numbers from j on
unfoldable pub upward : ℕ → ℕ → List ℕ
upward zero j = []
upward (suc n) j = j ∷ upward n (suc j)

-- the bytes of the n records from the j-th on
unfoldable pub bytes_given : List ℕ → ℕ → ℕ → ℕ
bytes_given numbers zero j = 0
bytes_given numbers (suc n) j = name_at + size_given numbers j + bytes_given numbers n (suc j)

-- the link_ea that is handed to the writer
unfoldable pub link_ea_given : LinkHeader → List ℕ → List ℕ → LinkEA
link_ea_given h numbers names =
    record { time = h.time; padding = h.padding; links = map (link_given numbers names) (upward h.count 0) }

-- ## The conditions of 31 in the writer, of the j-th record

-- an id or a version that doesn't fit its field
unfoldable pub wide_parent : List ℕ → ℕ → Bool
wide_parent numbers j = ltb max_word (number_of numbers j 1) || ltb max_word (number_of numbers j 2)

-- "a record length below 19": an empty name
unfoldable pub empty_name : List ℕ → ℕ → Bool
empty_name numbers j = eqb (size_given numbers j) 0

-- "or, written, above 65,535"
abbrev pub longest_record : ℕ
longest_record = 65535

unfoldable pub long_record : List ℕ → ℕ → Bool
long_record numbers j = ltb longest_record (name_at + size_given numbers j)

-- a name that lies outside the lent bytes
unfoldable pub name_outside : List ℕ → List ℕ → ℕ → Bool
name_outside numbers names j = ltb (length names) (start_given numbers j + size_given numbers j)

-- "a slash or zero byte in a name"
unfoldable pub bad_name_given : List ℕ → List ℕ → ℕ → Bool
bad_name_given numbers names j = some bad_byte (link_given numbers names j).name

unfoldable pub bad_given : List ℕ → List ℕ → ℕ → Bool
bad_given numbers names j =
    wide_parent numbers j || empty_name numbers j || long_record numbers j || name_outside numbers names j || bad_name_given numbers names j

-- ## The writer

-- "a count or total that disagrees"
unfoldable pub other_count : LinkHeader → List ℕ → Bool
other_count h numbers = not (eqb (length numbers) (link_numbers * h.count))

unfoldable pub other_total : LinkHeader → List ℕ → List ℕ → Bool
other_total h numbers names = not (eqb h.total (header_of (link_ea_given h numbers names)).total)

-- "is 31"
unfoldable pub refused_given : LinkHeader → List ℕ → List ℕ → Bool
refused_given h numbers names = other_count h numbers || some (bad_given numbers names) (upward h.count 0) || other_total h numbers names

-- "in the writer before 17"
unfoldable pub write_link : LinkHeader → List ℕ → List ℕ → List ℕ → Result ℕ Refusal
write_link h numbers names dest =
    cond (refused_given h numbers names) (Err BadLink) (cond (ltb (length dest) h.total) (Err TooShort) (Ok h.total))

unfoldable pub written_number : Result ℕ Refusal → ℕ
written_number r = answer r

-- the destination: the linkEA's bytes in front, all else unchanged
unfoldable pub left_by : Result ℕ Refusal → List ℕ → List ℕ → List ℕ
left_by (Err e) written dest = dest
left_by (Ok n) written dest = sets dest 0 written

unfoldable pub write_link_bytes : LinkHeader → List ℕ → List ℕ → List ℕ → List ℕ
write_link_bytes h numbers names dest = left_by (write_link h numbers names dest) (encode_link_ea (link_ea_given h numbers names)) dest
