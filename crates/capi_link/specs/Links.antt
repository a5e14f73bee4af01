-- LinkEA values as numbers: read, one record of them, and written. Document 02, 2026-01.
use Rattle.std.specs.Prelude.{ℕ, ◌+◌, List, [], ◌∷◌, ◌++◌, Bool, cond, ◌&&◌, leb, eqb, length, get_or, Option, Some, None, Result, Ok, Err}
use Rattle.refusals.specs.declared.Refusal.{Refusal}
use Rattle.wire.specs.Numbers.{max_word}
use Rattle.linkea.specs.declared.LinkHeader.{LinkHeader}
use Rattle.linkea.specs.declared.Found.{Found}
use Rattle.linkea_write.specs.RoundTrip.{found_numbers}
use Rattle.linkea_write.specs.Writer.{link_numbers, write_link, written_number, write_link_bytes}
use Rattle.capi_out.specs.Out.{out_answer, out_numbers}

-- ## Reading

-- "record count, total length, overflow time, padding"
abbrev pub header_numbers : ℕ
header_numbers = 4

unfoldable pub header_fields : LinkHeader → List ℕ
header_fields h = h.count ∷ h.total ∷ h.time ∷ h.padding ∷ []

unfoldable pub read_fields : Result LinkHeader Refusal → List ℕ
read_fields (Err e) = []
read_fields (Ok h) = header_fields h

-- "parent sequence, id, version, name start, name length, next place": the five that the writer takes, and one more
abbrev pub record_numbers : ℕ
record_numbers = link_numbers + 1

unfoldable pub found_fields : Found → List ℕ
found_fields x = found_numbers x ++ (x.next ∷ [])

unfoldable pub record_fields : Result Found Refusal → List ℕ
record_fields (Err e) = []
record_fields (Ok x) = found_fields x

-- ## Writing

-- four numbers, each fitting its field; the total length is 64 bits wide
unfoldable pub fields_fit : List ℕ → Bool
fields_fit l = eqb (length l) header_numbers && leb (get_or l 0 0) max_word && leb (get_or l 2 0) max_word && leb (get_or l 3 0) max_word

unfoldable pub fields_header : List ℕ → LinkHeader
fields_header l = record { count = get_or l 0 0; total = get_or l 1 0; time = get_or l 2 0; padding = get_or l 3 0 }

unfoldable pub header_given : List ℕ → Option LinkHeader
header_given l = cond (fields_fit l) (Some (fields_header l)) None

-- of a header that was given: number, "bytes written", answer, destination and what is handed out
unfoldable pub given_number : LinkHeader → List ℕ → List ℕ → List ℕ → ℕ
given_number h records names dest = written_number (write_link h records names dest)

unfoldable pub given_values : LinkHeader → List ℕ
given_values h = h.total ∷ []

unfoldable pub given_answer : LinkHeader → List ℕ → List ℕ → List ℕ → List ℕ → ℕ
given_answer h records names dest out = out_answer (given_number h records names dest) (given_values h) out

unfoldable pub given_dest : LinkHeader → List ℕ → List ℕ → List ℕ → List ℕ → List ℕ
given_dest h records names dest out = cond (eqb (given_answer h records names dest out) 0) (write_link_bytes h records names dest) dest

unfoldable pub given_out : LinkHeader → List ℕ → List ℕ → List ℕ → List ℕ → List ℕ
given_out h records names dest out = out_numbers (given_number h records names dest) (given_values h) out

-- of the fields handed in: 31 where they are no header, and then nothing is written
unfoldable pub write_answer : List ℕ → List ℕ → List ℕ → List ℕ → List ℕ → ℕ
write_answer fields records names dest out = cond (fields_fit fields) (given_answer (fields_header fields) records names dest out) 31

unfoldable pub write_dest : List ℕ → List ℕ → List ℕ → List ℕ → List ℕ → List ℕ
write_dest fields records names dest out = cond (fields_fit fields) (given_dest (fields_header fields) records names dest out) dest

unfoldable pub write_out : List ℕ → List ℕ → List ℕ → List ℕ → List ℕ → List ℕ
write_out fields records names dest out = cond (fields_fit fields) (given_out (fields_header fields) records names dest out) out
