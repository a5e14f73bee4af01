-- A layout written from numbers: what the writer takes and hands out.
use Rattle.std.specs.Prelude.{ℕ, List, [], ◌∷◌, Bool, cond, ◌&&◌, ◌||◌, leb, eqb, length, get_or, Option, Some, None}
use Rattle.layout.specs.Layout.{magic_one, magic_three, layout_size}
use Rattle.wire.specs.Numbers.{max_word}
use Rattle.layout_write.specs.Writer.{write_layout, written_number, write_bytes}
use Rattle.layout.specs.declared.Header.{Header}
use Rattle.capi_out.specs.Out.{out_answer, out_numbers}

unfoldable pub magic_of : ℕ → ℕ
magic_of version = cond (eqb version 3) magic_three magic_one

unfoldable pub is_version : ℕ → Bool
is_version version = eqb version 1 || eqb version 3

-- a header is handed in as seven numbers
abbrev pub header_numbers : ℕ
header_numbers = 7

-- the greatest number of 16 bits
abbrev pub max_half : ℕ
max_half = 0xffff

-- seven numbers, each fitting its field; own id and sequence are 64 bits wide, and the writer looks at the count
unfoldable pub fields_fit : List ℕ → Bool
fields_fit l =
    eqb (length l) header_numbers && is_version (get_or l 0 0) && leb (get_or l 1 0) max_word && leb (get_or l 4 0) max_word
    && leb (get_or l 6 0) max_half

-- "version, pattern, own id, own sequence, stripe size, stripe count, generation"
unfoldable pub fields_header : List ℕ → Header
fields_header l =
    record {
      magic = magic_of (get_or l 0 0);
      pattern = get_or l 1 0;
      oid = get_or l 2 0;
      seq = get_or l 3 0;
      stripe = get_or l 4 0;
      generation = get_or l 6 0;
    }

unfoldable pub fields_count : List ℕ → ℕ
fields_count l = get_or l 5 0

unfoldable pub header_given : List ℕ → Option Header
header_given l = cond (fields_fit l) (Some (fields_header l)) None

-- of a header that was given: number, "bytes written", answer, destination and what is handed out
unfoldable pub header_number : Header → ℕ → List ℕ → List ℕ → List ℕ → ℕ
header_number h n pool slots dest = written_number (write_layout h n pool slots dest)

unfoldable pub header_values : Header → ℕ → List ℕ
header_values h n = layout_size h.magic n ∷ []

unfoldable pub header_answer : Header → ℕ → List ℕ → List ℕ → List ℕ → List ℕ → ℕ
header_answer h n pool slots dest out = out_answer (header_number h n pool slots dest) (header_values h n) out

unfoldable pub header_dest : Header → ℕ → List ℕ → List ℕ → List ℕ → List ℕ → List ℕ
header_dest h n pool slots dest out = cond (eqb (header_answer h n pool slots dest out) 0) (write_bytes h n pool slots dest) dest

unfoldable pub header_out : Header → ℕ → List ℕ → List ℕ → List ℕ → List ℕ → List ℕ
header_out h n pool slots dest out = out_numbers (header_number h n pool slots dest) (header_values h n) out

-- of the fields handed in: 13 where they are no header
unfoldable pub write_number : List ℕ → List ℕ → List ℕ → List ℕ → ℕ
write_number fields pool slots dest =
    cond (fields_fit fields) (header_number (fields_header fields) (fields_count fields) pool slots dest) 13

unfoldable pub write_values : List ℕ → List ℕ
write_values fields = header_values (fields_header fields) (fields_count fields)

unfoldable pub write_answer : List ℕ → List ℕ → List ℕ → List ℕ → List ℕ → ℕ
write_answer fields pool slots dest out = out_answer (write_number fields pool slots dest) (write_values fields) out

unfoldable pub write_dest : List ℕ → List ℕ → List ℕ → List ℕ → List ℕ → List ℕ
write_dest fields pool slots dest out =
    cond (eqb (write_answer fields pool slots dest out) 0) (write_bytes (fields_header fields) (fields_count fields) pool slots dest) dest
