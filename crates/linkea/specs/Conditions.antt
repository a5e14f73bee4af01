-- The conditions of 31, each a definition, in the order in which the request names them. Document 02, 2026-01.
use Rattle.std.specs.Prelude.{ℕ, ◌+◌, List, [], ◌∷◌, Bool, false, not, ◌||◌, length, ltb, eqb}
use Rattle.wire.specs.Numbers.{le}
use Rattle.linkea.specs.Link.{link_magic, link_header, decode_link_header, length_at, link_at, places}
unfoldable pub use Rattle.linkea.specs.Link.{short_record}

-- one of a list of numbers
unfoldable pub some : (ℕ → Bool) → List ℕ → Bool
some test [] = false
some test (n ∷ ns) = test n || some test ns

-- "A short header"
unfoldable pub short_header : List ℕ → Bool
short_header l = ltb (length l) link_header

-- "another magic"
unfoldable pub other_magic : List ℕ → Bool
other_magic l = not (eqb (le 4 l) link_magic)

-- "a record length below 19", of the record at a place, is `shortRecord`

-- "a record past the end", of the record at a place
unfoldable pub past_end : List ℕ → ℕ → Bool
past_end l p = ltb (length l) (p + length_at l p)

-- "a count .. that disagrees" with the records that are there
unfoldable pub count_disagrees : List ℕ → Bool
count_disagrees l = not (eqb (decode_link_header l).count (length (places l)))

-- "or total that disagrees" with the bytes that are lent
unfoldable pub total_disagrees : List ℕ → Bool
total_disagrees l = not (eqb (decode_link_header l).total (length l))

-- "a slash or zero byte in a name"
abbrev pub slash : ℕ
slash = 47

unfoldable pub bad_byte : ℕ → Bool
bad_byte b = eqb b slash || eqb b 0

unfoldable pub bad_name : List ℕ → ℕ → Bool
bad_name l p = some bad_byte (link_at l p).name

-- "is 31"
unfoldable pub refused_link : List ℕ → Bool
refused_link l =
    short_header l || other_magic l || some (short_record l) (places l) || some (past_end l) (places l) || count_disagrees l || total_disagrees l
    || some (bad_name l) (places l)

-- what concerns one record
unfoldable pub bad_record : List ℕ → ℕ → Bool
bad_record l p = short_record l p || past_end l p || bad_name l p
