-- A small dump by computation: the rows it gives, the same in pieces, and each number with its line. Assumes nothing.
use Prim.Native.Nat.{ℕ}
use mathlib.Core.Path.{◌≡◌, refl, ap, ◌∙◌}
use mathlib.Core.List.{List, [], ◌∷◌, ◌++◌, append-nil}
use lib.ListN.{take, drop, replicate}
use Rattle.wire.specs.Numbers.{bytes}
use Rattle.tables.specs.Bytes.{is_used, join}
use Rattle.intake.specs.Lines.{lines, onto}
use Rattle.intake.specs.Says.{starts, named, digit, is_digit, more, hex_bytes, keep, kind_of, good_size, sized, attribute, is_empty, judge, wanted, line_says, saying}
use Rattle.intake.specs.Owners.{is_decimal, told, decimal, after_space, third, second, first, until_line, after_line, next_owner}
use Rattle.intake.specs.Reading.{Reading, stops_at, goes_on, has, attribute_of, with_attribute, first_unused, parent_from, object_from, filled, fills, with_self, closes_entry, on_line, is_going, take_line, read_line, read_all, at_end, ended, dump_reading, dump_ends, outside, going, stopped}
use Rattle.intake.specs.Machine.{store, digit_byte, value_of, no_line, line_byte, line_end, going_byte, byte, feed, begin, finish}
use Rattle.intake.proofs.Simulation.{feed_all, cut_anywhere}

-- `# file: mnt/a`, `trusted.dummy=0xzz`, `trusted.lov=0x0102030405060708`
file_head : List ℕ
file_head =
    35 ∷ 32 ∷ 102 ∷ 105 ∷ 108 ∷ 101 ∷ 58 ∷ 32 ∷ 109 ∷ 110 ∷ 116 ∷ 47 ∷ 97 ∷ 10 ∷
    116 ∷ 114 ∷ 117 ∷ 115 ∷ 116 ∷ 101 ∷ 100 ∷ 46 ∷ 100 ∷ 117 ∷ 109 ∷ 109 ∷ 121 ∷ 61 ∷ 48 ∷ 120 ∷ 122 ∷ 122 ∷ 10 ∷
    116 ∷ 114 ∷ 117 ∷ 115 ∷ 116 ∷ 101 ∷ 100 ∷ 46 ∷ 108 ∷ 111 ∷ 118 ∷ 61 ∷ 48 ∷ 120 ∷ 48 ∷ 49 ∷ 48 ∷ 50 ∷ 48 ∷ 51 ∷ 48 ∷ 52 ∷ 48 ∷ 53 ∷ 48 ∷ 54 ∷ 48 ∷ 55 ∷ 48 ∷ 56 ∷ 10 ∷
    []

-- `trusted.lma`, in digits of upper case
file_lma : List ℕ
file_lma =
    116 ∷ 114 ∷ 117 ∷ 115 ∷ 116 ∷ 101 ∷ 100 ∷ 46 ∷ 108 ∷ 109 ∷ 97 ∷ 61 ∷ 48 ∷ 120 ∷ 48 ∷ 48 ∷ 48 ∷ 48 ∷ 48 ∷ 48 ∷ 48 ∷ 48 ∷ 48 ∷ 48 ∷ 48 ∷ 48 ∷ 48 ∷ 48 ∷ 48 ∷ 48 ∷ 48 ∷ 48 ∷ 48 ∷ 49 ∷ 48 ∷ 50 ∷ 48 ∷ 51 ∷ 48 ∷ 52 ∷ 48 ∷ 53 ∷ 48 ∷ 54 ∷ 48 ∷ 55 ∷ 48 ∷ 56 ∷ 48 ∷ 57 ∷ 48 ∷ 65 ∷ 48 ∷ 66 ∷ 48 ∷ 67 ∷ 48 ∷ 68 ∷ 48 ∷ 69 ∷ 48 ∷ 70 ∷ 10 ∷
    []

-- and the closing line
file : List ℕ
file = file_head ++ file_lma ++ 10 ∷ []

-- `# file: o`, the older 32 bytes of `trusted.fid`, `trusted.lma`, and the closing line
object : List ℕ
object =
    35 ∷ 32 ∷ 102 ∷ 105 ∷ 108 ∷ 101 ∷ 58 ∷ 32 ∷ 111 ∷ 10 ∷
    116 ∷ 114 ∷ 117 ∷ 115 ∷ 116 ∷ 101 ∷ 100 ∷ 46 ∷ 102 ∷ 105 ∷ 100 ∷ 61 ∷ 48 ∷ 120 ∷ 50 ∷ 48 ∷ 50 ∷ 49 ∷ 50 ∷ 50 ∷ 50 ∷ 51 ∷ 50 ∷ 52 ∷ 50 ∷ 53 ∷ 50 ∷ 54 ∷ 50 ∷ 55 ∷ 50 ∷ 56 ∷ 50 ∷ 57 ∷ 50 ∷ 97 ∷ 50 ∷ 98 ∷ 50 ∷ 99 ∷ 50 ∷ 100 ∷ 50 ∷ 101 ∷ 50 ∷ 102 ∷ 51 ∷ 48 ∷ 51 ∷ 49 ∷ 51 ∷ 50 ∷ 51 ∷ 51 ∷ 51 ∷ 52 ∷ 51 ∷ 53 ∷ 51 ∷ 54 ∷ 51 ∷ 55 ∷ 51 ∷ 56 ∷ 51 ∷ 57 ∷ 51 ∷ 97 ∷ 51 ∷ 98 ∷ 51 ∷ 99 ∷ 51 ∷ 100 ∷ 51 ∷ 101 ∷ 51 ∷ 102 ∷ 10 ∷
    116 ∷ 114 ∷ 117 ∷ 115 ∷ 116 ∷ 101 ∷ 100 ∷ 46 ∷ 108 ∷ 109 ∷ 97 ∷ 61 ∷ 48 ∷ 120 ∷ 48 ∷ 48 ∷ 48 ∷ 48 ∷ 48 ∷ 48 ∷ 48 ∷ 48 ∷ 48 ∷ 48 ∷ 48 ∷ 48 ∷ 48 ∷ 48 ∷ 48 ∷ 48 ∷ 54 ∷ 52 ∷ 54 ∷ 53 ∷ 54 ∷ 54 ∷ 54 ∷ 55 ∷ 54 ∷ 56 ∷ 54 ∷ 57 ∷ 54 ∷ 97 ∷ 54 ∷ 98 ∷ 54 ∷ 99 ∷ 54 ∷ 100 ∷ 54 ∷ 101 ∷ 54 ∷ 102 ∷ 55 ∷ 48 ∷ 55 ∷ 49 ∷ 55 ∷ 50 ∷ 55 ∷ 51 ∷ 10 ∷
    10 ∷ []

-- `1000 100 0` and `007 8 9`
owners_file : List ℕ
owners_file = 49 ∷ 48 ∷ 48 ∷ 48 ∷ 32 ∷ 49 ∷ 48 ∷ 48 ∷ 32 ∷ 48 ∷ 10 ∷ 48 ∷ 48 ∷ 55 ∷ 32 ∷ 56 ∷ 32 ∷ 57 ∷ []

used_row : List ℕ
used_row = 1 ∷ replicate 45 7

small : Reading
small = record { parents = (0 ∷ replicate 38 9) ∷ []; objects = used_row ∷ replicate 46 0 ∷ []; owners = owners_file; count = 0; entry = outside; stop = going }

-- 1,000 and 100, 8 bytes of layout, and the room past them as it was
file_row : List ℕ
file_row = 1 ∷ 0 ∷ 1 ∷ 2 ∷ 3 ∷ 4 ∷ 5 ∷ 6 ∷ 7 ∷ 8 ∷ 9 ∷ 10 ∷ 11 ∷ 12 ∷ 13 ∷ 14 ∷ 15 ∷ 232 ∷ 3 ∷ 0 ∷ 0 ∷ 100 ∷ 0 ∷ 0 ∷ 0 ∷ 8 ∷ 0 ∷ 1 ∷ 2 ∷ 3 ∷ 4 ∷ 5 ∷ 6 ∷ 7 ∷ 8 ∷ replicate 4 9

-- OST 9, 7 and 8, the first 16 bytes of the claim, not no_line
object_row : List ℕ
object_row = 1 ∷ 100 ∷ 101 ∷ 102 ∷ 103 ∷ 104 ∷ 105 ∷ 106 ∷ 107 ∷ 108 ∷ 109 ∷ 110 ∷ 111 ∷ 112 ∷ 113 ∷ 114 ∷ 115 ∷ 9 ∷ 0 ∷ 0 ∷ 0 ∷ 7 ∷ 0 ∷ 0 ∷ 0 ∷ 8 ∷ 0 ∷ 0 ∷ 0 ∷ 32 ∷ 33 ∷ 34 ∷ 35 ∷ 36 ∷ 37 ∷ 38 ∷ 39 ∷ 40 ∷ 41 ∷ 42 ∷ 43 ∷ 44 ∷ 45 ∷ 46 ∷ 47 ∷ 0 ∷ []

-- both rows go in; an unclosed entry names its first line; a third entry is 33 at its closing line, where no owner is left; two files are one row too many,
-- and a layout of 8 bytes doesn't fit in 7; of two lma lines the second is 34; 35 without an lma, 36 with both kinds, and 33 before them without an owner
by_computation :
    (dump_reading 12 small (file ++ object) ≡ record { parents = file_row ∷ []; objects = used_row ∷ object_row ∷ []; owners = []; count = 9; entry = outside; stop = going })
    × (dump_ends 12 small (file ++ object) ≡ going)
    × (dump_ends 12 small (file ++ take 30 object) ≡ stopped 33 6)
    × (dump_ends 12 small (file ++ object ++ file) ≡ stopped 33 14)
    × (dump_ends 12 small (file ++ file) ≡ stopped 37 10)
    × (dump_ends 7 small file ≡ stopped 37 5)
    × (dump_ends 12 small (file_head ++ file_lma ++ file_lma) ≡ stopped 34 5)
    × (dump_ends 12 small (file_head ++ 10 ∷ []) ≡ stopped 35 4)
    × (dump_ends 12 small (file_head ++ drop 10 object) ≡ stopped 36 6)
    × (dump_ends 12 (record { parents = []; objects = []; owners = []; count = 0; entry = outside; stop = going }) (file_head ++ 10 ∷ []) ≡ stopped 33 4)
unfolding file_head file_lma file object used_row owners_file small file_row object_row feed_all join lines onto starts named digit is_digit more hex_bytes keep kind_of good_size sized attribute is_empty judge wanted saying line_says is_decimal told decimal after_space third second first until_line after_line next_owner stops_at goes_on has attribute_of with_attribute first_unused parent_from object_from filled fills with_self closes_entry on_line is_going take_line read_line read_all at_end ended dump_reading dump_ends store digit_byte value_of no_line line_byte line_end going_byte byte feed begin finish is_used bytes
by_computation = (refl, refl, refl, refl, refl, refl, refl, refl, refl, refl)

-- cut within a word, within a byte's two digits and at a line's end
in_pieces : (feed_all 12 (begin small) (take 3 file ∷ drop 3 (take 52 file) ∷ drop 52 file ∷ object ∷ [])).reading ≡ dump_reading 12 small (file ++ object)
unfolding file_head file_lma file object join
in_pieces = cut_anywhere 12 small (take 3 file ∷ drop 3 (take 52 file) ∷ drop 52 file ∷ object ∷ []) ∙ ap (dump_reading 12 small) (append-nil (file ++ object))
