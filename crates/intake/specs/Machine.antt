-- The reader byte by byte: what it remembers of the unfinished line is its first bytes and the digits after them. Document 02, 2026-03: "Input arrives
-- in pieces .. and cutting it anywhere gives the same tables".
use Rattle.std.specs.Prelude.{ℕ, suc, ◌+◌, ◌*◌, cond, length, ltb, eqb}
use mathlib.Core.List.{List, [], ◌∷◌, ◌++◌, foldl}
use Rattle.intake.specs.Says.{Value, wrong, holds, Line, digit, is_digit, head_size, kind_of, wanted, judge}
use Rattle.intake.specs.Lines.{newline}
use Rattle.intake.specs.declared.Kind.{Kind}
use Rattle.intake.specs.Reading.{Reading, Open, outside, inside, has, attribute_of, Stop, is_going, take_line, ended}

-- digits so far: not hex, whole bytes, or half a byte pending; with the number of bytes and those that are kept
pub data Digits : Type 0 where
  broken : Digits
  even : ℕ → List ℕ → Digits
  odd : ℕ → ℕ → List ℕ → Digits

-- one more byte of a value: past what is wanted it is counted alone
unfoldable pub store : ℕ → ℕ → List ℕ → ℕ → List ℕ
store most n v b = cond (ltb n most) (v ++ b ∷ []) v

unfoldable pub digit_byte : ℕ → Digits → ℕ → Digits
digit_byte most broken b = broken
digit_byte most (even n v) b = cond (is_digit b) (odd (digit b) n v) broken
digit_byte most (odd h n v) b = cond (is_digit b) (even (suc n) (store most n v (16 * h + digit b))) broken

unfoldable pub value_of : Digits → Value
value_of broken = wrong
value_of (even n v) = holds n v
value_of (odd h n v) = wrong

-- the unfinished line
pub record Partial : Type 0 where
  pub head : List ℕ
  pub digits : Digits

-- a line of which nothing has been read
unfoldable pub no_line : Partial
no_line = record { head = []; digits = even 0 [] }

unfoldable pub line_byte : (Kind → ℕ) → Partial → ℕ → Partial
line_byte want p b =
    cond (ltb (length p.head) head_size) (record { head = p.head ++ b ∷ []; digits = p.digits })
    (record { head = p.head; digits = digit_byte (want (kind_of p.head)) p.digits b })

unfoldable pub line_end : Partial → Line
line_end p = judge p.head (value_of p.digits)

-- of an attribute that the entry has already nothing is kept: its line stops the reading whatever it holds
unfoldable pub want_in : ℕ → Open → Kind → ℕ
want_in room outside k = wanted room k
want_in room (inside e) k = cond (has (attribute_of k e)) 0 (wanted room k)

pub record State : Type 0 where
  pub reading : Reading
  pub line : Partial

unfoldable pub going_byte : ℕ → State → ℕ → State
going_byte room s b =
    cond (eqb b newline) (record { reading = take_line room s.reading (line_end s.line); line = no_line })
    (record { reading = s.reading; line = line_byte (want_in room s.reading.entry) s.line b })

-- a reading that has stopped stays as it is
unfoldable pub byte : ℕ → State → ℕ → State
byte room s b = cond (is_going s.reading.stop) (going_byte room s b) s

-- a piece, and pieces one after another
unfoldable pub feed : ℕ → State → List ℕ → State
feed room s l = foldl (byte room) s l

unfoldable pub begin : Reading → State
begin R = record { reading = R; line = no_line }

unfoldable pub finish : State → Stop
finish s = ended s.reading s.line.head
