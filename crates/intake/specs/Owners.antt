-- Document 02, 2026-03: "A second file, lent whole, gives `uid gid index` in decimal, its next line as each entry closes".
use Rattle.std.specs.Prelude.{ℕ, ◌+◌, ◌-◌, ◌*◌, List, [], ◌∷◌, Bool, true, false, cond, ◌&&◌, leb, eqb}
use Rattle.wire.specs.Numbers.{max_word}
use Rattle.intake.specs.Lines.{newline}

-- a good line's uid, gid and index, and what follows the line
pub data Owning : Type 0 where
  no_owner : Owning
  owning : ℕ → ℕ → ℕ → List ℕ → Owning

-- a decimal number below 2^32, and what follows it
pub data Number : Type 0 where
  no_number : Number
  number : ℕ → List ℕ → Number

unfoldable pub is_decimal : ℕ → Bool
is_decimal b = leb 48 b && leb b 57

-- a number that ends here, where a digit has been seen
unfoldable pub told : Bool → ℕ → List ℕ → Number
told seen n l = cond (seen && leb n max_word) (number n l) no_number

-- n so far, and whether a digit has been seen
unfoldable pub decimal : Bool → ℕ → List ℕ → Number
decimal seen n [] = told seen n []
decimal seen n (b ∷ l) = cond (is_decimal b) (decimal true (10 * n + (b - 48)) l) (told seen n (b ∷ l))

-- one space, and the number after it
unfoldable pub after_space : List ℕ → Number
after_space [] = no_number
after_space (b ∷ l) = cond (eqb b 32) (decimal false 0 l) no_number

-- exactly three numbers, "the index unused for a parent"
unfoldable pub third : ℕ → ℕ → List ℕ → Number → Owning
third u g after no_number = no_owner
third u g after (number i []) = owning u g i after
third u g after (number i (b ∷ l)) = no_owner

unfoldable pub second : ℕ → List ℕ → Number → Owning
second u after no_number = no_owner
second u after (number g l) = third u g after (after_space l)

unfoldable pub first : List ℕ → Number → Owning
first after no_number = no_owner
first after (number u l) = second u after (after_space l)

-- the first line and what follows it; the last line may end without byte 10
unfoldable pub until_line : List ℕ → List ℕ
until_line [] = []
until_line (b ∷ l) = cond (eqb b newline) [] (b ∷ until_line l)

unfoldable pub after_line : List ℕ → List ℕ
after_line [] = []
after_line (b ∷ l) = cond (eqb b newline) l (after_line l)

unfoldable pub next_owner : List ℕ → Owning
next_owner owners = first (after_line owners) (decimal false 0 (until_line owners))
