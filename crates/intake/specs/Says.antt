-- What one line of a dump says. Document 02, 2026-03: "Take a parent's `trusted.lov`, an object's `trusted.fid` .. and each one's `trusted.lma` ..,
-- skip other `trusted.` lines".
use Rattle.std.specs.Prelude.{ℕ, ◌+◌, ◌-◌, ◌*◌, List, [], ◌∷◌, Bool, true, false, cond, ◌&&◌, ◌||◌, length, take, drop, leb, ltb, eqb}
use Rattle.fid.specs.Fid.{fid_size}
use Rattle.intake.specs.declared.Kind.{Kind}
use Rattle.intake.specs.declared.Kind.TheVariants.{Lov, Fid, Lma, Other}

-- what is kept of a value: its length, and its first bytes, as many as are wanted of its kind
pub data Value : Type 0 where
  wrong : Value
  holds : ℕ → List ℕ → Value

pub data Line : Type 0 where
  opens : Line
  closes : Line
  skipped : Line
  bad : Line
  takes : Kind → ℕ → List ℕ → Line

-- ## Words

-- `# file:`
abbrev pub file_word : List ℕ
file_word = 35 ∷ 32 ∷ 102 ∷ 105 ∷ 108 ∷ 101 ∷ 58 ∷ []

-- `trusted.`
abbrev pub trusted_word : List ℕ
trusted_word = 116 ∷ 114 ∷ 117 ∷ 115 ∷ 116 ∷ 101 ∷ 100 ∷ 46 ∷ []

-- `lov`, `fid`, `lma`
abbrev pub lov_word : List ℕ
lov_word = 108 ∷ 111 ∷ 118 ∷ []

abbrev pub fid_word : List ℕ
fid_word = 102 ∷ 105 ∷ 100 ∷ []

abbrev pub lma_word : List ℕ
lma_word = 108 ∷ 109 ∷ 97 ∷ []

-- `=0x`
abbrev pub value_word : List ℕ
value_word = 61 ∷ 48 ∷ 120 ∷ []

-- where the name stands after `trusted.`, `=0x` after one of the three names, and the digits after that
abbrev pub name_at : ℕ
name_at = 8

abbrev pub mark_at : ℕ
mark_at = name_at + 3

abbrev pub head_size : ℕ
head_size = mark_at + 3

unfoldable pub starts : List ℕ → List ℕ → Bool
starts [] l = true
starts (a ∷ w) [] = false
starts (a ∷ w) (b ∷ l) = eqb b a && starts w l

-- the name, which goes to the first `=` or the line's end, is this word
unfoldable pub named : List ℕ → List ℕ → Bool
named [] [] = true
named [] (b ∷ l) = eqb b 61
named (a ∷ w) [] = false
named (a ∷ w) (b ∷ l) = eqb b a && named w l

-- ## Digits

-- "hex (either case is good)"; 16 is no digit
unfoldable pub digit : ℕ → ℕ
digit b =
    cond (leb 48 b && leb b 57) (b - 48) (cond (leb 65 b && leb b 70) (b - 55) (cond (leb 97 b && leb b 102) (b - 87) 16))

unfoldable pub is_digit : ℕ → Bool
is_digit b = ltb (digit b) 16

-- the bytes of pairs of digits
pub data Hex : Type 0 where
  no_hex : Hex
  hex : List ℕ → Hex

unfoldable pub more : ℕ → Hex → Hex
more b no_hex = no_hex
more b (hex v) = hex (b ∷ v)

unfoldable pub hex_bytes : List ℕ → Hex
hex_bytes [] = hex []
hex_bytes (a ∷ []) = no_hex
hex_bytes (a ∷ b ∷ l) = cond (is_digit a && is_digit b) (more (16 * digit a + digit b) (hex_bytes l)) no_hex

unfoldable pub keep : ℕ → Hex → Value
keep n no_hex = wrong
keep n (hex v) = holds (length v) (take n v)

-- ## The line

-- which of the three a line names
unfoldable pub kind_of : List ℕ → Kind
kind_of l =
    cond (starts trusted_word l)
    (cond (named lov_word (drop name_at l)) Lov (cond (named fid_word (drop name_at l)) Fid (cond (named lma_word (drop name_at l)) Lma Other))) Other

-- "`trusted.lma` (compat 4, incompat 4, self FID 16)": where the self FID stands, and the length
abbrev pub lma_self_at : ℕ
lma_self_at = 8

abbrev pub lma_size : ℕ
lma_size = lma_self_at + fid_size

-- "`trusted.fid` (16 bytes, or the older 32, of which only the parent counts)"
abbrev pub older_size : ℕ
older_size = 32

-- the lengths that are good
unfoldable pub good_size : Kind → ℕ → Bool
good_size Lov n = true
good_size Fid n = eqb n fid_size || eqb n older_size
good_size Lma n = eqb n lma_size
good_size Other n = false

unfoldable pub sized : Kind → Value → Line
sized k wrong = bad
sized k (holds n v) = cond (good_size k n) (takes k n v) bad

-- "skip other `trusted.` lines"; a taken one has `=0x` and its value
unfoldable pub attribute : Kind → List ℕ → Value → Line
attribute Other a x = skipped
attribute Lov a x = cond (starts value_word a) (sized Lov x) bad
attribute Fid a x = cond (starts value_word a) (sized Fid x) bad
attribute Lma a x = cond (starts value_word a) (sized Lma x) bad

unfoldable pub is_empty : List ℕ → Bool
is_empty [] = true
is_empty (b ∷ l) = false

-- what a line says, where its value is x
unfoldable pub judge : List ℕ → Value → Line
judge l x =
    cond (is_empty l) closes
    (cond (starts file_word l) opens (cond (starts trusted_word l) (attribute (kind_of l) (drop mark_at l) x) bad))

-- how much of a value is wanted: a layout as long as a row has room, "only the parent" of the older 32 bytes, all of an lma
unfoldable pub wanted : ℕ → Kind → ℕ
wanted room Lov = room
wanted room Fid = fid_size
wanted room Lma = lma_size
wanted room Other = 0

-- a line of whose value so much is kept
unfoldable pub saying : (Kind → ℕ) → List ℕ → Line
saying want l = judge l (keep (want (kind_of l)) (hex_bytes (drop head_size l)))

unfoldable pub line_says : ℕ → List ℕ → Line
line_says room l = saying (wanted room) l
