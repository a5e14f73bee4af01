-- What a whole dump gives, in words of its lines: each row stands, or an entry gave it byte for byte. Document 02, 2026-03: "fill the tables", "Take a
-- parent's `trusted.lov`, an object's `trusted.fid` .. and each one's `trusted.lma`", "nothing is fresh".
use Rattle.std.specs.Prelude.{ℕ, zero, suc, ◌+◌, ◌/◌, ◌%◌, ◌≤◌, ◌≡◌, List, [], ◌∷◌, ◌++◌, Bool, true, false, cond, ◌&&◌, length, take, drop, get_or, ltb}
use Rattle.wire.specs.Numbers.{Bytes}
use Rattle.fid.specs.Fid.{fid_size}
use Rattle.tables.specs.declared.Object.{Object}
use Rattle.tables.specs.Records.{used}
use Rattle.tables.specs.Bytes.{is_used, fresh_at, parse_object}
use Rattle.intake.specs.declared.Kind.TheVariants.{Lov}
use Rattle.intake.specs.Lines.{lines}
use Rattle.intake.specs.Says.{file_word, trusted_word, lov_word, fid_word, lma_word, value_word, name_at, head_size, starts, named, hex, hex_bytes, lma_self_at, lma_size, older_size, takes, line_says}
use Rattle.intake.specs.Owners.{owning, after_line, next_owner}
use Rattle.intake.specs.Reading.{Reading, outside, parent_from, object_from, dump_reading}

-- ## Lines

-- the line `trusted.`, this word, `=0x` and the digits of these bytes, and nothing else
pub record Spells (word value line : List ℕ) : Type 0 where
  pub head : starts (trusted_word ++ word ++ value_word) line ≡ true
  pub digits : hex_bytes (drop head_size line) ≡ hex value

-- a line whose attribute is `trusted.` and this word; the name goes to the first `=` or the line's end
unfoldable pub names : List ℕ → List ℕ → Bool
names word line = starts trusted_word line && named word (drop name_at line)

-- the lines of an entry that name it
unfoldable pub naming : List ℕ → List (List ℕ) → List (List ℕ)
naming word [] = []
naming word (line ∷ more) = cond (names word line) (line ∷ naming word more) (naming word more)

-- exactly one line of the entry names this attribute, and it spells these bytes
pub record Gives (entry : List (List ℕ)) (word value : List ℕ) : Type 0 where
  pub line : List ℕ
  pub only : naming word entry ≡ line ∷ []
  pub spells : Spells word value line

-- ## Entries

-- the number of empty lines; each closes an entry
unfoldable pub closings : List (List ℕ) → ℕ
closings [] = 0
closings ([] ∷ more) = suc (closings more)
closings ((b ∷ line) ∷ more) = closings more

-- no line at all, or the last one is empty: no entry is open
unfoldable pub shut : List (List ℕ) → Bool
shut [] = true
shut ([] ∷ []) = true
shut ((b ∷ line) ∷ []) = false
shut (line ∷ next ∷ more) = shut (next ∷ more)

-- "a `# file:` line, attribute lines in hex, an empty line": the attribute lines of the entry before which n entries closed
pub record EntryAt (all entry : List (List ℕ)) (n : ℕ) : Type 0 where
  pub front : List (List ℕ)
  pub file : List ℕ
  pub back : List (List ℕ)
  pub is : all ≡ front ++ (file ∷ entry) ++ ([] ∷ back)
  pub begins : shut front ≡ true
  pub opens : starts file_word file ≡ true
  pub unbroken : closings entry ≡ 0
  pub number : n ≡ closings front

-- the owners file from its line n on, the first being line 0
unfoldable pub owners_from : ℕ → List ℕ → List ℕ
owners_from zero owners = owners
owners_from (suc n) owners = after_line (owners_from n owners)

-- an entry that closed, with its lma whole and its line of the owners file: "`uid gid index` in decimal, its next line as each entry closes"
pub record ClosedEntry (owners : List ℕ) (all : List (List ℕ)) : Type 0 where
  pub entry : List (List ℕ)
  pub n : ℕ
  pub at : EntryAt all entry n
  pub lma : List ℕ
  pub has_lma : Gives entry lma_word lma
  pub lma_whole : length lma ≡ lma_size
  pub uid : ℕ
  pub gid : ℕ
  pub index : ℕ
  pub rest : List ℕ
  pub owner : next_owner (owners_from n owners) ≡ owning uid gid index rest

-- ## Rows

-- a parent's row: the self FID of its lma, its owner, and its layout whole; the entry names no `trusted.fid`
pub record GivenParent (room : ℕ) (owners : List ℕ) (all : List (List ℕ)) (before after : List ℕ) : Type 0 where
  pub from : ClosedEntry owners all
  pub layout : List ℕ
  pub has_layout : Gives from.entry lov_word layout
  pub no_fid : naming fid_word from.entry ≡ []
  pub fits : length layout ≤ room
  pub row : after ≡ parent_from (drop lma_self_at from.lma) layout from.uid from.gid before

-- "`trusted.fid` (16 bytes, or the older 32 ..)"
pub data FidSize (size : ℕ) : Type 0 where
  sixteen : size ≡ fid_size → FidSize size
  older : size ≡ older_size → FidSize size

-- an object's row: the self FID of its lma, its owner and OST index, and as the claim the first 16 bytes of its fid, "of which only the parent counts"; the
-- entry names no `trusted.lov`
pub record GivenObject (owners : List ℕ) (all : List (List ℕ)) (before after : List ℕ) : Type 0 where
  pub from : ClosedEntry owners all
  pub fid : List ℕ
  pub has_fid_lem : Gives from.entry fid_word fid
  pub no_layout : naming lov_word from.entry ≡ []
  pub fid_whole : FidSize (length fid)
  pub row : after ≡ object_from (drop lma_self_at from.lma) (take fid_size fid) from.uid from.gid from.index

-- a row before and after a dump: it stands, or it was unused and came to be so
pub data Becomes (So : List ℕ → List ℕ → Type 0) (before after : List ℕ) : Type 0 where
  stands : after ≡ before → Becomes So before after
  given : is_used before ≡ false → So before after → Becomes So before after

-- each row of both tables
pub record RowsGiven (room : ℕ) (all : List (List ℕ)) (R S : Reading) : Type 0 where
  pub parents : (r : ℕ) → Becomes (GivenParent room R.owners all) (get_or R.parents r []) (get_or S.parents r [])
  pub objects : (r : ℕ) → Becomes (GivenObject R.owners all) (get_or R.objects r []) (get_or S.objects r [])

-- of every dump, read from outside an entry
unfoldable pub EveryRowGiven : Type 0
EveryRowGiven =
    (room : ℕ) (R : Reading) (dump : List ℕ) → R.entry ≡ outside → RowsGiven room (lines dump).complete R (dump_reading room R dump)

-- ## Fresh

-- an object row's fresh mark is 0, and the row says an object that isn't fresh
pub record NotFresh (before after : List ℕ) : Type 0 where
  pub mark : get_or after fresh_at 0 ≡ 0
  pub object : Object
  pub parses : parse_object after ≡ used object
  pub fresh : object.fresh ≡ false

-- "nothing is fresh": no object row that a dump gave
unfoldable pub NothingFresh : Type 0
NothingFresh =
    (room : ℕ) (R : Reading) (dump : List ℕ) → R.entry ≡ outside →
    (r : ℕ) → Becomes NotFresh (get_or R.objects r []) (get_or (dump_reading room R dump).objects r [])

-- ## Digits there and back

-- the digits 0 to 15, as getfattr prints them and in upper case
unfoldable pub lower_digit : ℕ → ℕ
lower_digit d = cond (ltb d 10) (48 + d) (87 + d)

unfoldable pub upper_digit : ℕ → ℕ
upper_digit d = cond (ltb d 10) (48 + d) (55 + d)

-- bytes in such digits
unfoldable pub hex_text : (ℕ → ℕ) → List ℕ → List ℕ
hex_text text [] = []
hex_text text (b ∷ v) = text (b / 16) ∷ text (b % 16) ∷ hex_text text v

-- bytes written in these digits are read back, and a `trusted.lov` line of them is that layout
pub record ReadsBack (text : ℕ → ℕ) : Type 0 where
  pub value : (v : List ℕ) → Bytes v → hex_bytes (hex_text text v) ≡ hex v
  pub layout : (room : ℕ) (v : List ℕ) → Bytes v → line_says room (trusted_word ++ lov_word ++ value_word ++ hex_text text v) ≡ takes Lov (length v) (take room v)

-- "hex (either case is good)"
unfoldable pub EitherCase : Type 0
EitherCase = ReadsBack lower_digit × ReadsBack upper_digit
