-- What calls of `feed` one after another come to. Document 02, 2026-03: "Input arrives in pieces of at most 64 KiB, else 11, and cutting it anywhere gives
-- the same tables".
use Rattle.std.specs.Prelude.{ℕ, ◌≤◌, ◌≡◌, List, [], ◌∷◌, ◌++◌, true, length, get_or, replicate}
use Rattle.tables.specs.Bytes.{layout_room, parent_rows, object_rows, join}
use Rattle.tables.specs.Check.{parents_whole, objects_whole}
use Rattle.intake.specs.Lines.{lines}
use Rattle.intake.specs.Given.{GivenParent, GivenObject, Becomes, NotFresh}
use Rattle.intake.specs.Reading.{bad_dump, Reading, outside, going, dump_reading, dump_ends}
use Rattle.intake_state.specs.State.{state_size, max_read, state_stands}
use Rattle.intake_feed.specs.Feed.{max_piece, feed_refusal, stop_number, stop_line, PieceFed}
use Rattle.intake_feed.specs.End.{DumpEnded}

-- calls of `feed` one after another, each on what the last one left, each as its contract says: state, tables, line and answer before and after
unfoldable pub Calls : List ℕ → List (List ℕ) → List ℕ → List ℕ → List ℕ → List ℕ → ℕ → List ℕ → List ℕ → List ℕ → List ℕ → ℕ → Type 0
Calls file [] s p o out r s' p' o' out' r' = (s ≡ s') × (p ≡ p') × (o ≡ o') × (out ≡ out') × (r ≡ r')
Calls file (piece ∷ cut) s p o out r s' p' o' out' r' =
    (s₁ : List ℕ) × (p₁ : List ℕ) × (o₁ : List ℕ) × (out₁ : List ℕ) × (r₁ : ℕ) × PieceFed s piece file p o out s₁ p₁ o₁ out₁ r₁
    × Calls file cut s₁ p₁ o₁ out₁ r₁ s' p' o' out' r'

-- the state of zeros, and the reading that begins with it
unfoldable pub zero_state : List ℕ
zero_state = replicate state_size 0

unfoldable pub beginning : List ℕ → List ℕ → List ℕ → Reading
beginning file p o = record { parents = parent_rows p; objects = object_rows o; owners = file; count = 0; entry = outside; stop = going }

-- "pieces of at most 64 KiB"
unfoldable pub Short : List (List ℕ) → Type 0
Short [] = Unit {0}
Short (piece ∷ cut) = (length piece ≤ max_piece) × Short cut

-- what is lent: whole tables, a place for the line, short pieces, and a dump whose lines and bytes can be counted
pub record Lent (cut : List (List ℕ)) (p o out : List ℕ) : Type 0 where
  pub parents : parents_whole p ≡ true
  pub objects : objects_whole o ≡ true
  pub place : 1 ≤ length out
  pub short : Short cut
  pub counted : length (join cut) ≤ max_read

-- tables, answer and line are those of the definition on the whole dump, at whatever places it was cut; the state passes its test, and the end answers for
-- the whole
pub record CutAnywhere (file : List ℕ) (cut : List (List ℕ)) (p o out s' p' o' out' : List ℕ) (r' : ℕ) : Type 0 where
  pub parents : p' ≡ join (dump_reading layout_room (beginning file p o) (join cut)).parents
  pub objects : o' ≡ join (dump_reading layout_room (beginning file p o) (join cut)).objects
  pub answer : r' ≡ stop_number (dump_reading layout_room (beginning file p o) (join cut)).stop
  pub line : out' ≡ stop_line (dump_reading layout_room (beginning file p o) (join cut)).stop out
  pub passes : state_stands s' file ≡ true
  pub end : (last last' : List ℕ) (e : ℕ) → 1 ≤ length last → DumpEnded s' last last' e
      → (e ≡ stop_number (dump_ends layout_room (beginning file p o) (join cut))) × (last' ≡ stop_line (dump_ends layout_room (beginning file p o) (join cut)) last)

-- no call is assumed not to be refused: that none is follows
unfoldable pub EveryCut : Type 0
EveryCut =
    (file : List ℕ) (cut : List (List ℕ)) (p o out s' p' o' out' : List ℕ) (r' : ℕ) → Lent cut p o out
    → Calls file cut zero_state p o out 0 s' p' o' out' r' → CutAnywhere file cut p o out s' p' o' out' r'

-- each row of the lent tables stands as it was, or was unused and an entry of the dump gave it, byte for byte; and "nothing is fresh"
pub record RowsCome (file : List ℕ) (cut : List (List ℕ)) (p o p' o' : List ℕ) : Type 0 where
  pub parents : (r : ℕ) → Becomes (GivenParent layout_room file (lines (join cut)).complete) (get_or (parent_rows p) r []) (get_or (parent_rows p') r [])
  pub objects : (r : ℕ) → Becomes (GivenObject file (lines (join cut)).complete) (get_or (object_rows o) r []) (get_or (object_rows o') r [])
  pub fresh : (r : ℕ) → Becomes NotFresh (get_or (object_rows o) r []) (get_or (object_rows o') r [])

unfoldable pub EveryRowComes : Type 0
EveryRowComes =
    (file : List ℕ) (cut : List (List ℕ)) (p o out s' p' o' out' : List ℕ) (r' : ℕ) → Lent cut p o out
    → Calls file cut zero_state p o out 0 s' p' o' out' r' → RowsCome file cut p o p' o'

-- 33 to 37 "stop the reading": every further call gives the same answer and line, and leaves state and tables as they are
pub record NothingAfter (s p o out : List ℕ) (r : ℕ) (s' p' o' out' : List ℕ) (r' : ℕ) : Type 0 where
  pub state : s' ≡ s
  pub parents : p' ≡ p
  pub objects : o' ≡ o
  pub line : out' ≡ out
  pub answer : r' ≡ r

-- of calls that came to such a stop, and of any short pieces fed after them, however many
unfoldable pub NothingAfterStop : Type 0
NothingAfterStop =
    (file : List ℕ) (cut more : List (List ℕ)) (p o out s₁ p₁ o₁ out₁ : List ℕ) (r₁ : ℕ) (s₂ p₂ o₂ out₂ : List ℕ) (r₂ : ℕ) → Lent cut p o out
    → Calls file cut zero_state p o out 0 s₁ p₁ o₁ out₁ r₁ → bad_dump ≤ r₁ → Short more → Calls file more s₁ p₁ o₁ out₁ r₁ s₂ p₂ o₂ out₂ r₂
    → NothingAfter s₁ p₁ o₁ out₁ r₁ s₂ p₂ o₂ out₂ r₂

-- ## Refused calls in between

-- a call that takes a piece, or one that is refused, whatever it is lent
pub data Step : Type 0 where
  takes : List ℕ → Step
  refused : Step

unfoldable pub One : List ℕ → Step → List ℕ → List ℕ → List ℕ → List ℕ → List ℕ → List ℕ → Type 0
One file (takes piece) s p o s' p' o' =
    (out : List ℕ) × (out' : List ℕ) × (r : ℕ) × PieceFed s piece file p o out s' p' o' out' r × (feed_refusal s piece file p o (length out) ≡ 0)
One file refused s p o s' p' o' =
    (piece : List ℕ) × (other : List ℕ) × (out : List ℕ) × (out' : List ℕ) × (r : ℕ) × PieceFed s piece other p o out s' p' o' out' r
    × (feed_refusal s piece other p o (length out) ≡ 0 → ⊥)

unfoldable pub Steps : List ℕ → List Step → List ℕ → List ℕ → List ℕ → List ℕ → List ℕ → List ℕ → Type 0
Steps file [] s p o s' p' o' = (s ≡ s') × (p ≡ p') × (o ≡ o')
Steps file (step ∷ more) s p o s' p' o' = (s₁ : List ℕ) × (p₁ : List ℕ) × (o₁ : List ℕ) × One file step s p o s₁ p₁ o₁ × Steps file more s₁ p₁ o₁ s' p' o'

-- the bytes that were taken
unfoldable pub taken_bytes : List Step → List ℕ
taken_bytes [] = []
taken_bytes (takes piece ∷ more) = piece ++ taken_bytes more
taken_bytes (refused ∷ more) = taken_bytes more

-- "11, 16 and 17 change nothing, and reading can go on": the tables are those of the definition on the bytes that were taken
unfoldable pub RefusedDropOut : Type 0
RefusedDropOut =
    (file : List ℕ) (steps : List Step) (p o s' p' o' : List ℕ) → parents_whole p ≡ true → objects_whole o ≡ true → Steps file steps zero_state p o s' p' o'
    → (p' ≡ join (dump_reading layout_room (beginning file p o) (taken_bytes steps)).parents)
    × (o' ≡ join (dump_reading layout_room (beginning file p o) (taken_bytes steps)).objects)
