-- What a piece that is fed leaves, for every input: refusals first, then the machine's state after the piece. Document 02, 2026-03: "Input arrives in pieces
-- of at most 64 KiB, else 11".
use Rattle.std.specs.Prelude.{ℕ, ◌+◌, ◌≤◌, ◌≡◌, List, [], ◌∷◌, true, cond, ◌&&◌, length, set, eqb, leb}
use Rattle.tables.specs.Bytes.{layout_room, join}
use Rattle.tables.specs.Check.{parents_whole, objects_whole, test, first_failing}
use Rattle.intake.specs.Reading.{Stop, going, stopped}
use Rattle.intake.specs.Machine.{State, feed}
use Rattle.intake_state.specs.State.{kept_of, max_read, machine_in, state_stands}

abbrev pub max_piece : ℕ
max_piece = 65536

-- 11, 16 and 17 in this order, else 0
unfoldable pub feed_refusal : List ℕ → List ℕ → List ℕ → List ℕ → List ℕ → ℕ → ℕ
feed_refusal s piece file p o places =
    first_failing (test 11 (leb (length piece) max_piece && (parents_whole p && objects_whole o)) ∷ test 16 (state_stands s file) ∷ test 17 (leb 1 places) ∷ [])

-- the answer of a reading, and "the line, written with 33 to 37 alone"
unfoldable pub stop_number : Stop → ℕ
stop_number going = 0
stop_number (stopped n line) = n

unfoldable pub out_line : ℕ → ℕ → List ℕ → List ℕ
out_line answer line out = cond (eqb answer 0) out (set out 0 line)

unfoldable pub stop_line : Stop → List ℕ → List ℕ
stop_line going out = out
stop_line (stopped n line) out = set out 0 line

-- the machine after the piece, or as it was where the call is refused
unfoldable pub fed_machine : ℕ → List ℕ → List ℕ → List ℕ → List ℕ → List ℕ → State
fed_machine refused s piece file p o = cond (eqb refused 0) (feed layout_room (machine_in s file p o) piece) (machine_in s file p o)

unfoldable pub fed_answer : ℕ → State → ℕ
fed_answer refused S = cond (eqb refused 0) (stop_number S.reading.stop) refused

unfoldable pub fed_line : ℕ → State → List ℕ → List ℕ
fed_line refused S out = cond (eqb refused 0) (stop_line S.reading.stop out) out

-- the tables' rows, one after another
unfoldable pub fed_table : ℕ → List (List ℕ) → List ℕ → List ℕ
fed_table refused rows l = cond (eqb refused 0) (join rows) l

pub record Fed (n : ℕ) (s piece file p o out : List ℕ) (s' p' o' out' : List ℕ) (r : ℕ) : Type 0 where
  pub answer : r ≡ fed_answer n (fed_machine n s piece file p o)
  pub line : out' ≡ fed_line n (fed_machine n s piece file p o) out
  pub state : machine_in s' file p' o' ≡ fed_machine n s piece file p o
  pub parents : p' ≡ fed_table n (fed_machine n s piece file p o).reading.parents p
  pub objects : o' ≡ fed_table n (fed_machine n s piece file p o).reading.objects o
  -- a call that is refused, and one after the reading stopped, change nothing
  pub refused : (n ≡ 0 → ⊥) → s' ≡ s
  pub stays : ((kept_of s).answer ≡ 0 → ⊥) → s' ≡ s
  -- the lines read and the bytes of a value grow by at most the piece's bytes, and while they can be counted a state that passes leaves one that passes
  pub count : (kept_of s').reader.count ≤ (kept_of s).reader.count + length piece
  pub size : (kept_of s').reader.line.size ≤ (kept_of s).reader.line.size + length piece
  pub passes : state_stands s file ≡ true → (kept_of s').reader.count ≤ max_read → (kept_of s').reader.line.size ≤ max_read → state_stands s' file ≡ true

unfoldable pub PieceFed : List ℕ → List ℕ → List ℕ → List ℕ → List ℕ → List ℕ → List ℕ → List ℕ → List ℕ → List ℕ → ℕ → Type 0
PieceFed s piece file p o out s' p' o' out' r = Fed (feed_refusal s piece file p o (length out)) s piece file p o out s' p' o' out' r
