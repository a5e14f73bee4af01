-- What a line's end and a piece do to a state. Document 02, 2026-03: "Input arrives in pieces".
use Rattle.std.specs.Prelude.{ℕ, suc, ◌+◌, ◌≤◌, ◌<◌, ◌≡◌, length}
use mathlib.Core.List.{List, foldl}
use Rattle.tables.specs.Bytes.{layout_room}
use Rattle.intake.specs.Lines.{newline}
use Rattle.intake.specs.Reading.{closes_entry}
use Rattle.intake.specs.Machine.{State, byte, no_line}
use Rattle.intake_bytes.specs.declared.Unfinished.{Unfinished}
use Rattle.intake_bytes.specs.Lent.{max_count, new_line}
use Rattle.intake_line.specs.Entry.{no_marks, entry_in}
use Rattle.intake_state.specs.declared.Kept.{Kept}
use Rattle.intake_state.specs.State.{machine_of, KeptHeld}

-- ## A line's end

-- "stop the reading and name the first such line"
unfoldable pub stopped_at : Kept → ℕ → Kept
stopped_at k q =
    record {
      answer = q;
      named = k.reader.count + 1;
      taken = k.taken;
      reader = record { from = k.reader.from; marks = k.reader.marks; count = k.reader.count + 1; line = new_line };
    }

unfoldable pub closed_at : Kept → ℕ → Kept
closed_at k taken =
    record { answer = 0; named = 0; taken = taken; reader = record { from = 0; marks = no_marks; count = k.reader.count + 1; line = new_line } }

unfoldable pub with_line : Kept → Unfinished → Kept
with_line k x =
    record {
      answer = k.answer;
      named = k.named;
      taken = k.taken;
      reader = record { from = k.reader.from; marks = k.reader.marks; count = k.reader.count; line = x };
    }

-- and the reading goes on
pub record Going (s file : List ℕ) (k : Kept) : Type 0 where
  pub kept : KeptHeld s file k
  pub goes : k.answer ≡ 0

pub record LineEnded (s file : List ℕ) (k : Kept) (p o p' o' : List ℕ) (r : Kept) : Type 0 where
  pub machine : byte layout_room (machine_of s k file p o) newline ≡ machine_of s r file p' o'
  pub count : r.reader.count ≡ k.reader.count + 1
  pub size : r.reader.line.size ≡ 0
  pub kept : r.reader.count < max_count → KeptHeld s file r

-- the same of a line that closes an entry
unfoldable pub closing_of : List ℕ → Kept → List ℕ → List ℕ → List ℕ → State
closing_of s k file p o =
    record {
      reading = closes_entry layout_room (machine_of s k file p o).reading (suc k.reader.count) (entry_in s k.reader.from k.reader.marks);
      line = no_line;
    }

pub record LineClosed (s file : List ℕ) (k : Kept) (p o p' o' : List ℕ) (r : Kept) : Type 0 where
  pub machine : closing_of s k file p o ≡ machine_of s r file p' o'
  pub count : r.reader.count ≡ k.reader.count + 1
  pub size : r.reader.line.size ≡ 0
  pub kept : r.reader.count < max_count → KeptHeld s file r

-- ## A piece

pub record PieceRead (s : List ℕ) (k : Kept) (piece file p o s' p' o' : List ℕ) (r : Kept) : Type 0 where
  pub machine : foldl (byte layout_room) (machine_of s k file p o) piece ≡ machine_of s' r file p' o'
  pub kept : KeptHeld s' file r
  pub count : r.reader.count ≤ k.reader.count + length piece
  pub size : r.reader.line.size ≤ k.reader.line.size + length piece
