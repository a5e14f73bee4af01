-- The state in its lent bytes: all zero to begin. Its test is one that every reading's state passes, and under which every step is defined.
use Rattle.std.specs.Prelude.{ℕ, ◌+◌, ◌-◌, ◌^◌, ◌%◌, ◌≤◌, ◌≡◌, List, [], ◌∷◌, ◌++◌, Bool, true, false, cond, ◌&&◌, length, take, drop, eqb, leb, ltb}
use Rattle.wire.specs.Numbers.{le, bytes}
use Rattle.intake.specs.Says.{head_size, kind_of}
use Rattle.intake.specs.declared.Kind.TheVariants.{Fid, Lma}
use Rattle.tables.specs.Bytes.{layout_room, parent_rows, object_rows}
use Rattle.intake.specs.Reading.{bad_dump, no_fit, Stop, going, stopped}
use Rattle.intake.specs.Machine.{State}
use Rattle.intake_bytes.specs.declared.Marks.{Marks}
use Rattle.intake_bytes.specs.declared.Half.{Half}
use Rattle.intake_bytes.specs.declared.Half.TheVariants.{Even, Odd, Broken}
use Rattle.intake_bytes.specs.declared.Unfinished.{Unfinished}
use Rattle.intake_line.specs.declared.Reader.{Reader}
use Rattle.intake_bytes.specs.Lent.{head_at, fid_at, layout_at, base_of, want_of, partial_in}
use Rattle.intake_line.specs.Entry.{good_mark, open_in, ReaderHeld}
use Rattle.intake_state.specs.declared.Kept.{Kept}

-- ## What it stands for

-- "the layout's room plus 208 bytes"
abbrev pub state_size : ℕ
state_size = layout_at + layout_room

unfoldable pub stop_is : ℕ → ℕ → Stop
stop_is answer named = cond (eqb answer 0) going (stopped answer named)

-- the machine's state that a state's numbers and bytes, the owners file and the tables stand for
unfoldable pub machine_of : List ℕ → Kept → List ℕ → List ℕ → List ℕ → State
machine_of s k file p o =
    record {
      reading = record {
        parents = parent_rows p;
        objects = object_rows o;
        owners = drop k.taken file;
        count = k.reader.count;
        entry = open_in s k.reader.from k.reader.marks;
        stop = stop_is k.answer k.named;
      };
      line = partial_in s k.reader.line;
    }

-- ## Numbers of 8 bytes, one after another

-- the answer that stopped the reading and the line it names, how much of the owners file is taken
abbrev pub answer_at : ℕ
answer_at = 0

abbrev pub named_at : ℕ
named_at = answer_at + 8

abbrev pub taken_at : ℕ
taken_at = named_at + 8

-- the open entry's first line, the lines read, and the marks
abbrev pub from_at : ℕ
from_at = taken_at + 8

abbrev pub count_at : ℕ
count_at = from_at + 8

abbrev pub lov_mark_at : ℕ
lov_mark_at = count_at + 8

abbrev pub fid_mark_at : ℕ
fid_mark_at = lov_mark_at + 8

abbrev pub lma_mark_at : ℕ
lma_mark_at = fid_mark_at + 8

-- the unfinished line: the bytes of its head, half a byte, and the value's length
abbrev pub seen_at : ℕ
seen_at = lma_mark_at + 8

abbrev pub half_at : ℕ
half_at = seen_at + 8

abbrev pub size_at : ℕ
size_at = half_at + 8

unfoldable pub number_at : List ℕ → ℕ → ℕ
number_at s at = le 8 (drop at s)

unfoldable pub eights : List ℕ → List ℕ
eights [] = []
eights (v ∷ vs) = bytes 8 v ++ eights vs

unfoldable pub marks_in : List ℕ → Marks
marks_in s = record { lov = number_at s lov_mark_at; fid = number_at s fid_mark_at; lma = number_at s lma_mark_at }

-- the half byte of digits that aren't hex
abbrev pub broken_half : ℕ
broken_half = 17

-- half a byte from its number: 0 where there is none, a digit and 1, or 17
unfoldable pub half_of : ℕ → Half
half_of n = cond (eqb n 0) Even (cond (eqb n broken_half) Broken (Odd (n - 1)))

unfoldable pub half_number : Half → ℕ
half_number Even = 0
half_number (Odd h) = (h + 1) % 2 ^ 64
half_number Broken = broken_half

-- the unfinished line of these numbers: its head tells where its value goes
unfoldable pub line_in : List ℕ → Marks → ℕ → Half → ℕ → Unfinished
line_in s m seen half size =
    cond (ltb seen head_size) (record { seen = seen; base = fid_at; most = 0; half = half; size = size })
    (record { seen = seen; base = base_of (kind_of (take head_size (drop head_at s))); most = want_of m (length s) (kind_of (take head_size (drop head_at s))); half = half; size = size })

unfoldable pub reader_in : List ℕ → Reader
reader_in s =
    record {
      from = number_at s from_at;
      marks = marks_in s;
      count = number_at s count_at;
      line = line_in s (marks_in s) (number_at s seen_at) (half_of (number_at s half_at)) (number_at s size_at);
    }

unfoldable pub kept_of : List ℕ → Kept
kept_of s = record { answer = number_at s answer_at; named = number_at s named_at; taken = number_at s taken_at; reader = reader_in s }

-- what the whole of the lent bytes stands for
unfoldable pub machine_in : List ℕ → List ℕ → List ℕ → List ℕ → State
machine_in s file p o = machine_of s (kept_of s) file p o

-- ## Stored

unfoldable pub numbers_in : List ℕ → List ℕ
numbers_in s =
    number_at s answer_at ∷ number_at s named_at ∷ number_at s taken_at ∷ number_at s from_at ∷ number_at s count_at ∷ number_at s lov_mark_at ∷ number_at s fid_mark_at
    ∷ number_at s lma_mark_at ∷ number_at s seen_at ∷ number_at s half_at ∷ number_at s size_at ∷ []

unfoldable pub numbers_of : Kept → List ℕ
numbers_of k =
    k.answer ∷ k.named ∷ k.taken ∷ k.reader.from ∷ k.reader.count ∷ k.reader.marks.lov ∷ k.reader.marks.fid ∷ k.reader.marks.lma
    ∷ k.reader.line.seen ∷ half_number k.reader.line.half ∷ k.reader.line.size ∷ []

pub record Stored (s : List ℕ) (k : Kept) (s' : List ℕ) : Type 0 where
  pub numbers : numbers_in s' ≡ numbers_of k
  pub rest : drop head_at s' ≡ drop head_at s
  pub long : length s' ≡ length s

-- ## The test

-- lines and bytes of a value are counted up to this
abbrev pub max_read : ℕ
max_read = 0x8000000000000000

-- no answer, or one of 33 to 37
unfoldable pub good_stop : ℕ → Bool
good_stop answer = cond (eqb answer 0) true (leb bad_dump answer && leb answer no_fit)

unfoldable pub bare_marks : Marks → Bool
bare_marks m = eqb m.lov 0 && (eqb m.fid 0 && eqb m.lma 0)

unfoldable pub good_open : ℕ → Marks → Bool
good_open from m = good_mark Fid m.fid && (good_mark Lma m.lma && cond (eqb from 0) (bare_marks m) true)

-- a first digit is one
unfoldable pub good_half : Half → Bool
good_half Even = true
good_half (Odd h) = ltb h 16
good_half Broken = true

unfoldable pub is_even : Half → Bool
is_even Even = true
is_even (Odd h) = false
is_even Broken = false

-- a line has digits only after its head
unfoldable pub good_line : Unfinished → Bool
good_line x =
    leb x.seen head_size && (good_half x.half && (leb x.size max_read && cond (eqb head_size x.seen) true (is_even x.half && eqb x.size 0)))

unfoldable pub good_kept : Kept → Bool
good_kept k = good_stop k.answer && (good_open k.reader.from k.reader.marks && (good_line k.reader.line && leb k.reader.count max_read))

unfoldable pub good_state : List ℕ → Bool
good_state s = eqb (length s) state_size && good_kept (kept_of s)

-- 16: another length, a content that fails the state's own test, or owners shorter than it has taken
unfoldable pub state_stands : List ℕ → List ℕ → Bool
state_stands s file = good_state s && leb (kept_of s).taken (length file)

-- what holds of a state: the test's meaning
pub record KeptHeld (s file : List ℕ) (k : Kept) : Type 0 where
  pub size : length s ≡ state_size
  pub held : ReaderHeld s k.reader
  pub taken : k.taken ≤ length file
  pub answer : k.answer ≤ no_fit
  pub number : (k.answer ≡ 0 → ⊥) → bad_dump ≤ k.answer
