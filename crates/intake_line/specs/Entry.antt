-- The open entry in lent bytes: its first line (0 outside), its marks, and the parts in which its attributes are kept.
use Rattle.std.specs.Prelude.{ℕ, suc, ◌+◌, ◌-◌, ◌≤◌, ◌<◌, ◌≡◌, List, Bool, true, cond, ◌||◌, length, take, eqb, Option, Some, None, Result, Ok, Err}
use Rattle.intake.specs.Lines.{newline}
use Rattle.intake.specs.Says.{good_size}
use Rattle.intake.specs.declared.Kind.{Kind}
use Rattle.intake.specs.declared.Kind.TheVariants.{Lov, Fid, Lma, Other}
use Rattle.intake_bytes.specs.declared.Marks.{Marks}
use Rattle.intake_line.specs.declared.Said.{Said}
use Rattle.intake_line.specs.declared.Said.TheVariants.{Takes}
use Rattle.refusals.specs.declared.Refusal.{Refusal}
use Rattle.refusals.specs.Numbers.{number}
use Rattle.intake.specs.Reading.{bad_dump, attribute_twice, Attribute, none, had, Entry, Open, outside, inside, Reading, goes_on, stops_at, closes_entry, on_line, going}
use Rattle.intake_bytes.specs.Lent.{layout_at, max_count, mark_of, part_of, want_of, partial_in, Held}
use Rattle.intake_line.specs.Ending.{line_of}
use Rattle.intake.specs.Machine.{State, byte, no_line}
use Rattle.intake_line.specs.declared.Reader.{Reader}

unfoldable pub marks_with : Kind → ℕ → Marks → Marks
marks_with Lov n m = record { lov = n; fid = m.fid; lma = m.lma }
marks_with Fid n m = record { lov = m.lov; fid = n; lma = m.lma }
marks_with Lma n m = record { lov = m.lov; fid = m.fid; lma = n }
marks_with Other n m = m

-- a mark is an attribute's length and 1; its bytes stand in its part
unfoldable pub attribute_in : List ℕ → Kind → ℕ → Attribute
attribute_in buf k mark = cond (eqb mark 0) none (had (mark - 1) (take (mark - 1) (part_of (length buf) k buf)))

unfoldable pub entry_in : List ℕ → ℕ → Marks → Entry
entry_in buf from m =
    record { from = from; lov = attribute_in buf Lov m.lov; fid = attribute_in buf Fid m.fid; lma = attribute_in buf Lma m.lma }

unfoldable pub open_in : List ℕ → ℕ → Marks → Open
open_in buf from m = cond (eqb from 0) outside (inside (entry_in buf from m))

-- a mark is 0, or that of a length which is good for its kind
unfoldable pub good_mark : Kind → ℕ → Bool
good_mark k mark = eqb mark 0 || good_size k (mark - 1)

abbrev pub GoodMarks : Marks → Type 0
GoodMarks m = (k : Kind) → good_mark k (mark_of m k) ≡ true

-- outside an entry nothing is marked, and marks are of good lengths
pub record MarksHeld (from : ℕ) (m : Marks) : Type 0 where
  pub bare : from ≡ 0 → (k : Kind) → mark_of m k ≡ 0
  pub good : GoodMarks m

-- what a line leaves: an open entry (its first line, or 0, and what it has), an entry to close, or a stop
abbrev pub After : Type 0
After = Result (Option (ℕ × Marks)) Refusal

-- what is known of each answer: an entry closes where one is open
unfoldable pub AfterHeld : ℕ → After → Type 0
AfterHeld from (Ok (Some (f, n))) = MarksHeld f n
AfterHeld from (Ok None) = from ≡ 0 → ⊥
AfterHeld from (Err q) = (bad_dump ≤ number q) × (number q ≤ attribute_twice)

abbrev pub no_marks : Marks
no_marks = record { lov = 0; fid = 0; lma = 0 }

-- what the code's answer means for a reading
unfoldable pub after_is : ℕ → Reading → ℕ → List ℕ → ℕ → Marks → After → Reading
after_is room R line buf from m (Ok (Some (f, n))) = goes_on R line (open_in buf f n)
after_is room R line buf from m (Ok None) = closes_entry room R line (entry_in buf from m)
after_is room R line buf from m (Err q) = stops_at R (number q) line

-- the value of a taken line stands in its part, unless the entry has that attribute
unfoldable pub Standing : Marks → Said → ℕ → List ℕ → List ℕ → Type 0
Standing m s size buf v = (k : Kind) → s ≡ Takes k → mark_of m k ≡ 0 → v ≡ take size (part_of (length buf) k buf)

pub record EntryStep (from : ℕ) (m : Marks) (s : Said) (size line : ℕ) (r : After) : Type 0 where
  pub step : (room : ℕ) (R : Reading) (buf v : List ℕ) → Standing m s size buf v
      → on_line room R line (open_in buf from m) (line_of s size v) ≡ after_is room R line buf from m r
  pub marked : ((k : Kind) → s ≡ Takes k → good_size k size ≡ true) → MarksHeld from m → AfterHeld from r

-- ## The reader

-- outside an entry there are no marks; counts don't wrap
pub record ReaderHeld (buf : List ℕ) (r : Reader) : Type 0 where
  pub long : layout_at ≤ length buf
  pub held : Held (want_of r.marks (length buf)) buf r.line
  pub marked : MarksHeld r.from r.marks
  pub lines : r.count < max_count
  pub sizes : r.line.size < max_count

-- a reading whose rows and owners are those of R, with this reader's entry and line
unfoldable pub state_in : Reading → List ℕ → Reader → State
state_in R buf r =
    record {
      reading = record { parents = R.parents; objects = R.objects; owners = R.owners; count = r.count; entry = open_in buf r.from r.marks; stop = going };
      line = partial_in buf r.line;
    }

-- what the end of a line leads to: the reader at the next line, an entry to close, or a stop
abbrev pub Turn : Type 0
Turn = Result (Option Reader) Refusal

-- the state after the byte that ends the line
unfoldable pub turn_is : ℕ → Reading → List ℕ → Reader → Turn → State
turn_is room R buf r (Ok (Some n)) = state_in R buf n
turn_is room R buf r (Err q) = record { reading = stops_at (state_in R buf r).reading (number q) (suc r.count); line = no_line }
turn_is room R buf r (Ok None) = record { reading = closes_entry room (state_in R buf r).reading (suc r.count) (entry_in buf r.from r.marks); line = no_line }

-- a reader at the start of the next line
pub record NextHeld (buf : List ℕ) (r n : Reader) : Type 0 where
  pub count : n.count ≡ r.count + 1
  pub marked : MarksHeld n.from n.marks
  pub held : Held (want_of n.marks (length buf)) buf n.line
  pub size : n.line.size ≡ 0

unfoldable pub TurnHeld : List ℕ → Reader → Turn → Type 0
TurnHeld buf r (Ok (Some n)) = NextHeld buf r n
TurnHeld buf r (Ok None) = r.from ≡ 0 → ⊥
TurnHeld buf r (Err q) = (bad_dump ≤ number q) × (number q ≤ attribute_twice)

pub record TurnTaken (buf : List ℕ) (r : Reader) (t : Turn) : Type 0 where
  pub turn : (room : ℕ) (R : Reading) → byte room (state_in R buf r) newline ≡ turn_is room R buf r t
  pub held : TurnHeld buf r t
