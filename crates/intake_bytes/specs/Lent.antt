-- The unfinished line in lent bytes, and what each function does there. Document 02, 2026-03: "Input arrives in pieces".
use Rattle.std.specs.Prelude.{ℕ, suc, ◌+◌, ◌-◌, ◌*◌, ◌≤◌, ◌<◌, ◌≡◌, true, cond, length, take, drop, get_or, eqb, Option, Some, None, ⊤}
use mathlib.Core.List.{List, foldl}
use Rattle.fid.specs.Fid.{fid_size}
use Rattle.intake.specs.Lines.{newline}
use Rattle.intake.specs.declared.Kind.{Kind}
use Rattle.intake.specs.declared.Kind.TheVariants.{Lov, Fid, Lma, Other}
use Rattle.intake_bytes.specs.declared.Marks.{Marks}
use Rattle.intake_bytes.specs.declared.Half.{Half}
use Rattle.intake_bytes.specs.declared.Half.TheVariants.{Even, Odd, Broken}
use Rattle.intake_bytes.specs.declared.Unfinished.{Unfinished}
use Rattle.intake_bytes.specs.declared.Reached.{Reached}
use Rattle.intake.specs.Says.{head_size, digit, is_digit, kind_of, wanted}
use Rattle.intake.specs.Machine.{Digits, broken, even, odd, digit_byte, Partial, line_byte, byte, want_in}
use Rattle.intake.specs.Reading.{Reading, is_going}

-- ## Where things stand

-- the state's numbers come first, then the first bytes of the unfinished line, then the attributes of the open entry, the layout last; each part has room to
-- spare, 208 bytes before the layout in all
abbrev pub head_at : ℕ
head_at = 128

abbrev pub fid_at : ℕ
fid_at = head_at + 16

abbrev pub lma_at : ℕ
lma_at = fid_at + fid_size

abbrev pub layout_at : ℕ
layout_at = lma_at + 48

-- where a value goes
unfoldable pub base_of : Kind → ℕ
base_of Lov = layout_at
base_of Fid = fid_at
base_of Lma = lma_at
base_of Other = fid_at

-- counts stay below this
abbrev pub max_count : ℕ
max_count = 0xffffffffffffffff

-- ## The unfinished line

unfoldable pub mark_of : Marks → Kind → ℕ
mark_of m Lov = m.lov
mark_of m Fid = m.fid
mark_of m Lma = m.lma
mark_of m Other = 0

-- how much of a value is kept, in a state of so many bytes: nothing of an attribute that the entry has
unfoldable pub want_of : Marks → ℕ → Kind → ℕ
want_of m size k = cond (eqb (mark_of m k) 0) (wanted (size - layout_at) k) 0

-- what is kept of the value so far
unfoldable pub kept_in : List ℕ → Unfinished → List ℕ
kept_in buf x = take x.size (take x.most (drop x.base buf))

unfoldable pub digits_of : Half → ℕ → List ℕ → Digits
digits_of Even n v = even n v
digits_of (Odd h) n v = odd h n v
digits_of Broken n v = broken

unfoldable pub digits_in : List ℕ → Unfinished → Digits
digits_in buf x = digits_of x.half x.size (kept_in buf x)

unfoldable pub partial_in : List ℕ → Unfinished → Partial
partial_in buf x = record { head = take x.seen (drop head_at buf); digits = digits_in buf x }

-- a line of which nothing has been read
abbrev pub new_line : Unfinished
new_line = record { seen = 0; base = fid_at; most = 0; half = Even; size = 0 }

-- the digit that a byte is
unfoldable pub digit_of : ℕ → Option ℕ
digit_of b = cond (is_digit b) (Some (digit b)) None

-- a first digit is below 16
unfoldable pub HalfFits : Half → Type 0
HalfFits Even = ⊤
HalfFits (Odd h) = h < 16
HalfFits Broken = ⊤

-- the same line with other digits
abbrev pub valued : Unfinished → Half → ℕ → Unfinished
valued x half size = record { seen = x.seen; base = x.base; most = x.most; half = half; size = size }

-- a state of n bytes has room for the line, and its counts don't wrap
pub record Room (n : ℕ) (x : Unfinished) : Type 0 where
  pub fits : x.base + x.most ≤ n
  pub past : fid_at ≤ x.base
  pub halves : HalfFits x.half
  pub counts : x.size < max_count

-- bytes from base on, most of them, may have changed, and no others
pub record Within (base most : ℕ) (before after : List ℕ) : Type 0 where
  pub long : length after ≡ length before
  pub front : take base after ≡ take base before
  pub back : drop (base + most) after ≡ drop (base + most) before

pub record DigitStep (before : List ℕ) (x : Unfinished) (b : ℕ) (after : List ℕ) (r : Unfinished) : Type 0 where
  pub digits : digits_in after r ≡ digit_byte x.most (digits_in before x) b
  pub within : Within x.base x.most before after
  pub seen : r.seen ≡ x.seen
  pub base : r.base ≡ x.base
  pub most : r.most ≡ x.most
  pub halves : HalfFits r.half
  pub counts : r.size ≤ suc x.size

-- a whole byte: after its first digit, what the second one does
pub record ByteStep (before : List ℕ) (x : Unfinished) (v : ℕ) (after : List ℕ) (r : Unfinished) : Type 0 where
  pub second : (h b : ℕ) → h < 16 → digit b < 16 → v ≡ 16 * h + digit b → DigitStep before (valued x (Odd h) x.size) b after r
  pub half : r.half ≡ Even

-- what holds of the line so far, where so much is wanted of each kind
pub record Held (want : Kind → ℕ) (buf : List ℕ) (x : Unfinished) : Type 0 where
  pub heads : x.seen ≤ head_size
  pub short : x.seen < head_size → (x.half ≡ Even) × (x.size ≡ 0)
  pub at : head_size ≤ x.seen → x.base ≡ base_of (kind_of (take head_size (drop head_at buf)))
  pub keeps : head_size ≤ x.seen → x.most ≡ want (kind_of (take head_size (drop head_at buf)))
  pub past : fid_at ≤ x.base
  pub fits : x.base + x.most ≤ length buf
  pub halves : HalfFits x.half

-- the part of the lent bytes in which an attribute is kept
unfoldable pub part_of : ℕ → Kind → List ℕ → List ℕ
part_of size k buf = take (wanted (size - layout_at) k) (drop (base_of k) buf)

-- the attributes that the entry has stay as they are
unfoldable pub Others : (Kind → ℕ) → List ℕ → List ℕ → Type 0
Others want before after = (k : Kind) → want k ≡ 0 → part_of (length before) k after ≡ part_of (length before) k before

pub record LineStep (want : Kind → ℕ) (before : List ℕ) (x : Unfinished) (b : ℕ) (after : List ℕ) (r : Unfinished) : Type 0 where
  pub line : partial_in after r ≡ line_byte want (partial_in before x) b
  pub held : Held want after r
  pub counts : r.size ≤ suc x.size
  pub long : length after ≡ length before
  pub others : Others want before after

-- the bytes of a piece between two places, read within a line: what a reading comes to from the one place is what it comes to from the other
pub record Feeding (want : Kind → ℕ) (before : List ℕ) (x : Unfinished) (piece : List ℕ) (from : ℕ) (after : List ℕ) (r : Unfinished) (at : ℕ) : Type 0 where
  pub same : (R : Reading) → is_going R.stop ≡ true → ((k : Kind) → want_in (length before - layout_at) R.entry k ≡ want k)
      → foldl (byte (length before - layout_at)) (record { reading = R; line = partial_in before x }) (drop from piece)
      ≡ foldl (byte (length before - layout_at)) (record { reading = R; line = partial_in after r }) (drop at piece)
  pub least : from ≤ at
  pub within : at ≤ length piece
  pub held : Held want after r
  pub counts : r.size ≤ x.size + (at - from)
  pub long : length after ≡ length before
  pub others : Others want before after

-- what a piece is fed to: a line whose counts won't wrap
pub record Feeds (buf : List ℕ) (m : Marks) (x : Unfinished) (piece : List ℕ) (from : ℕ) : Type 0 where
  pub long : layout_at ≤ length buf
  pub held : Held (want_of m (length buf)) buf x
  pub counts : x.size + length piece < max_count
  pub within : from ≤ length piece

-- up to the line's end, or the piece's
pub record LineFed (want : Kind → ℕ) (before : List ℕ) (x : Unfinished) (piece : List ℕ) (from : ℕ) (after : List ℕ) (r : Reached) : Type 0 where
  pub fed : Feeding want before x piece from after r.line r.at
  pub stop : r.at < length piece → get_or piece r.at 0 ≡ newline

-- a line whose head is whole, in a state of so many bytes, and a piece of so many
pub record PastHead (n : ℕ) (x : Unfinished) (bytes from : ℕ) : Type 0 where
  pub room : Room n x
  pub full : head_size ≤ x.seen
  pub counts : x.size + (bytes - from) < max_count
  pub within : from ≤ bytes

-- digits of a value read so far: where they go stands, and whatever the entry has, the reading is where these bytes put it
pub record DigitsFed (before : List ℕ) (x : Unfinished) (piece : List ℕ) (from : ℕ) (after : List ℕ) (r : Unfinished) (at : ℕ) : Type 0 where
  pub long : length after ≡ length before
  pub room : Room (length after) r
  pub full : head_size ≤ r.seen
  pub least : from ≤ at
  pub within : at ≤ length piece
  pub counts : r.size ≤ x.size + (at - from)
  pub fed : (m : Marks) → Held (want_of m (length before)) before x → Feeding (want_of m (length before)) before x piece from after r at

-- up to the line's end, or the piece's, whatever the entry has
unfoldable pub ValueFed : List ℕ → Unfinished → List ℕ → ℕ → List ℕ → Reached → Type 0
ValueFed before x piece from after r =
    (m : Marks) → Held (want_of m (length before)) before x → LineFed (want_of m (length before)) before x piece from after r
