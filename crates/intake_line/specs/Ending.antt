-- What a line says where it ends, from its head and its digits. Document 02, 2026-03: "A bad line, hex .. or length".
use Rattle.std.specs.Prelude.{ℕ, ◌≤◌, ◌≡◌, List, Bool, true, false, length, take, drop}
use Rattle.intake.specs.declared.Kind.{Kind}
use Rattle.intake.specs.declared.Kind.TheVariants.{Lov, Fid, Lma, Other}
use Rattle.intake.specs.Says.{head_size, kind_of, good_size, Line, opens, closes, skipped, bad, takes, Value, holds, wrong, judge}
use Rattle.intake.specs.Machine.{line_end}
use Rattle.intake_bytes.specs.declared.Half.{Half}
use Rattle.intake_bytes.specs.declared.Half.TheVariants.{Even, Odd, Broken}
use Rattle.intake_bytes.specs.declared.Unfinished.{Unfinished}
use Rattle.intake_bytes.specs.Lent.{head_at, kept_in, partial_in}
use Rattle.intake_line.specs.declared.Said.{Said}
use Rattle.intake_line.specs.declared.Said.TheVariants.{Opens, Closes, Skipped, Bad, Takes}

unfoldable pub is_other : Kind → Bool
is_other Lov = false
is_other Fid = false
is_other Lma = false
is_other Other = true

-- what the code says of a line, with the length and the kept bytes of its value
unfoldable pub line_of : Said → ℕ → List ℕ → Line
line_of Opens n v = opens
line_of Closes n v = closes
line_of Skipped n v = skipped
line_of Bad n v = bad
line_of (Takes k) n v = takes k n v

-- the value of digits that ended so: whole bytes, or none
unfoldable pub value_is : Half → ℕ → List ℕ → Value
value_is Even size v = holds size v
value_is (Odd h) size v = wrong
value_is Broken size v = wrong

-- what the code says of a head is what the head says, whatever the value's bytes; and a value is taken only of a whole head, by its kind, and of a good length
pub record HeadSaid (h : List ℕ) (half : Half) (size : ℕ) (r : Said) : Type 0 where
  pub says : (v : List ℕ) → line_of r size v ≡ judge h (value_is half size v)
  pub whole : (k : Kind) → r ≡ Takes k → (head_size ≤ length h) × (k ≡ kind_of h) × (good_size k size ≡ true)

pub record LineSaid (buf : List ℕ) (x : Unfinished) (r : Said) : Type 0 where
  pub says : line_of r x.size (kept_in buf x) ≡ line_end (partial_in buf x)
  pub whole : (k : Kind) → r ≡ Takes k → (head_size ≤ x.seen) × (k ≡ kind_of (take x.seen (drop head_at buf))) × (good_size k x.size ≡ true)
