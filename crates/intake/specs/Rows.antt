-- What becomes of the rows of a table: those that were used stand, and a table changes where an entry closes alone. Document 02, 2026-03: "fill the tables"; "earlier rows stand".
use Rattle.std.specs.Prelude.{ℕ, ◌≡◌, List, [], ◌∷◌, true, false, length, get_or}
use Rattle.tables.specs.Bytes.{is_used}
use Rattle.intake.specs.Reading.{Reading, is_going, read_line, dump_reading}

pub record Stands (before after : List (List ℕ)) : Type 0 where
  pub long : length after ≡ length before
  pub rows : (r : ℕ) → is_used (get_or before r []) ≡ true → get_or after r [] ≡ get_or before r []

pub record RowsStand (R S : Reading) : Type 0 where
  pub parents : Stands R.parents S.parents
  pub objects : Stands R.objects S.objects

-- of every dump
unfoldable pub EveryRowStands : Type 0
EveryRowStands = (room : ℕ) (R : Reading) (dump : List ℕ) → RowsStand R (dump_reading room R dump)

-- ## Where a table changes

-- both tables are as they were
pub record Untouched (R S : Reading) : Type 0 where
  pub parents : S.parents ≡ R.parents
  pub objects : S.objects ≡ R.objects

-- nothing of an entry stands in a table before the empty line that closes it: every other line leaves the tables
unfoldable pub OpenLinesTouchNothing : Type 0
OpenLinesTouchNothing = (room : ℕ) (R : Reading) (b : ℕ) (l : List ℕ) → Untouched R (read_line room R (b ∷ l))

-- an entry that is refused leaves no trace: a line after which the reading has stopped leaves the tables
unfoldable pub RefusedTouchNothing : Type 0
RefusedTouchNothing = (room : ℕ) (R : Reading) (l : List ℕ) → is_going (read_line room R l).stop ≡ false → Untouched R (read_line room R l)
