-- The directories under marks, and the index of them.
use Rattle.std.specs.Prelude.{ℕ, ◌*◌, ◌/◌, ◌-◌, ◌≤◌, ◌<◌, ◌≡◌, Bool, false, cond, not, ◌&&◌, ◌||◌, List, [], ◌∷◌, ltb, eqb, length, get_or, Option, None, Some}
use Rattle.fid.specs.Fid.{zero_fid}
use Rattle.fid.specs.declared.MdtFid.{MdtFid}
use Rattle.index.specs.Entries.{place_size, entries, sorted}
use Rattle.names.specs.Rows.{Child, child_size, is_none, with_self, no_child, parse_children}
use Rattle.names.specs.Check.{max_rows}
use Rattle.names.specs.Visible.{no_self_mark, visible_mark}
use Rattle.names_judge.specs.Listed.{child_numbers}

-- the self FID of a row that is a directory under its mark, else none
unfoldable pub self_under : ℕ → MdtFid → MdtFid
self_under m f = cond (ltb m no_self_mark) f (record { 0 = zero_fid })

-- the rows, those that are no directories without self FID
unfoldable pub directories : List ℕ → List Child → List Child
directories [] cs = []
directories (m ∷ ms) [] = []
directories (m ∷ ms) (c ∷ cs) = with_self c (self_under m c.self) ∷ directories ms cs

-- whether the row that is found is marked visible; marks are of the rows from r on
unfoldable pub visible_from : ℕ → List ℕ → Option ℕ → Bool
visible_from r marks None = false
visible_from r marks (Some k) = eqb (get_or marks (k - r) 0) visible_mark

-- n entries of the index are the rows that are directories under the marks, in order
pub record IndexedUnder (children marks index : List ℕ) (n : ℕ) : Type 0 where
  pub few : length children / child_size ≤ max_rows
  pub marked : length marks ≡ length children / child_size
  pub room : place_size * n ≤ length index
  pub rows : entries n index ≡ sorted (child_numbers (directories marks (parse_children children)))

-- the children ds have the self FIDs of the children cs, wherever a row is a directory under its mark
pub record Keeps (marks : List ℕ) (cs ds : List Child) : Type 0 where
  pub long : length ds ≡ length cs
  pub selves : (r : ℕ) → r < length cs → get_or marks r 0 < no_self_mark → (get_or ds r no_child).self ≡ (get_or cs r no_child).self

-- a mark fits a self FID
unfoldable pub fit_mark : ℕ → MdtFid → Bool
fit_mark m f = ltb m no_self_mark && not (is_none f) || eqb m no_self_mark
