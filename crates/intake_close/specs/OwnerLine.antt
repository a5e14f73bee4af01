-- The owners file, read in its bytes. Document 02, 2026-03: "A second file, lent whole, gives `uid gid index` in decimal".
use Rattle.std.specs.Prelude.{ℕ, suc, ◌-◌, ◌≤◌, ◌≡◌, List, cond, false, length, take, drop, ltb, Option, Some, None}
use Rattle.intake.specs.Owners.{Owning, no_owner, owning, Number, no_number, number, decimal, after_space, first, until_line, after_line}

-- a decimal number, and the place after it
abbrev pub NumberRead : Type 0
NumberRead = Option (ℕ × ℕ)

-- the uid, gid and index of an owners line
abbrev pub OwnerRead : Type 0
OwnerRead = Option (ℕ × ℕ × ℕ)

-- the number whose digits stand between two places
unfoldable pub told_at : ℕ → ℕ → ℕ → NumberRead
told_at n from at = cond (ltb from at) (Some (n, at)) None

-- what is read at a place of a line, and where it ends
unfoldable pub number_in : List ℕ → NumberRead → Number
number_in l None = no_number
number_in l (Some (n, at)) = number n (drop at l)

unfoldable pub end_of : NumberRead → ℕ
end_of None = 0
end_of (Some (n, at)) = at

pub record NumberTold (l : List ℕ) (from : ℕ) (r : NumberRead) : Type 0 where
  pub number : decimal false 0 (drop from l) ≡ number_in l r
  pub within : end_of r ≤ length l

pub record SpaceTold (l : List ℕ) (at : ℕ) (r : NumberRead) : Type 0 where
  pub number : after_space (drop at l) ≡ number_in l r
  pub within : end_of r ≤ length l

-- a line's owner, and what follows the line
unfoldable pub owner_in : List ℕ → OwnerRead → Owning
owner_in after None = no_owner
owner_in after (Some (u, g, i)) = owning u g i after

pub record OwnerTold (l : List ℕ) (r : OwnerRead) : Type 0 where
  pub owner : (after : List ℕ) → first after (decimal false 0 l) ≡ owner_in after r

-- a line that begins at one place and ends at another
pub record LineStops (s : List ℕ) (from r : ℕ) : Type 0 where
  pub least : from ≤ r
  pub within : r ≤ length s
  pub line : until_line (drop from s) ≡ take (r - from) (drop from s)
  pub after : after_line (drop from s) ≡ drop (suc r) s

-- where the next line begins
pub record LineAfter (s : List ℕ) (from r : ℕ) : Type 0 where
  pub least : from ≤ r
  pub within : r ≤ length s
  pub after : after_line (drop from s) ≡ drop r s
