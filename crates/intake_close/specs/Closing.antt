-- The closing line on the lent bytes. Document 02, 2026-03: "at the closing line, no self FID (35), a file of neither kind or both (36) and a row that
-- doesn't fit (37)".
use Rattle.std.specs.Prelude.{ℕ, ◌+◌, ◌≤◌, ◌≡◌, List, take, drop, Result, Ok, Err, ⊤}
use Rattle.fid.specs.Fid.{fid_size}
use Rattle.tables.specs.Bytes.{layout_room, parent_rows, object_rows}
use Rattle.tables.specs.declared.Owner.{Owner}
use Rattle.intake.specs.Says.{lma_self_at}
use Rattle.intake.specs.Owners.{owning, after_line}
use Rattle.intake.specs.Reading.{bad_dump, no_fit, none, had, Reading, stops_at, filled, fills, with_self, closes_entry}
use Rattle.intake_bytes.specs.declared.Marks.{Marks}
use Rattle.intake_bytes.specs.Lent.{fid_at, lma_at, layout_at}
use Rattle.intake_line.specs.Entry.{entry_in}
use Rattle.refusals.specs.declared.Refusal.{Refusal}
use Rattle.refusals.specs.Numbers.{number}

-- what a closing line comes to: a row is filled, or the reading stops
abbrev pub Closed : Type 0
Closed = Result ⊤ Refusal

-- what is kept of the entry: the self FID, the claim, and the layout's first bytes
unfoldable pub self_in : List ℕ → List ℕ
self_in buf = take fid_size (drop (lma_at + lma_self_at) buf)

unfoldable pub claim_in : List ℕ → List ℕ
claim_in buf = take fid_size (drop fid_at buf)

unfoldable pub layout_in : List ℕ → ℕ → List ℕ
layout_in buf size = take size (drop layout_at buf)

-- a reading over these tables
unfoldable pub with_tables : Reading → List ℕ → List ℕ → Reading
with_tables R p o =
    record { parents = parent_rows p; objects = object_rows o; owners = R.owners; count = R.count; entry = R.entry; stop = R.stop }

-- the reading after a closing line that came to this
unfoldable pub closed_as : Reading → ℕ → List ℕ → List ℕ → List ℕ → Closed → Reading
closed_as R line after p o (Ok x) = filled R line after (parent_rows p) (object_rows o)
closed_as R line after p o (Err q) = stops_at (with_tables R p o) (number q) line

-- the number of a refusal; a row that is filled has none, and stands for any that is good
unfoldable pub stop_of : Closed → ℕ
stop_of (Ok x) = no_fit
stop_of (Err q) = number q

pub record ParentClosed (buf : List ℕ) (size : ℕ) (w : Owner) (p p' : List ℕ) (r : Closed) : Type 0 where
  pub closes : (R : Reading) (o : List ℕ) (line index : ℕ) (after v : List ℕ) → (size ≤ layout_room → v ≡ layout_in buf size)
      → fills layout_room (with_tables R p o) line (self_in buf) w.uid w.gid index after (had size v) none ≡ closed_as R line after p' o r
  pub number : (bad_dump ≤ stop_of r) × (stop_of r ≤ no_fit)

pub record ObjectClosed (buf : List ℕ) (w : Owner) (index : ℕ) (o o' : List ℕ) (r : Closed) : Type 0 where
  pub closes : (R : Reading) (p : List ℕ) (line size : ℕ) (after : List ℕ)
      → fills layout_room (with_tables R p o) line (self_in buf) w.uid w.gid index after none (had size (claim_in buf)) ≡ closed_as R line after p o' r
  pub number : (bad_dump ≤ stop_of r) × (stop_of r ≤ no_fit)

pub record OwnedClosed (buf : List ℕ) (m : Marks) (w : Owner) (index : ℕ) (p o p' o' : List ℕ) (r : Closed) : Type 0 where
  pub closes : (R : Reading) (line from : ℕ) (after : List ℕ)
      → with_self layout_room (with_tables R p o) line (entry_in buf from m) (owning w.uid w.gid index after) (entry_in buf from m).lma
      ≡ closed_as R line after p' o' r
  pub number : (bad_dump ≤ stop_of r) × (stop_of r ≤ no_fit)

pub record EntryClosed (buf : List ℕ) (m : Marks) (file : List ℕ) (taken : ℕ) (p o p' o' : List ℕ) (r : Closed) : Type 0 where
  pub closes : (R : Reading) (line from : ℕ) → R.owners ≡ drop taken file
      → closes_entry layout_room (with_tables R p o) line (entry_in buf from m) ≡ closed_as R line (after_line (drop taken file)) p' o' r
  pub number : (bad_dump ≤ stop_of r) × (stop_of r ≤ no_fit)
