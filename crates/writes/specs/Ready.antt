-- What the decision of a slot relies on.
use Rattle.std.specs.Prelude.{ℕ, ◌<◌, List}
use Rattle.layout.specs.Layout.{stripe_count}
use Rattle.tables.specs.Bytes.{layout_bytes}
use Rattle.tables.specs.Check.{Sound}
use Rattle.stores.specs.UsedRow.{row_bytes, UsedAt}

-- the tables passed, the row is used, and it has the slot
pub record SlotReady (parents objects : List ℕ) (r j : ℕ) : Type 0 where
  pub tables : Sound parents objects
  pub row : UsedAt parents r
  pub slot : j < stripe_count (layout_bytes (row_bytes parents r))
