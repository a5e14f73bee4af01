-- Tables of earlier editions that are none of this one: each is refused, and none is read as another table.
use Rattle.std.specs.Prelude.{ℕ, ◌+◌, ◌*◌, ◌/◌, ◌≤◌, ◌<◌, ◌≡◌, true, false, List, [], length, take, drop}
use Rattle.layout.specs.Slot.{slot_size}
use Rattle.layout.specs.Layout.{pool_header, decode_header, possible_stripe}
use Rattle.tables.specs.Bytes.{room_at, parent_size, is_used, layout_bytes}
use Rattle.tables.specs.Check.{max_parents, tables_whole, good_policy, tables_number, check_number}
use Rattle.tables.specs.declared.Position.{Position}

-- ## At most 160 slots: "Raise 160 to 2,000 slots and the room of a parent row from 3,888 to 48,048 bytes"

-- the bytes of a row then
abbrev pub narrow_size : ℕ
narrow_size = room_at + (pool_header + slot_size * 160)

-- a table of such rows, one at least and no more than there may be
pub record Narrow (parents : List ℕ) : Type 0 where
  pub rows : ℕ
  pub some : 1 ≤ rows
  pub few : rows ≤ max_parents
  pub long : length parents ≡ narrow_size * rows

-- it gets 11, whatever else is lent: of the tables alone, and of a run's whole input
pub record RefusedWithEleven (parents : List ℕ) : Type 0 where
  pub tables : (objects : List ℕ) → tables_number parents objects ≡ 11
  pub input : (objects reserve : List ℕ) (policy : ℕ) (at : Position) → check_number parents objects reserve policy at ≡ 11

unfoldable pub EveryNarrow : Type 0
EveryNarrow = (parents : List ℕ) → Narrow parents → RefusedWithEleven parents

-- ## Any stripe size: "layouts whose stripe size was 0 or not a multiple of 65,536"

-- a table with such a file: row r is used, and what its layout says as stripe size is impossible, however many slots follow
pub record Impossible (parents : List ℕ) : Type 0 where
  pub r : ℕ
  pub there : r < length parents / parent_size
  pub row : List ℕ
  pub stands : row ≡ take parent_size (drop (parent_size * r) parents)
  pub in_use : is_used row ≡ true
  pub size : possible_stripe (decode_header (layout_bytes row)).stripe ≡ false

-- it gets 13, unless 11 or 12 comes first
pub record RefusedWithThirteen (parents : List ℕ) : Type 0 where
  pub tables : (objects : List ℕ) → tables_whole parents objects [] ≡ true → tables_number parents objects ≡ 13
  pub input : (objects reserve : List ℕ) (policy : ℕ) (at : Position) → tables_whole parents objects reserve ≡ true → good_policy policy ≡ true →
      check_number parents objects reserve policy at ≡ 13

unfoldable pub EveryImpossible : Type 0
EveryImpossible = (parents : List ℕ) → Impossible parents → RefusedWithThirteen parents
