-- Where the tables pass, the answer for a FID depends, of the objects, on its own row: who lends that row alone is answered as with all of them.
use Rattle.std.specs.Prelude.{ℕ, ◌*◌, ◌≡◌, List, [], take, drop}
use Rattle.std.specs.Prelude.{Option, Some, None}
use Rattle.tables.specs.Bytes.{object_size, parse_objects}
use Rattle.tables.specs.Check.{Sound}
use Rattle.rules.specs.Rows.{object_row}
use Rattle.capi_keeper.specs.Keepers.{asked, keeper_number, keeper_numbers}

-- one row of the objects; none where there is no such row
unfoldable pub row_alone : List ℕ → Option ℕ → List ℕ
row_alone objects None = []
row_alone objects (Some r) = take object_size (drop (object_size * r) objects)

-- the row of the FID asked for
unfoldable pub own_row : List ℕ → ℕ → ℕ → List ℕ
own_row objects sequence id = row_alone objects (object_row (parse_objects objects) (asked sequence id))

unfoldable pub OwnRowAlone : Type 0
OwnRowAlone =
    (parents objects : List ℕ) (sequence id : ℕ) → Sound parents objects →
    (keeper_number parents (own_row objects sequence id) sequence id ≡ keeper_number parents objects sequence id)
    × (keeper_numbers parents (own_row objects sequence id) sequence id ≡ keeper_numbers parents objects sequence id)
