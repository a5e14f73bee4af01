-- The keeper of an object as numbers: what its export answers and hands out. Document 02, 2026-04.
use Rattle.std.specs.Prelude.{ℕ, List, [], ◌∷◌, Bool, ◌&&◌, leb}
use Rattle.std.specs.Prelude.{Option, Some, None}
use Rattle.wire.specs.Numbers.{max_word}
use Rattle.fid.specs.Fid.{good_object}
use Rattle.fid.specs.declared.OstFid.{OstFid}
use Rattle.tables.specs.Bytes.{parse}
use Rattle.tables.specs.Check.{Test, test, first_failing, tables_whole, good_layouts, good_fids, all_different}
use Rattle.rules.specs.Keeper.{keeper}
use Rattle.rules.specs.Compared.{compared}

-- "sequence, id": the FID asked for, whose version is 0
unfoldable pub asked : ℕ → ℕ → OstFid
asked sequence id = record { 0 = record { seq = sequence; oid = id; ver = 0 } }

-- good by the object's rule, and not "an id above 32 bits"
unfoldable pub good_asked : ℕ → ℕ → Bool
good_asked sequence id = leb id max_word && good_object (asked sequence id)

-- "11, 13, 14 (also a FID asked for that isn't good, or an id above 32 bits), 15": "first that applies"
unfoldable pub keeper_tests : List ℕ → List ℕ → ℕ → ℕ → List Test
keeper_tests parents objects sequence id =
    test 11 (tables_whole parents objects []) ∷ test 13 (good_layouts parents)
    ∷ test 14 (good_fids parents objects [] && good_asked sequence id) ∷ test 15 (all_different parents objects) ∷ []

unfoldable pub keeper_number : List ℕ → List ℕ → ℕ → ℕ → ℕ
keeper_number parents objects sequence id = first_failing (keeper_tests parents objects sequence id)

-- "found 0 or 1, row, slot, slots compared"
unfoldable pub place_numbers : Option (ℕ × ℕ) → ℕ → List ℕ
place_numbers None n = 0 ∷ 0 ∷ 0 ∷ n ∷ []
place_numbers (Some (row, slot)) n = 1 ∷ row ∷ slot ∷ n ∷ []

-- of the keeper, and of "how many slots it compared"
unfoldable pub keeper_numbers : List ℕ → List ℕ → ℕ → ℕ → List ℕ
keeper_numbers parents objects sequence id =
    let T = parse parents objects in
    let f = asked sequence id in
    place_numbers (keeper T f) (compared T f)
