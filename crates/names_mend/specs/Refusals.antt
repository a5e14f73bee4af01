-- The refusals of a pass before it judges.
use Rattle.std.specs.Prelude.{◌&&◌, List, [], ◌∷◌, ℕ, leb, length}
use Rattle.tables.specs.Check.{Test, test}
use Rattle.names.specs.Rows.{child_rows}
use Rattle.names.specs.Check.{names_whole, children_there, names_good}
use Rattle.names.specs.Calls.{roomy, report_size}

unfoldable pub places_tests : List ℕ → List ℕ → List ℕ → List ℕ → List ℕ → List ℕ → List Test
places_tests entries children index room marks report =
    test 11 (names_whole entries children) ∷ test 16 (children_there entries children) ∷ test 31 (names_good entries children)
    ∷ test 17 (roomy entries children index && roomy entries children room && leb (length (child_rows children)) (length marks) && leb report_size (length report))
    ∷ []
