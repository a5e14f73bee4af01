use mathlib.Core.Path.{◌≡◌}
use Rattle.std.specs.Prelude.{None}
use Prim.Native.Nat.{◌+◌, ◌-◌}
use lib.ListN.{drop}
use Rattle.tables.specs.Bytes.{parse_parents}
use Rattle.tables.specs.Positions.{width}
use Rattle.rules.specs.Search.{or_else}
use Rattle.rules.specs.Rows.{names_at, scan}
use Rattle.rules.specs.Compared.{up_to, all_slots}
use Rattle.search.proofs.PlaceSearch.{slots_left, places_left}
use Rattle.search.proofs.CountLaws.{slot_count, row_count}
use Rattle.search.proofs.naming.first_naming.Given as goal

abbrev pub invariant-loop-j : goal.invariant-loop-j
invariant-loop-j l = (l.place ≡ None) × (scan (parse_parents l.parents) (names_at (parse_parents l.parents) l.f) ≡ or_else (slots_left (names_at (parse_parents l.parents) l.f) l.r l.count l.j) (places_left (width (parse_parents l.parents)) (names_at (parse_parents l.parents) l.f) l.n (l.r + 1)))
    × (up_to l.f (all_slots (parse_parents l.parents)) ≡ l.compared + slot_count (parse_parents l.parents) l.f l.r l.j (all_slots (drop (l.r + 1) (parse_parents l.parents))))

abbrev pub decreases-loop-j : goal.decreases-loop-j
decreases-loop-j l = l.count - l.j

abbrev pub invariant-rows : goal.invariant-rows
invariant-rows l = (l.place ≡ None) × (scan (parse_parents l.parents) (names_at (parse_parents l.parents) l.f) ≡ places_left (width (parse_parents l.parents)) (names_at (parse_parents l.parents) l.f) l.n l.r)
    × (up_to l.f (all_slots (parse_parents l.parents)) ≡ l.compared + row_count (parse_parents l.parents) l.f l.r)

abbrev pub decreases-rows : goal.decreases-rows
decreases-rows l = l.n - l.r
