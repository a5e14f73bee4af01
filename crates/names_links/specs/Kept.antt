-- The records that flags keep: one flag for each record, in order.
use Rattle.std.specs.Prelude.{ℕ, cond, List, [], ◌∷◌, ◌++◌, eqb}
use Rattle.linkea.specs.Link.{Link, LinkEA}
use Rattle.names.specs.Rows.{Child}
use Rattle.names.specs.Sweeps.{start_of}

-- the flag of a record that stays
abbrev pub stays : ℕ
stays = 1

unfoldable pub kept_by : List ℕ → List Link → List Link
kept_by fs [] = []
kept_by [] (x ∷ xs) = []
kept_by (f ∷ fs) (x ∷ xs) = cond (eqb f stays) (x ∷ []) [] ++ kept_by fs xs

-- the link_ea of a child with these records alone, time and padding as they were
unfoldable pub linked_by : Child → List Link → LinkEA
linked_by c xs = record { time = (start_of c.link).time; padding = (start_of c.link).padding; links = xs }
