-- A link_ea with a record more, and with one less. Record count and total length follow from the records.
use Rattle.std.specs.Prelude.{ℕ, suc, [], ◌∷◌, ◌++◌, take, drop}
use Rattle.linkea.specs.Link.{Link, LinkEA}

-- the record x after all others
unfoldable pub appended : LinkEA → Link → LinkEA
appended e x = record { time = e.time; padding = e.padding; links = e.links ++ (x ∷ []) }

-- all but the j-th record
unfoldable pub removed : LinkEA → ℕ → LinkEA
removed e j = record { time = e.time; padding = e.padding; links = take j e.links ++ drop (suc j) e.links }
