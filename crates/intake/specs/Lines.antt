-- A dump as its lines, each ended by byte 10, and what follows the last of them. Document 02, 2026-03: "a `# file:` line, attribute lines in hex, an empty
-- line".
use Rattle.std.specs.Prelude.{ℕ, List, [], ◌∷◌, cond, eqb}

-- the byte that ends a line
abbrev pub newline : ℕ
newline = 10

pub record Lines : Type 0 where
  pub complete : List (List ℕ)
  pub rest : List ℕ

-- a byte in front: of the first line, or of the rest where no line is complete
unfoldable pub onto : ℕ → List (List ℕ) → List ℕ → Lines
onto b [] r = record { complete = []; rest = b ∷ r }
onto b (line ∷ more) r = record { complete = (b ∷ line) ∷ more; rest = r }

unfoldable pub lines : List ℕ → Lines
lines [] = record { complete = []; rest = [] }
lines (b ∷ l) =
    let L : Lines = lines l in
    cond (eqb b newline) (record { complete = [] ∷ L.complete; rest = L.rest }) (onto b L.complete L.rest)
