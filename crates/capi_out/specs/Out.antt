-- Numbers that are handed out: what every export with an array for its answer does.
use Rattle.std.specs.Prelude.{ℕ, List, cond, leb, eqb, length}
use Rattle.std.proofs.lemmas.List.Edits.{sets}

-- "What is handed out into too few places is 17, after every other refusal"
unfoldable pub out_answer : ℕ → List ℕ → List ℕ → ℕ
out_answer number values out = cond (eqb number 0) (cond (leb (length values) (length out)) 0 17) number

-- "nothing is written" with a refusal; "a longer one keeps its rest"
unfoldable pub out_numbers : ℕ → List ℕ → List ℕ → List ℕ
out_numbers number values out = cond (eqb (out_answer number values out) 0) (sets out 0 values) out
