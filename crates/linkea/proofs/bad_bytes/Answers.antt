use Rattle.std.proofs.Common.{ℕ, List, [], ◌∷◌, ◌≡◌, ◌||◌, refl, ap, ◌∙◌, rules}
use Rattle.std.specs.List.{list_any}
use Rattle.std.proofs.lemmas.Iterator.{YieldsList-from_slice}
use Rattle.std.proofs.lemmas.Iterator.Search.{any_from_yields_List}
use Rattle.linkea.specs.Conditions.{some, bad_byte}
use Rattle.linkea.proofs.bad_bytes.Goals as goal

some_any : (ns : List ℕ) → list_any bad_byte ns ≡ some bad_byte ns
unfolding some
some_any [] = refl
some_any (n ∷ ns) = ap (λ b. bad_byte n || b) (some_any ns)

pub returns : goal.returns
returns c =
    any_from_yields_List bad_byte _ _ _ c.any.ensures.ran (YieldsList-from_slice c.args.name.now cc) (λ x b q k. search (rules, k))
    ∙ some_any c.args.name.now
