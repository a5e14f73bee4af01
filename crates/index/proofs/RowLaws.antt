-- What is found by the index is what a search from the first row on would find. Assumes nothing.
use Rattle.std.specs.Prelude.{Some}
use mathlib.Core.Path.{◌≡◌, refl, ap, ◌∙◌}
use mathlib.Core.Bool.{Bool, true, false, cond, ◌&&◌}
use mathlib.Core.List.{List, [], ◌∷◌}
use Prim.Native.Nat.{ℕ, suc, ◌+◌, ◌*◌, ◌/◌, ◌%◌, ◌≤◌}
use native.Mathlib.Omega.{arith}
use lib.ListN.{length}
use lib.Dec.{eqb}
use Rattle.index.specs.Entries.{value_range, sorted}
use Rattle.index.specs.Search.{lower, lowest_of, Key, keyless, key, numbers_of, listed, is_key, first_with}
use Rattle.index.proofs.OrderLaws.{sorted_lowest}

module _ (test : ℕ → Bool) (k : ℕ) where
  -- a row is before those found from a later row on
  before : (r s : ℕ) (js : List Key) → r ≤ s → lower true r (first_with test k js s) ≡ Some r
  unfolding first_with lower
  before r s [] h = refl
  before r s (j ∷ js) h = go (is_key k j && test s) (before r (suc s) js (omega arith))
    where
      go : (b : Bool) → lower true r (first_with test k js (suc s)) ≡ Some r → lower true r (cond b (Some s) (first_with test k js (suc s))) ≡ Some r
      go true i = ap Some (omega arith)
      go false i = i

  lowered : (b : Bool) (r : ℕ) (js : List Key) → lower b r (first_with test k js (suc r)) ≡ cond b (Some r) (first_with test k js (suc r))
  unfolding lower
  lowered true r js = before r (suc r) js (omega arith)
  lowered false r js = refl

  -- the lowest value of the rows' entries is the first row
  listed_lowest : (js : List Key) (r : ℕ) → r + length js ≤ value_range → lowest_of test k (listed js r) ≡ first_with test k js r
  unfolding listed numbers_of lowest_of first_with is_key
  listed_lowest [] r h = refl
  listed_lowest (keyless ∷ js) r h = listed_lowest js (suc r) (omega arith)
  listed_lowest (key j ∷ js) r h =
      let d : (r + value_range * j) / value_range ≡ j = omega arith in
      let m : (r + value_range * j) % value_range ≡ r = omega arith in
      rw (d, m) (ap (lower (eqb j k && test r) r) (listed_lowest js (suc r) (omega arith)) ∙ lowered (eqb j k && test r) r js)

  -- and so it is of the entries in order
  pub sorted_first : (js : List Key) → length js ≤ value_range → lowest_of test k (sorted (listed js 0)) ≡ first_with test k js 0
  sorted_first js h = sorted_lowest test k (listed js 0) ∙ listed_lowest js 0 (omega arith)
