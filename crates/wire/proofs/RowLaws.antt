-- Rows of one size: the row at a place, and what a run of stores inside one row does to them. Assumes nothing.
use mathlib.Core.Path.{◌≡◌, refl, sym, ap, ◌∙◌}
use mathlib.Core.List.{List, [], ◌∷◌, ◌++◌}
use Prim.Native.Nat.{ℕ, zero, suc, ◌+◌, ◌-◌, ◌*◌, ◌≤◌, ◌<◌}
use native.Mathlib.Nat.{not-suc-le-zero, mul-zero, mul-suc, zero-add, sub-zero}
use native.Mathlib.Numerals.{add-one}
use native.Mathlib.Omega.{arith}
use lib.ListN.{length, take, drop, set, get_or, length-drop, take-append-drop}
use lib.Seq.{sets, drop-drop, drop-set-lt, take-set-lt}
use Rattle.wire.specs.Rows.{rows}
use Rattle.wire.proofs.Splice.{take_sets_le, drop_sets_add}

module _ {A : Type 0} where
  pub drop_sets_le : (vs l : List A) (n i : ℕ) → i + length vs ≤ n → drop n (sets l i vs) ≡ drop n l
  drop_sets_le [] l n i h = refl
  drop_sets_le (a ∷ vs) l n i h = drop_sets_le vs (set l i a) n (suc i) (omega arith) ∙ drop-set-lt n l i a (omega arith)

module _ {A : Type 0} where
  -- stores in the first n
  pub take_sets_in : (vs l : List A) (n i : ℕ) → i + length vs ≤ n → take n (sets l i vs) ≡ sets (take n l) i vs
  take_sets_in [] l n i h = refl
  take_sets_in (a ∷ vs) l n i h = take_sets_in vs (set l i a) n (suc i) (omega arith) ∙ rw (take-set-lt n l i a (omega arith))

pub rows_length : (size n : ℕ) (l : List ℕ) → length (rows size n l) ≡ n
unfolding rows
rows_length size zero l = refl
rows_length size (suc n) l = ap suc (rows_length size n (drop size l))

pub rows_at : (size n j : ℕ) (l : List ℕ) → j < n → get_or (rows size n l) j [] ≡ take size (drop (size * j) l)
unfolding rows
rows_at size zero j l h = absurd (not-suc-le-zero h)
rows_at size (suc n) zero l h = rw mul-zero
rows_at size (suc n) (suc j) l h =
    let m : size * suc j ≡ size + size * j = omega (arith, mul-suc size j) in
    rows_at size n j (drop size l) (omega arith) ∙ rw (m, drop-drop (size * j) size l)

-- stores inside row j are stores in that row
pub rows_inside : (size n j k : ℕ) (l e : List ℕ) → k + length e ≤ size → j < n → size * n ≤ length l →
    rows size n (sets l (size * j + k) e) ≡ set (rows size n l) j (sets (get_or (rows size n l) j []) k e)
unfolding rows
rows_inside size zero j k l e f h s = absurd (not-suc-le-zero h)
rows_inside size (suc n) zero k l e f h s =
    rw (mul-zero, zero-add, drop_sets_le e l size k f) (ap (λ (t : List ℕ). t ∷ rows size n (drop size l)) (take_sets_in e l size k f))
rows_inside size (suc n) (suc j) k l e f h s =
    let p : size * suc n ≡ size + size * n = omega (arith, mul-suc size n) in
    let i : size * suc j + k ≡ size + (size * j + k) = omega (arith, mul-suc size j) in
    rw (i, take_sets_le e l size (size + (size * j + k)) (omega arith), drop_sets_add e l size (size * j + k))
    (ap (λ (t : List (List ℕ)). take size l ∷ t) (rows_inside size n j k (drop size l) e f (omega arith) (rw length-drop (omega arith))))

-- a table of whole rows is its rows
pub rows_same : (size n : ℕ) (l m : List ℕ) → length l ≡ size * n → length m ≡ size * n → rows size n l ≡ rows size n m → l ≡ m
unfolding rows
rows_same size zero [] [] p q e = refl
rows_same size zero [] (x ∷ m) p q e = absurd (omega (arith, mul-zero size))
rows_same size zero (y ∷ l) m p q e = absurd (omega (arith, mul-zero size))
rows_same size (suc n) l m p q e =
    let a : take size l ≡ take size m = cc in
    let b : rows size n (drop size l) ≡ rows size n (drop size m) = cc in
    let d : drop size l ≡ drop size m =
    rows_same size n (drop size l) (drop size m) (rw length-drop (omega (arith, mul-suc size n))) (rw length-drop (omega (arith, mul-suc size n))) b in
    sym (take-append-drop size l) ∙ ap (λ (t : List ℕ). t ++ drop size l) a ∙ ap (λ (t : List ℕ). take size m ++ t) d ∙ take-append-drop size m

-- the rows from r on: row r, and those from r + 1 on
pub rows_step : (size n r : ℕ) (l : List ℕ) → r < n →
    rows size (n - r) (drop (size * r) l) ≡ take size (drop (size * r) l) ∷ rows size (n - (r + 1)) (drop (size * (r + 1)) l)
unfolding rows
rows_step size n r l h =
    let e : n - r ≡ suc (n - (r + 1)) = omega arith in
    let m : size * (r + 1) ≡ size * r + size = rw add-one (omega (arith, mul-suc size r)) in
    rw (e, m, drop-drop size (size * r) l)

pub rows_end : (size n r : ℕ) (l : List ℕ) → n ≤ r → rows size (n - r) (drop (size * r) l) ≡ []
unfolding rows
rows_end size n r l h = let e : n - r ≡ 0 = omega arith in rw e

pub rows_start : (size n : ℕ) (l : List ℕ) → rows size n l ≡ rows size (n - 0) (drop (size * 0) l)
rows_start size n l = rw (sub-zero, mul-zero)
