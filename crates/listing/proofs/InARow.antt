-- Calls in a row tell what one call tells, and with as many places as there are steps all is told. Assumes nothing.
use Prim.Native.Nat.{ℕ, zero, suc, ◌+◌, ◌≤◌}
use native.Mathlib.Omega.{arith}
use native.Mathlib.Nat.{suc-add, zero-add}
use mathlib.Core.Path.{◌≡◌, refl, sym, ap, ◌∙◌}
use mathlib.Core.Bool.{Bool, true, false, cond}
use mathlib.Core.List.{List, [], ◌∷◌, ◌++◌}
use lib.ListN.{length}
use Rattle.tables.specs.Records.{Tables}
use Rattle.tables.specs.Positions.{is_end, start, next, count_steps}
use Rattle.tables.specs.declared.Position.{Position}
use Rattle.rules.proofs.Theorem.Runs.{steps_left, left_next, left_start, left_end}
use Rattle.rules.proofs.Theorem.Runs.Order.{Exists, next_exists, start_exists}
use Rattle.listing.specs.Listing.{positions_from, onward}
use Rattle.listing.proofs.TellLaws.{end_left}

-- a call with places for a positions and then one with places for b, from where the first left off
pub told_on : (a b : ℕ) (T : Tables) (p : Position) →
    positions_from (a + b) T p ≡ positions_from a T p ++ positions_from b T (onward (length (positions_from a T p)) T p)
unfolding positions_from onward
told_on zero b T p = rw zero-add
told_on (suc a) b T p = rw (suc-add a b) (go (is_end p) refl (told_on a b T (next T p)))
  where
    go : (e : Bool) → is_end p ≡ e →
        positions_from (a + b) T (next T p)
        ≡ positions_from a T (next T p) ++ positions_from b T (onward (length (positions_from a T (next T p))) T (next T p)) →
        cond e [] (p ∷ positions_from (a + b) T (next T p))
        ≡ cond e [] (p ∷ positions_from a T (next T p)) ++ positions_from b T (onward (length (cond e [] (p ∷ positions_from a T (next T p)))) T p)
    go true h k = sym (end_left T p b h)
    go false h k = ap (λ (ps : List Position). p ∷ ps) k

-- all is told from p on, and the end is reached
abbrev AllTold : ℕ → Tables → Position → Type 0
AllTold n T p = (length (positions_from n T p) ≡ steps_left T p) × (is_end (onward (length (positions_from n T p)) T p) ≡ true)

at_the_end : (n : ℕ) (T : Tables) (p : Position) → is_end p ≡ true → AllTold n T p
unfolding onward
at_the_end n T p e = (rw (end_left T p n e, left_end T p e), rw (end_left T p n e, e))

one_more : (n : ℕ) (T : Tables) (p : Position) → Exists T p → is_end p ≡ false → AllTold n T (next T p) → AllTold (suc n) T p
unfolding positions_from onward
one_more n T p x e w = (rw (e, left_next T x e, w.0), rw e w.1)

pub all_left : (n : ℕ) (T : Tables) (p : Position) → Exists T p → steps_left T p ≤ n → AllTold n T p
all_left zero T p x h = go (is_end p) refl
  where
    go : (e : Bool) → is_end p ≡ e → AllTold zero T p
    go true e = at_the_end zero T p e
    go false e = absurd (omega (arith, left_next T x e))
all_left (suc n) T p x h = go (is_end p) refl (λ k. all_left n T (next T p) (next_exists T p) k)
  where
    go : (e : Bool) → is_end p ≡ e → (steps_left T (next T p) ≤ n → AllTold n T (next T p)) → AllTold (suc n) T p
    go true e ih = at_the_end (suc n) T p e
    go false e ih = one_more n T p x e (ih (omega (arith, left_next T x e)))

-- a call from the start with a place for each step that the tables count
pub all_told : (T : Tables) →
    (length (positions_from (count_steps T) T (start T)) ≡ count_steps T)
    × (is_end (onward (length (positions_from (count_steps T) T (start T))) T (start T)) ≡ true)
all_told T =
    let w = all_left (count_steps T) T (start T) (start_exists T) (omega (arith, left_start T)) in
    (w.0 ∙ left_start T, w.1)
