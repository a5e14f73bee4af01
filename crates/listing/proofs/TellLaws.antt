-- Classes told one after the other: what is left to tell, from where the loop stands. Assumes nothing.
use Prim.Native.Nat.{ℕ, zero, suc, ◌+◌, ◌-◌, ◌*◌, ◌≤◌, ◌<◌}
use native.Mathlib.Omega.{arith}
use mathlib.Core.Path.{◌≡◌, refl, sym, ap, ◌∙◌}
use mathlib.Core.Bool.{true, false}
use mathlib.Core.List.{List, [], ◌∷◌}
use lib.ListN.{length}
use lib.Seq.{sets}
use Rattle.wire.proofs.Splice.{sets_at}
use Rattle.tables.specs.Records.{Tables}
use Rattle.tables.specs.Positions.{is_end, next}
use Rattle.tables.specs.declared.Position.{Position}
use Rattle.rules.specs.Classes.{class_numbers}
use Rattle.rules.specs.Steps.{class_at}
use Rattle.rules.specs.declared.Class.{Class}
use Rattle.capi_class.proofs.ClassLaws.{class_four}
use Rattle.listing.specs.Listing.{positions_from, onward, classes_at}

-- the positions that are left
module _ (T : Tables) (p : Position) where
  none_left_lem : (n : ℕ) → n ≡ 0 → positions_from n T p ≡ []
  unfolding positions_from
  none_left_lem n e = rw e

  pub end_left : (n : ℕ) → is_end p ≡ true → positions_from n T p ≡ []
  unfolding positions_from
  end_left zero e = refl
  end_left (suc n) e = rw e refl

  one_left : (m d : ℕ) → d < m → is_end p ≡ false → positions_from (m - d) T p ≡ p ∷ positions_from (m - (d + 1)) T (next T p)
  unfolding positions_from
  one_left m d h e = let k : m - d ≡ suc (m - (d + 1)) = omega arith in rw (k, e)

-- after d of the positions ws, told into l from p on: those left are ps, from q on, and x is what l has become
pub record Left (T : Tables) (ws : List Position) (p : Position) (l : List ℕ) (d : ℕ) (ps : List Position) (q : Position) (x : List ℕ) : Type 0 where
  pub count : length ws ≡ d + length ps
  pub position : onward (length ws) T p ≡ onward (length ps) T q
  pub numbers : sets l 0 (classes_at T ws) ≡ sets x (4 * d) (classes_at T ps)

module _ (T : Tables) (ws : List Position) (p : Position) (l : List ℕ) where
  pub left_start : Left T ws p l 0 ws p l
  left_start = record { count = omega arith; position = refl; numbers = refl }

  module _ (d : ℕ) (q : Position) (x : List ℕ) where
    -- none is left
    left_none : Left T ws p l d [] q x → (d ≡ length ws) × ((q ≡ onward (length ws) T p) × (x ≡ sets l 0 (classes_at T ws)))
    unfolding onward classes_at
    left_none w = (omega (arith, w.count), (sym w.position, sym w.numbers))

    -- one more was told
    left_next : (ps : List Position) → Left T ws p l d (q ∷ ps) q x → (y : List ℕ) → y ≡ sets x (4 * d) (class_numbers (class_at T q)) →
        Left T ws p l (d + 1) ps (next T q) y
    unfolding onward classes_at
    left_next ps w y e =
        let c : List ℕ = class_numbers (class_at T q) in
        let k : 4 * d + 4 ≡ 4 * (d + 1) = omega arith in
        record {
          count = omega (arith, w.count);
          position = w.position;
          numbers =
              w.numbers
              ∙ sym (sets_at c (classes_at T ps) x (4 * d) 4 (class_four (class_at T q)))
              ∙ (λ i. sets (sym e i) (k i) (classes_at T ps));
        }

-- ## As the loop asks

abbrev pub Leaves : Tables → ℕ → Position → List ℕ → ℕ → Position → List ℕ → Type 0
Leaves T m p l d q x = Left T (positions_from m T p) p l d (positions_from (m - d) T q) q x

abbrev pub Ends : Tables → ℕ → Position → List ℕ → ℕ → Position → List ℕ → Type 0
Ends T m p l d q x =
    (d ≡ length (positions_from m T p))
    × ((q ≡ onward (length (positions_from m T p)) T p) × (x ≡ sets l 0 (classes_at T (positions_from m T p))))

module _ (T : Tables) (m : ℕ) (p : Position) (l : List ℕ) where
  pub leaves_start : Leaves T m p l 0 p l
  leaves_start = let k : m ≡ m - 0 = omega arith in rw (← k) (left_start T (positions_from m T p) p l)

  module _ (d : ℕ) (q : Position) (x : List ℕ) (w : Leaves T m p l d q x) where
    ends : positions_from (m - d) T q ≡ [] → Ends T m p l d q x
    ends e = left_none T (positions_from m T p) p l d q x (rw e at w)

    pub ends_there : is_end q ≡ true → Ends T m p l d q x
    ends_there e = ends (end_left T q (m - d) e)

    pub ends_full : m ≤ d → Ends T m p l d q x
    ends_full h = ends (none_left_lem T q (m - d) (omega arith))

    pub leaves_next : d < m → is_end q ≡ false → (c : Class) → c ≡ class_at T q → (y : List ℕ) → y ≡ sets x (4 * d) (class_numbers c) →
        (v : Position) → v ≡ next T q → Leaves T m p l (d + 1) v y
    leaves_next h e c f y g v n =
        rw n
        (left_next T (positions_from m T p) p l d q x (positions_from (m - (d + 1)) T (next T q)) (rw (one_left T q m d h e) at w) y
        (g ∙ ap (λ (z : Class). sets x (4 * d) (class_numbers z)) f))
