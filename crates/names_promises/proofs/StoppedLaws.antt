-- A mending that is stopped leaves what sweep 3 leaves over the entries before it. Assumes nothing.
use Prim.Native.Nat.{ℕ, suc, ◌+◌}
use mathlib.Core.Path.{◌≡◌, refl, subst}
use mathlib.Core.Bool.{Bool, true, false, false≢true}
use mathlib.Core.List.{List, [], ◌∷◌}
use native.Mathlib.Omega.{arith}
use lib.ListN.{take}
use Rattle.fid.specs.declared.MdtFid.{MdtFid}
use Rattle.names.specs.Rows.{Entry, Child}
use Rattle.names.specs.Sweeps.{Asks, nothing, room, more, Appends, appending, asks, onward, sweep3}
use Rattle.names.specs.Mend.{link_full, first, second, third, report_of, finish, mended}

-- the same, not stopped
unstopped : Appends → Appends
unstopped a = record { children = a.children; count = a.count; reached = a.reached; full = false }

module _ (seen : MdtFid → Bool) where
  -- it stops k entries on, and those k entries give the same
  stops : (es : List Entry) (cs : List Child) (n i : ℕ) → (sweep3 seen es cs n i).full ≡ true →
      (k : ℕ) × (i + k ≡ (sweep3 seen es cs n i).reached) × (sweep3 seen (take k es) cs n i ≡ unstopped (sweep3 seen es cs n i))
  unfolding sweep3 onward unstopped
  stops [] cs n i f = absurd (false≢true f)
  stops (e ∷ es) cs n i f = go (asks seen cs e) refl f (λ ds m g. stops es ds m (suc i) g)
    where
      go : (a : Asks) → asks seen cs e ≡ a → (onward (λ (ds : List Child) (m : ℕ). sweep3 seen es ds m (suc i)) cs n i e a).full ≡ true →
          ((ds : List Child) (m : ℕ) → (sweep3 seen es ds m (suc i)).full ≡ true →
          (k : ℕ) × (suc i + k ≡ (sweep3 seen es ds m (suc i)).reached) × (sweep3 seen (take k es) ds m (suc i) ≡ unstopped (sweep3 seen es ds m (suc i)))) →
          (k : ℕ) × (i + k ≡ (onward (λ (ds : List Child) (m : ℕ). sweep3 seen es ds m (suc i)) cs n i e a).reached)
          × (sweep3 seen (take k (e ∷ es)) cs n i ≡ unstopped (onward (λ (ds : List Child) (m : ℕ). sweep3 seen es ds m (suc i)) cs n i e a))
      go nothing a f rec = let w = rec cs n f in (suc w.0, omega (arith, w.1), rw a w.2)
      go room a f rec = let w = rec (appending cs e) (suc n) f in (suc w.0, omega (arith, w.1), rw a w.2)
      go more a f rec = (0, omega arith, refl)

  module _ (es : List Entry) (cs : List Child) where
    full_stopped : (mended seen es cs).answer ≡ link_full → (third seen es cs).full ≡ true
    unfolding mended finish
    full_stopped = go (third seen es cs).full
      where
        go : (b : Bool) → (finish seen es cs b).answer ≡ link_full → b ≡ true
        go true h = refl
        go false h = absurd (omega arith)

    third_stopped : (third seen es cs).full ≡ true →
        sweep3 seen (take (third seen es cs).reached (second seen es cs)) (first seen es cs) 0 0 ≡ unstopped (third seen es cs)
    unfolding third
    third_stopped f =
        let w = stops (second seen es cs) (first seen es cs) 0 0 f in
        let k : w.0 ≡ (sweep3 seen (second seen es cs) (first seen es cs) 0 0).reached = omega (arith, w.1) in
        subst
        (λ (j : ℕ). sweep3 seen (take j (second seen es cs)) (first seen es cs) 0 0 ≡ unstopped (sweep3 seen (second seen es cs) (first seen es cs) 0 0))
        k w.2

    pub mended_stopped : (mended seen es cs).answer ≡ link_full →
        ((mended seen es cs).entries ≡ second seen es cs)
        × (sweep3 seen (take (mended seen es cs).report.reached (mended seen es cs).entries) (first seen es cs) 0 0
        ≡ record { children = (mended seen es cs).children; count = (mended seen es cs).report.appended; reached = (mended seen es cs).report.reached; full = false })
    unfolding mended finish report_of unstopped
    mended_stopped h = let f = full_stopped h in (rw f refl, rw f (third_stopped f))
