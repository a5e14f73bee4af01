-- After a sweep 3 that is not stopped no entry lacks its record. Assumes nothing.
use Prim.Native.Nat.{ℕ, suc, ◌<◌}
use mathlib.Core.Path.{◌≡◌, refl, sym, subst}
use mathlib.Core.Bool.{Bool, false, and-false, true≢false}
use mathlib.Core.List.{List, [], ◌∷◌}
use lib.ListN.{length}
use Rattle.fid.specs.declared.MdtFid.{MdtFid}
use Rattle.names.specs.Rows.{Entry, Child, child_of}
use Rattle.names.specs.Findings.{link_for}
use Rattle.names.specs.Sweeps.{Asks, nothing, room, more, mends, appending, lacks, asks, onward, sweep3}
use Rattle.names_promises.proofs.AskLaws.{lacks_same, asks_nothing}
use Rattle.names_promises.proofs.EachLaws.{Each}
use Rattle.names_promises.proofs.FrameLaws.{appending_many}
use Rattle.names_promises.proofs.LinkLaws.{grown_has, sweep3_links}
use Rattle.names_promises.proofs.RowFrames.{grown, set_own}
use Rattle.names_promises.proofs.SelfLaws.{sweep3_self}

module _ (seen : MdtFid → Bool) where
  appending_none : (cs : List Child) (e : Entry) → e.child < length cs → lacks seen (appending cs e) e ≡ false
  unfolding lacks appending grown
  appending_none cs e h = rw (set_own cs e (grown (child_of cs e) e) h, grown_has (child_of cs e) e) (and-false (mends seen (appending cs e) e))

  none_stays : (es : List Entry) (cs : List Child) (n i : ℕ) (e : Entry) → lacks seen cs e ≡ false → lacks seen (sweep3 seen es cs n i).children e ≡ false
  unfolding child_of
  none_stays es cs n i e h =
      lacks_same seen cs (sweep3 seen es cs n i).children e (sweep3_self seen es cs n i e.child) (sweep3_links seen es cs n i e.child (link_for e)) h

  pub sweep3_none : (es : List Entry) (cs : List Child) (n i : ℕ) → Each (λ e. e.child < length cs) es → (sweep3 seen es cs n i).full ≡ false →
      Each (λ e. lacks seen (sweep3 seen es cs n i).children e ≡ false) es
  unfolding sweep3 onward
  sweep3_none [] cs n i h f = tt
  sweep3_none (e ∷ es) cs n i h f = go (asks seen cs e) refl f (λ ds m b g. sweep3_none es ds m (suc i) b g)
    where
      go : (a : Asks) → asks seen cs e ≡ a → (onward (λ (ds : List Child) (m : ℕ). sweep3 seen es ds m (suc i)) cs n i e a).full ≡ false →
          ((ds : List Child) (m : ℕ) → Each (λ d. d.child < length ds) es → (sweep3 seen es ds m (suc i)).full ≡ false →
          Each (λ d. lacks seen (sweep3 seen es ds m (suc i)).children d ≡ false) es) →
          Each (λ d. lacks seen (onward (λ (ds : List Child) (m : ℕ). sweep3 seen es ds m (suc i)) cs n i e a).children d ≡ false) (e ∷ es)
      go nothing a f rec = (none_stays es cs n (suc i) e (asks_nothing seen cs e a), rec cs n h.1 f)
      go room a f rec = (
        none_stays es (appending cs e) (suc n) (suc i) e (appending_none cs e h.0),
        rec (appending cs e) (suc n) (subst (λ (k : ℕ). Each (λ d. d.child < k) es) (sym (appending_many seen cs e)) h.1) f,
      )
      go more a f rec = absurd (true≢false f)
