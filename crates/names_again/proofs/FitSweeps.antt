-- Entries and children that rows say, over each sweep and over a mending. Assumes nothing.
use mathlib.Core.Path.{◌≡◌, refl, ◌∙◌}
use mathlib.Core.Bool.{Bool, true, false, cond}
use mathlib.Core.List.{List, [], ◌∷◌}
use Prim.Native.Nat.{ℕ, zero, suc, ◌<◌}
use native.Mathlib.Omega.{arith}
use lib.ListN.{length, set}
use Rattle.fid.specs.declared.MdtFid.{MdtFid}
use Rattle.names.specs.Rows.{Entry, Child, child_at, child_of, with_fid, with_self, with_link_ea}
use Rattle.names.specs.Findings.{link_for}
use Rattle.names.specs.Sweeps.{Asks, nothing, room, more, gives, taking, sweep1, mends, written, sweep2, grown_link, outgrows, appending, lacks, asks, onward, sweep3, sweep4}
use Rattle.names.specs.Mend.{first, second, third, finish, mended}
use Rattle.names_promises.proofs.EachLaws.{Each, each_map}
use Rattle.names_promises.proofs.FrameLaws.{taking_many, sweep1_many, appending_many}
use Rattle.names_promises.proofs.RowFrames.{pruned_either}
use Rattle.names_again.proofs.FitRows.{FitEntry, FitChild, fid_in_fits, child_there_lem, self_fits}
use Rattle.names_again.proofs.FitChanges.{fid_fit, self_fit, grown_fit, shorter_fit}

-- ## Children, each one

abbrev pub FitChildren : List Child → Type 0
FitChildren [] = Unit {0}
FitChildren (c ∷ cs) = FitChild c × FitChildren cs

pub fit_from_lem : (cs : List Child) → ((r : ℕ) → r < length cs → FitChild (child_at cs r)) → FitChildren cs
unfolding child_at
fit_from_lem [] h = tt
fit_from_lem (c ∷ cs) h = (h 0 (omega arith), fit_from_lem cs (λ r k. h (suc r) (omega arith)))

pub fit_at : (cs : List Child) → FitChildren cs → (r : ℕ) → r < length cs → FitChild (child_at cs r)
unfolding child_at
fit_at [] f r h = absurd (omega arith)
fit_at (c ∷ cs) f zero h = f.0
fit_at (c ∷ cs) f (suc r) h = fit_at cs f.1 r (omega arith)

fit_set : (cs : List Child) (r : ℕ) (d : Child) → FitChildren cs → FitChild d → FitChildren (set cs r d)
fit_set [] r d f g = tt
fit_set (c ∷ cs) zero d f g = (g, f.1)
fit_set (c ∷ cs) (suc r) d f g = (f.0, fit_set cs r d f.1 g)

-- the child of an entry
fit_of : (n : ℕ) (cs : List Child) (e : Entry) → length cs ≡ n → FitChildren cs → FitEntry n e → FitChild (child_of cs e)
unfolding child_of
fit_of n cs e l f t = fit_at cs f e.child (omega (arith, l, child_there_lem n e t))

-- what asks for room has it
has_room : (seen : MdtFid → Bool) (cs : List Child) (e : Entry) → asks seen cs e ≡ room → outgrows (child_of cs e) (link_for e) ≡ false
unfolding asks
has_room seen cs e h = go (lacks seen cs e) (outgrows (child_of cs e) (link_for e)) h
  where
    go : (b o : Bool) → cond b (cond o more room) nothing ≡ room → o ≡ false
    go true true h = cc
    go true false h = refl
    go false o h = cc

-- ## The sweeps

module _ (seen : MdtFid → Bool) (n : ℕ) where
  taking_fit : (cs : List Child) (e : Entry) → length cs ≡ n → FitEntry n e → FitChildren cs → FitChildren (taking seen cs e)
  unfolding taking
  taking_fit cs e l t f = go (gives seen cs e)
    where
      go : (b : Bool) → FitChildren (cond b (set cs e.child (with_self (child_of cs e) e.fid)) cs)
      go true = fit_set cs e.child (with_self (child_of cs e) e.fid) f (self_fit (child_of cs e) e.fid (fit_of n cs e l f t) (fid_in_fits n e t))
      go false = f

  sweep1_fit : (es : List Entry) (cs : List Child) → length cs ≡ n → Each (FitEntry n) es → FitChildren cs → FitChildren (sweep1 seen es cs)
  unfolding sweep1
  sweep1_fit [] cs l t f = f
  sweep1_fit (e ∷ es) cs l t f = sweep1_fit es (taking seen cs e) (taking_many seen cs e ∙ l) t.1 (taking_fit cs e l t.0 f)

  written_fit : (cs : List Child) (e : Entry) → length cs ≡ n → FitChildren cs → FitEntry n e → FitEntry n (written seen cs e)
  unfolding written
  written_fit cs e l f t = go (mends seen cs e)
    where
      go : (b : Bool) → FitEntry n (cond b (with_fid e (child_of cs e).self) e)
      go true = fid_fit n e (child_of cs e).self t (self_fits (child_of cs e) (fit_of n cs e l f t))
      go false = t

  sweep2_fit : (es : List Entry) (cs : List Child) → length cs ≡ n → Each (FitEntry n) es → FitChildren cs → Each (FitEntry n) (sweep2 seen cs es)
  unfolding sweep2
  sweep2_fit es cs l t f = each_map (FitEntry n) (FitEntry n) (written seen cs) (λ e u. written_fit cs e l f u) es t

  appending_fit : (cs : List Child) (e : Entry) → length cs ≡ n → asks seen cs e ≡ room → FitEntry n e → FitChildren cs → FitChildren (appending cs e)
  unfolding appending
  appending_fit cs e l h t f =
      let c : Child = child_of cs e in
      fit_set cs e.child (with_link_ea c (grown_link c (link_for e))) f (grown_fit n e c t (fit_of n cs e l f t) (has_room seen cs e h))

  sweep3_fit : (es : List Entry) (cs : List Child) (m i : ℕ) → length cs ≡ n → Each (FitEntry n) es → FitChildren cs → FitChildren (sweep3 seen es cs m i).children
  unfolding sweep3 onward
  sweep3_fit [] cs m i l t f = f
  sweep3_fit (e ∷ es) cs m i l t f = go (asks seen cs e) refl (λ ds k q g. sweep3_fit es ds k (suc i) q t.1 g)
    where
      go : (a : Asks) → asks seen cs e ≡ a →
          ((ds : List Child) (k : ℕ) → length ds ≡ n → FitChildren ds → FitChildren (sweep3 seen es ds k (suc i)).children) →
          FitChildren (onward (λ (ds : List Child) (k : ℕ). sweep3 seen es ds k (suc i)) cs m i e a).children
      go nothing h rec = rec cs m l f
      go room h rec = rec (appending cs e) (suc m) (appending_many seen cs e ∙ l) (appending_fit cs e l h t.0 f)
      go more h rec = f

  sweep4_fit : (es : List Entry) (cs : List Child) (r : ℕ) → FitChildren cs → FitChildren (sweep4 seen es cs r)
  unfolding sweep4
  sweep4_fit es [] r f = tt
  sweep4_fit es (c ∷ cs) r f =
      (pruned_either seen es r c (λ d. FitChild d) (λ h. f.0) (λ h. shorter_fit seen es r c f.0), sweep4_fit es cs (suc r) f.1)

-- ## The mending

module _ (seen : MdtFid → Bool) (es : List Entry) (cs : List Child) (t : Each (FitEntry (length cs)) es) (f : FitChildren cs) where
  first_fit : FitChildren (first seen es cs)
  unfolding first
  first_fit = sweep1_fit seen (length cs) es cs refl t f

  first_many : length (first seen es cs) ≡ length cs
  unfolding first
  first_many = sweep1_many seen es cs

  second_fit : Each (FitEntry (length cs)) (second seen es cs)
  unfolding second
  second_fit = sweep2_fit seen (length cs) es (first seen es cs) first_many t first_fit

  third_fit : FitChildren (third seen es cs).children
  unfolding third
  third_fit = sweep3_fit seen (length cs) (second seen es cs) (first seen es cs) 0 0 first_many second_fit first_fit

  pub mended_fit : Each (FitEntry (length cs)) (mended seen es cs).entries × FitChildren (mended seen es cs).children
  unfolding mended finish
  mended_fit = go (third seen es cs).full
    where
      go : (b : Bool) → Each (FitEntry (length cs)) (finish seen es cs b).entries × FitChildren (finish seen es cs b).children
      go true = (second_fit, third_fit)
      go false = (second_fit, sweep4_fit seen (length cs) (second seen es cs) (third seen es cs).children 0 third_fit)
