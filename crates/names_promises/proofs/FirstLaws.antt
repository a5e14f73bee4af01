-- After sweep 1 no entry has a self FID to give. Assumes nothing.
use Prim.Native.Nat.{ℕ, ◌<◌}
use mathlib.Core.Path.{◌≡◌, refl, sym, ap, subst, ◌∙◌}
use mathlib.Core.Bool.{Bool, true, false, cond, not, ◌&&◌, true≢false}
use mathlib.Core.List.{List, [], ◌∷◌}
use lib.ListN.{length, set}
use Rattle.fid.specs.declared.MdtFid.{MdtFid}
use Rattle.names.specs.Rows.{Entry, Child, is_none, child_of, with_self}
use Rattle.names.specs.Sweeps.{gives, taking, sweep1}
use Rattle.names_promises.proofs.AskLaws.{gives_same}
use Rattle.names_promises.proofs.EachLaws.{Each}
use Rattle.names_promises.proofs.FrameLaws.{taking_many}
use Rattle.names_promises.proofs.RowFrames.{set_own}
use Rattle.names_promises.proofs.SelfLaws.{sweep1_self}

off : (a b c : Bool) → b ≡ true → (a && b) ≡ false → (a && c) ≡ false
off true b c p h = absurd (true≢false (sym p ∙ h))
off false b c p h = refl

module _ (seen : MdtFid → Bool) where
  -- an entry whose child has its FID gives none
  pub gives_own : (cs : List Child) (e : Entry) → (child_of cs e).self ≡ e.fid → gives seen cs e ≡ false
  unfolding gives
  gives_own cs e h = rw h (go (seen e.parent) (is_none e.fid))
    where
      go : (s n : Bool) → (s && not n && n) ≡ false
      go true true = refl
      go true false = refl
      go false n = refl

  taking_none : (cs : List Child) (e : Entry) → e.child < length cs → gives seen (taking seen cs e) e ≡ false
  unfolding taking with_self
  taking_none cs e h = go (gives seen cs e) refl
    where
      go : (b : Bool) → gives seen cs e ≡ b → gives seen (cond b (set cs e.child (with_self (child_of cs e) e.fid)) cs) e ≡ false
      go true g = gives_own (set cs e.child (with_self (child_of cs e) e.fid)) e (ap (λ (d : Child). d.self) (set_own cs e (with_self (child_of cs e) e.fid) h))
      go false g = g

  none_stays : (es : List Entry) (cs : List Child) (e : Entry) → gives seen cs e ≡ false → gives seen (sweep1 seen es cs) e ≡ false
  unfolding gives child_of
  none_stays es cs e h = go (is_none (child_of cs e).self) refl
    where
      go : (b : Bool) → is_none (child_of cs e).self ≡ b → gives seen (sweep1 seen es cs) e ≡ false
      go true n = off (seen e.parent && not (is_none e.fid)) (is_none (child_of cs e).self) (is_none (child_of (sweep1 seen es cs) e).self) n h
      go false n = gives_same seen cs (sweep1 seen es cs) e (sweep1_self seen es cs e.child n) ∙ h

  pub sweep1_none : (es : List Entry) (cs : List Child) → Each (λ e. e.child < length cs) es → Each (λ e. gives seen (sweep1 seen es cs) e ≡ false) es
  unfolding sweep1
  sweep1_none [] cs h = tt
  sweep1_none (e ∷ es) cs h = (
    none_stays es (taking seen cs e) e (taking_none cs e h.0),
    sweep1_none es (taking seen cs e) (subst (λ (n : ℕ). Each (λ e. e.child < n) es) (sym (taking_many seen cs e)) h.1),
  )
