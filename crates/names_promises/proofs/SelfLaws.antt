-- A self FID stays over each sweep, and over a mending. Assumes nothing.
use Prim.Native.Nat.{ℕ, ◌+◌}
use mathlib.Core.Path.{◌≡◌, refl, ◌∙◌}
use mathlib.Core.Bool.{Bool, true, false, true≢false}
use mathlib.Core.List.{List}
use Rattle.fid.specs.declared.MdtFid.{MdtFid}
use Rattle.names.specs.Rows.{Entry, Child, is_none, child_at, with_link_ea}
use Rattle.names.specs.Sweeps.{sweep1, sweep3, pruned, sweep4}
use Rattle.names.specs.Mend.{first, second, third, finish, mended}
use Rattle.names_promises.proofs.EachLaws.{each_every}
use Rattle.names_promises.proofs.RowFrames.{grown, sweep1_rows, sweep3_rows, shorter, pruned_either, sweep4_at}

pub sweep1_self : (seen : MdtFid → Bool) (es : List Entry) (cs : List Child) (r : ℕ) → is_none (child_at cs r).self ≡ false →
    (child_at (sweep1 seen es cs) r).self ≡ (child_at cs r).self
sweep1_self seen es cs r =
    sweep1_rows seen (λ i c d. is_none c.self ≡ false → d.self ≡ c.self) (λ i c h. refl)
    (λ i a b c p q h. let e : b.self ≡ a.self = p h in q (rw e h) ∙ e) (λ i c f n h. absurd (true≢false (rw n at h))) es cs r

pub sweep3_self : (seen : MdtFid → Bool) (es : List Entry) (cs : List Child) (n i r : ℕ) →
    (child_at (sweep3 seen es cs n i).children r).self ≡ (child_at cs r).self
unfolding grown with_link_ea
sweep3_self seen es cs n i r =
    sweep3_rows seen (λ i c d. d.self ≡ c.self) (λ i c. refl) (λ i a b c p q. q ∙ p) (λ e. Unit {0}) (λ c e p s l. refl) es
    (each_every (λ e. Unit {0}) (λ e. tt) es) cs n i r

pruned_self : (seen : MdtFid → Bool) (es : List Entry) (r : ℕ) (c : Child) → (pruned seen es r c).self ≡ c.self
unfolding shorter with_link_ea
pruned_self seen es r c = pruned_either seen es r c (λ d. d.self ≡ c.self) (λ g. refl) (λ g. refl)

pub sweep4_self : (seen : MdtFid → Bool) (es : List Entry) (cs : List Child) (k r : ℕ) → (child_at (sweep4 seen es cs k) r).self ≡ (child_at cs r).self
sweep4_self seen es cs k r = rw (sweep4_at seen es cs k r (k + r) refl) (pruned_self seen es (k + r) (child_at cs r))

module _ (seen : MdtFid → Bool) (es : List Entry) (cs : List Child) (r : ℕ) where
  -- after sweep 1 none changes
  first_self : (child_at (mended seen es cs).children r).self ≡ (child_at (first seen es cs) r).self
  unfolding mended finish third
  first_self = go (third seen es cs).full
    where
      go : (b : Bool) → (child_at (finish seen es cs b).children r).self ≡ (child_at (first seen es cs) r).self
      go true = sweep3_self seen (second seen es cs) (first seen es cs) 0 0 r
      go false = sweep4_self seen (second seen es cs) (third seen es cs).children 0 r ∙ sweep3_self seen (second seen es cs) (first seen es cs) 0 0 r

  pub mended_self : is_none (child_at cs r).self ≡ false → (child_at (mended seen es cs).children r).self ≡ (child_at cs r).self
  unfolding first
  mended_self h = first_self ∙ sweep1_self seen es cs r h
