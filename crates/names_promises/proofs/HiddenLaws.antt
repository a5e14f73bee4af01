-- The records of hidden directories stay over a mending. Assumes nothing.
use Prim.Native.Nat.{ℕ}
use mathlib.Core.Path.{◌≡◌, refl, ap, ◌∙◌}
use mathlib.Core.Bool.{Bool, true, cond}
use mathlib.Core.List.{List, [], ◌∷◌, ◌++◌}
use Rattle.fid.specs.declared.MdtFid.{MdtFid}
use Rattle.linkea.specs.Link.{Link}
use Rattle.names.specs.Rows.{Entry, Child, child_at, links_of, with_self}
use Rattle.names.specs.Findings.{link_for}
use Rattle.names.specs.Sweeps.{left_links, pruned}
use Rattle.names.specs.Mend.{mended}
use Rattle.names.specs.Promises.{hidden_links}
use Rattle.names_promises.proofs.KeptLaws.{shorter_links, kept_hidden}
use Rattle.names_promises.proofs.LinkLaws.{grown_links}
use Rattle.names_promises.proofs.RowFrames.{grown, pruned_either, mended_rows}

module _ (seen : MdtFid → Bool) where
  -- a visible record more
  visible_last : (l : List Link) (x : Link) → seen x.parent ≡ true → hidden_links seen (l ++ (x ∷ [])) ≡ hidden_links seen l
  unfolding hidden_links
  visible_last [] x s = rw s
  visible_last (y ∷ ys) x s = ap (λ (l : List Link). cond (seen y.parent) [] (y ∷ []) ++ l) (visible_last ys x s)

  grown_hidden : (c : Child) (e : Entry) → seen e.parent ≡ true → hidden_links seen (links_of (grown c e)) ≡ hidden_links seen (links_of c)
  unfolding link_for
  grown_hidden c e s = rw (grown_links c e) (visible_last (links_of c) (link_for e) s)

  pruned_hidden : (es : List Entry) (r : ℕ) (c : Child) → hidden_links seen (links_of (pruned seen es r c)) ≡ hidden_links seen (links_of c)
  unfolding left_links
  pruned_hidden es r c =
      pruned_either seen es r c (λ d. hidden_links seen (links_of d) ≡ hidden_links seen (links_of c)) (λ g. refl)
      (λ g. rw (shorter_links seen es r c) (kept_hidden seen es r [] (links_of c)))

  pub mended_hidden : (es : List Entry) (cs : List Child) (r : ℕ) →
      hidden_links seen (links_of (child_at (mended seen es cs).children r)) ≡ hidden_links seen (links_of (child_at cs r))
  unfolding links_of with_self
  mended_hidden es cs r =
      mended_rows seen (λ i c d. hidden_links seen (links_of d) ≡ hidden_links seen (links_of c)) (λ i c. refl) (λ i a b c p q. q ∙ p) (λ i c f n. refl)
      grown_hidden pruned_hidden es cs r
