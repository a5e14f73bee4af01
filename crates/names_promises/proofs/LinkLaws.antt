-- A record once there stays there: as another is appended, and as those go that no entry names or that repeat. Assumes nothing.
use Prim.Native.Nat.{ℕ}
use mathlib.Core.Path.{◌≡◌, refl}
use mathlib.Core.Bool.{Bool, true, or-true}
use mathlib.Core.List.{List, [], ◌∷◌, ◌++◌}
use native.Mathlib.Omega.{arith}
use Rattle.fid.specs.declared.MdtFid.{MdtFid}
use Rattle.linkea.specs.Link.{Link}
use Rattle.linkea_write.specs.Change.{appended}
use Rattle.names.specs.Rows.{Entry, Child, Linked, unlinked, linked, child_at, links_in, links_of, with_link_ea}
use Rattle.names.specs.Findings.{any, same_link, link_for, has_link}
use Rattle.names.specs.Sweeps.{start_of, grown_link, sweep3, named, left_links, pruned, sweep4}
use Rattle.names_promises.proofs.EachLaws.{each_every}
use Rattle.names_promises.proofs.KeptLaws.{any_append, kept_has, shorter_links}
use Rattle.names_promises.proofs.RowFrames.{grown, sweep3_rows, pruned_either, sweep4_at}
use Rattle.names_promises.proofs.SameLinks.{link_self}

-- ## Appending

pub grown_links : (c : Child) (e : Entry) → links_of (grown c e) ≡ links_of c ++ (link_for e ∷ [])
unfolding grown links_of links_in with_link_ea grown_link appended start_of
grown_links c e = go c.link
  where
    go : (l : Linked) → (start_of l).links ++ (link_for e ∷ []) ≡ links_in l ++ (link_for e ∷ [])
    go unlinked = refl
    go (linked a) = refl

pub grown_keeps : (x : Link) (c : Child) (e : Entry) → has_link x c ≡ true → has_link x (grown c e) ≡ true
unfolding has_link
grown_keeps x c e h = rw (grown_links c e, any_append (same_link x) (links_of c) (link_for e ∷ []), h)

pub grown_has : (c : Child) (e : Entry) → has_link (link_for e) (grown c e) ≡ true
unfolding has_link any
grown_has c e =
    rw (grown_links c e, any_append (same_link (link_for e)) (links_of c) (link_for e ∷ []), link_self (link_for e))
    (or-true (any (same_link (link_for e)) (links_of c)))

pub sweep3_links : (seen : MdtFid → Bool) (es : List Entry) (cs : List Child) (n i r : ℕ) (x : Link) → has_link x (child_at cs r) ≡ true →
    has_link x (child_at (sweep3 seen es cs n i).children r) ≡ true
sweep3_links seen es cs n i r x =
    sweep3_rows seen (λ i c d. has_link x c ≡ true → has_link x d ≡ true) (λ i c h. h) (λ i a b c p q h. q (p h)) (λ e. Unit {0})
    (λ c e p s l h. grown_keeps x c e h) es (each_every (λ e. Unit {0}) (λ e. tt) es) cs n i r

-- ## Removing: one that an entry names

pub pruned_has : (seen : MdtFid → Bool) (es : List Entry) (r : ℕ) (x : Link) (c : Child) → named es r x ≡ true → has_link x c ≡ true →
    has_link x (pruned seen es r c) ≡ true
unfolding has_link any left_links
pruned_has seen es r x c n h =
    pruned_either seen es r c (λ d. any (same_link x) (links_of d) ≡ true) (λ g. h)
    (λ g. rw (shorter_links seen es r c) (kept_has seen es r x n [] (links_of c) refl h))

pub sweep4_links : (seen : MdtFid → Bool) (es : List Entry) (cs : List Child) (r : ℕ) (x : Link) → named es r x ≡ true →
    has_link x (child_at cs r) ≡ true → has_link x (child_at (sweep4 seen es cs 0) r) ≡ true
sweep4_links seen es cs r x n h = rw (sweep4_at seen es cs 0 r r (omega arith)) (pruned_has seen es r x (child_at cs r) n h)
