-- The records that stay in sweep 4: one of each that an entry names, and again all. Assumes nothing.
use Prim.Native.Nat.{ℕ, ◌-◌}
use mathlib.Core.Path.{◌≡◌, refl, sym, ap, ◌∙◌}
use mathlib.Core.Bool.{Bool, true, false, cond, not, ◌&&◌, ◌||◌, or_assoc, or-true, and-false}
use mathlib.Core.List.{List, [], ◌∷◌, ◌++◌}
use native.Mathlib.Omega.{arith}
use lib.ListN.{length}
use Rattle.wire.proofs.Both.{and_first}
use Rattle.fid.specs.declared.MdtFid.{MdtFid}
use Rattle.linkea.specs.Link.{Link}
use Rattle.names.specs.Rows.{Entry, Child, is_none, links_in, links_of, with_link_ea}
use Rattle.names.specs.Findings.{any, same_link}
use Rattle.names.specs.Sweeps.{named, goes, kept, left_links, gone, pruned}
use Rattle.names.specs.Promises.{hidden_links}
use Rattle.names_promises.proofs.RowFrames.{shorter, pruned_either}
use Rattle.names_promises.proofs.SameLinks.{link_is}

pub any_append : {A : Type 0} (test : A → Bool) (l m : List A) → any test (l ++ m) ≡ (any test l || any test m)
unfolding any
any_append test [] m = refl
any_append test (x ∷ l) m = ap (λ (b : Bool). test x || b) (any_append test l m) ∙ sym (or_assoc (test x) (any test l) (any test m))

or_first : (a b : Bool) → (a || b) ≡ false → a ≡ false
or_first true b h = h
or_first false b h = refl

or_second : (a b : Bool) → (a || b) ≡ false → b ≡ false
or_second true b h = cc
or_second false b h = h

-- one that is not among some and a last is not among those, nor the last
last_first : (y : Link) (l : List Link) (x : Link) → any (same_link y) (l ++ (x ∷ [])) ≡ false → any (same_link y) l ≡ false
last_first y l x h = or_first (any (same_link y) l) (any (same_link y) (x ∷ [])) (rw (any_append (same_link y) l (x ∷ [])) at h)

last_last : (y : Link) (l : List Link) (x : Link) → any (same_link y) (l ++ (x ∷ [])) ≡ false → any (same_link y) (x ∷ []) ≡ false
last_last y l x h = or_second (any (same_link y) l) (any (same_link y) (x ∷ [])) (rw (any_append (same_link y) l (x ∷ [])) at h)

module _ (seen : MdtFid → Bool) (es : List Entry) (r : ℕ) where
  -- of a record that an entry names, the first stays
  named_stays : (before : List Link) (x : Link) → named es r x ≡ true → any (same_link x) before ≡ false → goes seen es r before x ≡ false
  unfolding goes
  named_stays before x n b = rw (n, b) (and-false (seen x.parent))

  pub kept_has : (x : Link) → named es r x ≡ true → (before l : List Link) → any (same_link x) before ≡ false → any (same_link x) l ≡ true →
      any (same_link x) (kept seen es r before l) ≡ true
  unfolding kept any
  kept_has x n before [] b h = h
  kept_has x n before (y ∷ ys) b h = go (same_link x y) refl (λ k t. kept_has x n (before ++ (y ∷ [])) ys k t)
    where
      go : (t : Bool) → same_link x y ≡ t →
          (any (same_link x) (before ++ (y ∷ [])) ≡ false → any (same_link x) ys ≡ true → any (same_link x) (kept seen es r (before ++ (y ∷ [])) ys) ≡ true) →
          any (same_link x) (cond (goes seen es r before y) [] (y ∷ []) ++ kept seen es r (before ++ (y ∷ [])) ys) ≡ true
      go true t rec =
          let e : goes seen es r before y ≡ false = rw (← link_is x y t) (named_stays before x n b) in
          rw (e, t)
      go false t rec =
          let u : any (same_link x) ys ≡ true = rw t at h in
          let v : any (same_link x) (before ++ (y ∷ [])) ≡ false = rw (any_append (same_link x) before (y ∷ []), b, t) in
          rw (any_append (same_link x) (cond (goes seen es r before y) [] (y ∷ [])) (kept seen es r (before ++ (y ∷ [])) ys), rec v u)
          (or-true (any (same_link x) (cond (goes seen es r before y) [] (y ∷ []))))

  pub shorter_links : (c : Child) → links_of (shorter seen es r c) ≡ left_links seen es r c
  unfolding links_of links_in shorter with_link_ea
  shorter_links c = refl

  -- those that stay stay again
  goes_less : (before less : List Link) (x : Link) → (any (same_link x) before ≡ false → any (same_link x) less ≡ false) →
      goes seen es r before x ≡ false → goes seen es r less x ≡ false
  unfolding goes
  goes_less before less x f h = go (seen x.parent) (named es r x) (any (same_link x) before) h f
    where
      go : (s n b : Bool) → (s && (not n || b)) ≡ false → (b ≡ false → any (same_link x) less ≡ false) → (s && (not n || any (same_link x) less)) ≡ false
      go true true b h f = f h
      go true false b h f = h
      go false n b h f = refl

  kept_again : (l before less : List Link) → ((x : Link) → any (same_link x) before ≡ false → any (same_link x) less ≡ false) →
      kept seen es r less (kept seen es r before l) ≡ kept seen es r before l
  unfolding kept
  kept_again [] before less f = refl
  kept_again (x ∷ xs) before less f = go (goes seen es r before x) refl (λ m g. kept_again xs (before ++ (x ∷ [])) m g)
    where
      wide : (y : Link) → any (same_link y) (before ++ (x ∷ [])) ≡ false → any (same_link y) less ≡ false
      wide y h = f y (last_first y before x h)

      both : (y : Link) → any (same_link y) (before ++ (x ∷ [])) ≡ false → any (same_link y) (less ++ (x ∷ [])) ≡ false
      both y h = rw (any_append (same_link y) less (x ∷ []), f y (last_first y before x h)) (last_last y before x h)

      go : (b : Bool) → goes seen es r before x ≡ b →
          ((m : List Link) → ((y : Link) → any (same_link y) (before ++ (x ∷ [])) ≡ false → any (same_link y) m ≡ false) →
          kept seen es r m (kept seen es r (before ++ (x ∷ [])) xs) ≡ kept seen es r (before ++ (x ∷ [])) xs) →
          kept seen es r less (cond b [] (x ∷ []) ++ kept seen es r (before ++ (x ∷ [])) xs) ≡ cond b [] (x ∷ []) ++ kept seen es r (before ++ (x ∷ [])) xs
      go true h rec = rec less wide
      go false h rec = rw (goes_less before less x (f x) h) (ap (λ (l : List Link). x ∷ l) (rec (less ++ (x ∷ [])) both))

  -- those of hidden directories all stay
  goes_seen : (before : List Link) (x : Link) → goes seen es r before x ≡ true → seen x.parent ≡ true
  unfolding goes
  goes_seen before x h = and_first (seen x.parent) (not (named es r x) || any (same_link x) before) h

  pub kept_hidden : (before l : List Link) → hidden_links seen (kept seen es r before l) ≡ hidden_links seen l
  unfolding kept hidden_links
  kept_hidden before [] = refl
  kept_hidden before (x ∷ xs) = go (goes seen es r before x) refl (kept_hidden (before ++ (x ∷ [])) xs)
    where
      go : (b : Bool) → goes seen es r before x ≡ b → hidden_links seen (kept seen es r (before ++ (x ∷ [])) xs) ≡ hidden_links seen xs →
          hidden_links seen (cond b [] (x ∷ []) ++ kept seen es r (before ++ (x ∷ [])) xs) ≡ cond (seen x.parent) [] (x ∷ []) ++ hidden_links seen xs
      go true h rec = rw (goes_seen before x h) rec
      go false h rec = ap (λ (l : List Link). cond (seen x.parent) [] (x ∷ []) ++ l) rec

-- ## Of a child

-- none goes where all stay
pub gone_none : (seen : MdtFid → Bool) (es : List Entry) (r : ℕ) (c : Child) → links_of c ≡ left_links seen es r c → gone seen es r c ≡ 0
unfolding gone
gone_none seen es r c h = rw (← h) (go (is_none c.self) (length (links_of c)))
  where
    go : (b : Bool) (n : ℕ) → cond b 0 (n - n) ≡ 0
    go true n = refl
    go false n = omega arith

pruned_still : (seen : MdtFid → Bool) (es : List Entry) (r : ℕ) (c : Child) → gone seen es r c ≡ 0 → pruned seen es r c ≡ c
unfolding pruned
pruned_still seen es r c h = rw h

module _ (seen : MdtFid → Bool) (es : List Entry) (r : ℕ) (c : Child) where
  left_again : left_links seen es r (shorter seen es r c) ≡ left_links seen es r c
  unfolding left_links shorter links_of links_in with_link_ea
  left_again = kept_again seen es r (links_of c) [] [] (λ x h. h)

  shorter_none : gone seen es r (shorter seen es r c) ≡ 0
  shorter_none = gone_none seen es r (shorter seen es r c) (shorter_links seen es r c ∙ sym left_again)

  pub pruned_none : gone seen es r (pruned seen es r c) ≡ 0
  pruned_none = pruned_either seen es r c (λ d. gone seen es r d ≡ 0) (λ g. g) (λ g. shorter_none)

  pub pruned_again : pruned seen es r (pruned seen es r c) ≡ pruned seen es r c
  pruned_again = pruned_still seen es r (pruned seen es r c) pruned_none
