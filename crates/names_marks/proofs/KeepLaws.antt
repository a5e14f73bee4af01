-- Children that keep the self FID of every directory under the marks: the same index, the same visibility. Assumes nothing.
use mathlib.Core.Path.{◌≡◌, refl, ap, ap₂}
use mathlib.Core.Bool.{Bool, true, false, cond, ◌&&◌}
use mathlib.Core.List.{List, [], ◌∷◌, map}
use Prim.Native.Nat.{ℕ, suc, ◌<◌}
use native.Mathlib.Omega.{arith}
use borrow.Author.Tests.{ltb-true}
use lib.Dec.{ltb, eqb}
use Rattle.fid.specs.Fid.{zero_fid}
use Rattle.fid.specs.declared.MdtFid.{MdtFid}
use Rattle.index.specs.Search.{Key, listed}
use Rattle.names.specs.Rows.{Child, with_self}
use Rattle.names.specs.Findings.{same}
use Rattle.names.specs.Visible.{no_self_mark, visible_mark, first_marked, seen_by}
use Rattle.names_judge.specs.Listed.{child_key, child_numbers}
use Rattle.names_marks.specs.Directories.{self_under, directories, Keeps}

keeps_tail : (m : ℕ) (ms : List ℕ) (c d : Child) (cs ds : List Child) → Keeps (m ∷ ms) (c ∷ cs) (d ∷ ds) → Keeps ms cs ds
keeps_tail m ms c d cs ds k = record { long = omega (arith, k.long); selves = λ r h t. k.selves (suc r) (omega arith) t }

-- the head, by its mark
self_same : (m : ℕ) (c d : Child) → (m < no_self_mark → d.self ≡ c.self) → self_under m d.self ≡ self_under m c.self
unfolding self_under
self_same m c d h = go (ltb m no_self_mark) refl
  where
    go : (b : Bool) → ltb m no_self_mark ≡ b → cond b d.self (record { 0 = zero_fid }) ≡ cond b c.self (record { 0 = zero_fid })
    go true e = h (ltb-true m no_self_mark e)
    go false e = refl

key_same : (c d : Child) (f g : MdtFid) → g ≡ f → child_key (with_self d g) ≡ child_key (with_self c f)
unfolding child_key with_self
key_same c d f g e = rw e

keys_same : (ms : List ℕ) (cs ds : List Child) → Keeps ms cs ds → map child_key (directories ms ds) ≡ map child_key (directories ms cs)
unfolding directories
keys_same [] cs ds k = refl
keys_same (m ∷ ms) [] [] k = refl
keys_same (m ∷ ms) [] (d ∷ ds) k = absurd (omega (arith, k.long))
keys_same (m ∷ ms) (c ∷ cs) [] k = absurd (omega (arith, k.long))
keys_same (m ∷ ms) (c ∷ cs) (d ∷ ds) k =
    ap₂ (λ (x : Key) (xs : List Key). x ∷ xs)
    (key_same c d (self_under m c.self) (self_under m d.self) (self_same m c d (λ t. k.selves 0 (omega arith) t)))
    (keys_same ms cs ds (keeps_tail m ms c d cs ds k))

pub numbers_same : (ms : List ℕ) (cs ds : List Child) → Keeps ms cs ds → child_numbers (directories ms ds) ≡ child_numbers (directories ms cs)
unfolding child_numbers
numbers_same ms cs ds k = ap (λ (l : List Key). listed l 0) (keys_same ms cs ds k)

marked_same : (f : MdtFid) (ms : List ℕ) (cs ds : List Child) → Keeps ms cs ds → first_marked f ms ds ≡ first_marked f ms cs
unfolding first_marked
marked_same f [] cs ds k = refl
marked_same f (m ∷ ms) [] [] k = refl
marked_same f (m ∷ ms) [] (d ∷ ds) k = absurd (omega (arith, k.long))
marked_same f (m ∷ ms) (c ∷ cs) [] k = absurd (omega (arith, k.long))
marked_same f (m ∷ ms) (c ∷ cs) (d ∷ ds) k = go (ltb m no_self_mark) refl (marked_same f ms cs ds (keeps_tail m ms c d cs ds k))
  where
    go : (b : Bool) → ltb m no_self_mark ≡ b → first_marked f ms ds ≡ first_marked f ms cs →
        cond (b && same d.self f) (eqb m visible_mark) (first_marked f ms ds) ≡ cond (b && same c.self f) (eqb m visible_mark) (first_marked f ms cs)
    go true e i =
        let p : d.self ≡ c.self = k.selves 0 (omega arith) (ltb-true m no_self_mark e) in
        ap₂ (λ (g : MdtFid) (x : Bool). cond (same g f) (eqb m visible_mark) x) p i
    go false e i = i

pub seen_same : (ms : List ℕ) (cs ds : List Child) → Keeps ms cs ds → (f : MdtFid) → seen_by ms ds f ≡ seen_by ms cs f
unfolding seen_by
seen_same ms cs ds k f = rw (marked_same f ms cs ds k)
