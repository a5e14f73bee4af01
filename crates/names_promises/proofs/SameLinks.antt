-- The tests of two FIDs, two names and two records are equality. Assumes nothing.
use Prim.Native.Nat.{ℕ}
use mathlib.Core.Path.{◌≡◌, refl, ap₂}
use mathlib.Core.Bool.{true, false≢true}
use mathlib.Core.List.{List, [], ◌∷◌}
use borrow.Author.Tests.{eqb-true, eq-eqb}
use lib.Dec.{eqb}
use Rattle.wire.proofs.Both.{and_first, and_second}
use Rattle.fid.specs.declared.MdtFid.{MdtFid}
use Rattle.fid.proofs.SameLaws.{same_is, same_self}
use Rattle.linkea.specs.Link.{Link}
use Rattle.names.specs.Findings.{same, same_name, same_link}

pub fid_is : (f g : MdtFid) → same f g ≡ true → f ≡ g
unfolding same
fid_is f g h = let p = same_is f.0 g.0 h in λ i. record { 0 = p i }

pub fid_self : (f : MdtFid) → same f f ≡ true
unfolding same
fid_self f = same_self f.0

name_is : (a b : List ℕ) → same_name a b ≡ true → a ≡ b
unfolding same_name
name_is [] [] h = refl
name_is [] (y ∷ ys) h = absurd (false≢true h)
name_is (x ∷ xs) [] h = absurd (false≢true h)
name_is (x ∷ xs) (y ∷ ys) h =
    ap₂ (λ (n : ℕ) (l : List ℕ). n ∷ l) (eqb-true x y (and_first (eqb x y) (same_name xs ys) h)) (name_is xs ys (and_second (eqb x y) (same_name xs ys) h))

name_self : (a : List ℕ) → same_name a a ≡ true
unfolding same_name
name_self [] = refl
name_self (x ∷ xs) = rw (eq-eqb x x refl) (name_self xs)

pub link_is : (x y : Link) → same_link x y ≡ true → x ≡ y
unfolding same_link
link_is x y h =
    let p = fid_is x.parent y.parent (and_first (same x.parent y.parent) (same_name x.name y.name) h) in
    let q = name_is x.name y.name (and_second (same x.parent y.parent) (same_name x.name y.name) h) in
    λ i. record { parent = p i; name = q i }

pub link_self : (x : Link) → same_link x x ≡ true
unfolding same_link
link_self x = rw (fid_self x.parent) (name_self x.name)
