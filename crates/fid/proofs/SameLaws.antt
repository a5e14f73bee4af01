-- The test of two FIDs is equality. Assumes nothing.
use mathlib.Core.Path.{◌≡◌, refl, sym, ◌∙◌}
use mathlib.Core.Bool.{Bool, true, false, not, ◌&&◌}
use Rattle.std.proofs.lemmas.Bool.{not-true, not-false}
use Rattle.std.proofs.Math.Bool.{and_assoc}
use borrow.Author.Tests.{eq-eqb, eqb-true}
use lib.Dec.{eqb}
use Rattle.wire.proofs.Both.{and_first, and_second}
use Rattle.fid.specs.Fid.{same_fid}
use Rattle.fid.specs.declared.Fid.{Fid}

pub same_self : (f : Fid) → same_fid f f ≡ true
unfolding same_fid
same_self f = rw (eq-eqb f.seq f.seq refl, eq-eqb f.oid f.oid refl, eq-eqb f.ver f.ver refl)

pub same_is : (f g : Fid) → same_fid f g ≡ true → f ≡ g
unfolding same_fid
same_is f g h =
    let a : Bool = eqb f.seq g.seq in
    let b : Bool = eqb f.oid g.oid in
    let d : Bool = eqb f.ver g.ver in
    let s = eqb-true f.seq g.seq (and_first a b (and_first (a && b) d h)) in
    let o = eqb-true f.oid g.oid (and_second a b (and_first (a && b) d h)) in
    let v = eqb-true f.ver g.ver (and_second (a && b) d h) in
    λ i. record { seq = s i; oid = o i; ver = v i }

-- and what `==` computes
pub eq_same : (f g : Fid) → (eqb f.seq g.seq && (eqb f.oid g.oid && eqb f.ver g.ver)) ≡ same_fid f g
unfolding same_fid
eq_same f g = sym (and_assoc (eqb f.seq g.seq) (eqb f.oid g.oid) (eqb f.ver g.ver))

-- and what `!=` computes, on both sides of an `if`
pub differs : (f g : Fid) {r : Bool} → r ≡ not (eqb f.seq g.seq && (eqb f.oid g.oid && eqb f.ver g.ver)) → r ≡ true → same_fid f g ≡ false
differs f g e h = sym (eq_same f g) ∙ not-true _ (sym e ∙ h)

pub alike : (f g : Fid) {r : Bool} → r ≡ not (eqb f.seq g.seq && (eqb f.oid g.oid && eqb f.ver g.ver)) → r ≡ false → same_fid f g ≡ true
alike f g e h = sym (eq_same f g) ∙ not-false _ (sym e ∙ h)
