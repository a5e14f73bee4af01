-- A line's name, and the kind that it says. Assumes nothing.
use Prim.Native.Nat.{ℕ, ◌-◌, ◌≤◌, ◌<◌}
use mathlib.Core.Path.{◌≡◌, refl, ap}
use mathlib.Core.List.{List, [], ◌∷◌}
use mathlib.Core.Bool.{Bool, true, false, cond, ◌&&◌}
use native.Mathlib.Omega.{arith}
use lib.ListN.{length, take, drop, get_or}
use lib.Dec.{eqb}
use Rattle.intake.specs.declared.Kind.{Kind}
use Rattle.intake.specs.declared.Kind.TheVariants.{Lov, Fid, Lma, Other}
use Rattle.intake.specs.Says.{starts, named, trusted_word, lov_word, fid_word, lma_word, kind_of, wanted}
use Rattle.intake_bytes.specs.declared.Marks.{Marks}
use Rattle.intake_bytes.specs.Lent.{want_of, mark_of}
use Rattle.wire.proofs.Splice.{drop_take_all}
use Rattle.wire.proofs.Both.{and_first, and_second}

pub starts_long : (w s : List ℕ) → starts w s ≡ true → length w ≤ length s
unfolding starts
starts_long [] s h = omega arith
starts_long (a ∷ w) [] h = let z : ◌≡◌ {A = ℕ} 0 1 = cc in absurd (omega arith)
starts_long (a ∷ w) (b ∷ s) h = omega (arith, starts_long w s (and_second (eqb b a) (starts w s) h))

pub named_not : (w s : List ℕ) → starts w s ≡ false → false ≡ named w s
unfolding starts named
named_not [] s h = let z : ◌≡◌ {A = ℕ} 0 1 = cc in absurd (omega arith)
named_not (a ∷ w) [] h = refl
named_not (a ∷ w) (b ∷ s) h = go (eqb b a) h (λ e. named_not w s e) where
  go : (t : Bool) → (t && starts w s) ≡ false → (starts w s ≡ false → false ≡ named w s) → false ≡ (t && named w s)
  go true e ih = ih e
  go false e ih = refl

pub named_end : (w s : List ℕ) → starts w s ≡ true → length s ≤ length w → true ≡ named w s
unfolding starts named
named_end [] [] h k = refl
named_end [] (b ∷ s) h k = absurd (omega arith)
named_end (a ∷ w) [] h k = let z : ◌≡◌ {A = ℕ} 0 1 = cc in absurd (omega arith)
named_end (a ∷ w) (b ∷ s) h k =
    rw (and_first (eqb b a) (starts w s) h) (named_end w s (and_second (eqb b a) (starts w s) h) (omega arith))

pub named_more : (w s : List ℕ) → starts w s ≡ true → length w < length s → named w s ≡ eqb (get_or s (length w) 0) 61
unfolding starts named
named_more [] [] h k = absurd (omega arith)
named_more [] (b ∷ s) h k = refl
named_more (a ∷ w) [] h k = absurd (omega arith)
named_more (a ∷ w) (b ∷ s) h k =
    rw (and_first (eqb b a) (starts w s) h) (named_more w s (and_second (eqb b a) (starts w s) h) (omega arith))

module _ (s : List ℕ) where
  pub kind_not : starts trusted_word s ≡ false → Other ≡ kind_of s
  unfolding kind_of
  kind_not h = rw h

  module _ (h : starts trusted_word s ≡ true) where
    pub kind_lov : named lov_word (drop 8 s) ≡ true → Lov ≡ kind_of s
    unfolding kind_of
    kind_lov a = rw (h, a)

    pub kind_fid : named lov_word (drop 8 s) ≡ false → named fid_word (drop 8 s) ≡ true → Fid ≡ kind_of s
    unfolding kind_of
    kind_fid a b = rw (h, a, b)

    pub kind_lma : named lov_word (drop 8 s) ≡ false → named fid_word (drop 8 s) ≡ false → named lma_word (drop 8 s) ≡ true → Lma ≡ kind_of s
    unfolding kind_of
    kind_lma a b c = rw (h, a, b, c)

    pub kind_other : named lov_word (drop 8 s) ≡ false → named fid_word (drop 8 s) ≡ false → named lma_word (drop 8 s) ≡ false → Other ≡ kind_of s
    unfolding kind_of
    kind_other a b c = rw (h, a, b, c)

-- from byte 8 on
pub part_named : (w s : List ℕ) → named w (take (length s - 8) (drop 8 s)) ≡ named w (drop 8 s)
part_named w s = ap (named w) (drop_take_all 8 s)

-- how much is wanted of each kind
module _ (m : Marks) (size : ℕ) (k : Kind) (r : ℕ) where
  pub want_lov : k ≡ Lov → r ≡ cond (eqb m.lov 0) (size - 208) 0 → r ≡ want_of m size k
  unfolding want_of mark_of wanted
  want_lov e q = rw e q

  pub want_fid : k ≡ Fid → r ≡ cond (eqb m.fid 0) 16 0 → r ≡ want_of m size k
  unfolding want_of mark_of wanted
  want_fid e q = rw e q

  pub want_lma : k ≡ Lma → r ≡ cond (eqb m.lma 0) 24 0 → r ≡ want_of m size k
  unfolding want_of mark_of wanted
  want_lma e q = rw e q

  pub want_other : k ≡ Other → r ≡ 0 → r ≡ want_of m size k
  unfolding want_of mark_of wanted
  want_other e q = rw e q
