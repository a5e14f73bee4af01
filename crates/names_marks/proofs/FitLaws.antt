-- Marks that fit the rows, one by one. Assumes nothing.
use mathlib.Core.Path.{◌≡◌, refl, sym, ap, ◌∙◌}
use mathlib.Core.Bool.{Bool, true, false, not, ◌&&◌, or-false}
use mathlib.Core.List.{List, [], ◌∷◌, map}
use Prim.Native.Nat.{ℕ, suc, ◌≤◌, ◌<◌}
use native.Mathlib.Omega.{arith}
use borrow.Author.Tests.{lt-ltb, le-ltb, ne_eqb}
use lib.Dec.{eqb}
use lib.ListN.{length}
use Rattle.fid.specs.declared.MdtFid.{MdtFid}
use Rattle.names.specs.Rows.{Child, is_none, decode_child}
use Rattle.std.specs.List.{list_all, zip}
use Rattle.std.proofs.Common.{nat_eq}
use Rattle.names.specs.Visible.{no_self_mark, good_mark, good_marks}
use Rattle.names_marks.specs.Directories.{fit_mark}

pub fit_below : (m : ℕ) (f : MdtFid) → m < no_self_mark → not (is_none f) ≡ fit_mark m f
unfolding fit_mark
fit_below m f h = sym (rw (lt-ltb m no_self_mark h, ne_eqb m no_self_mark (λ e. omega arith)) (or-false (not (is_none f))))

pub fit_two : (m : ℕ) (f : MdtFid) → no_self_mark ≤ m → eqb m no_self_mark ≡ fit_mark m f
unfolding fit_mark
fit_two m f h = rw (le-ltb m no_self_mark h)

pub other_many : (ms : List ℕ) (cs : List Child) → (length ms ≡ length cs → ⊥) → false ≡ good_marks ms cs
unfolding good_marks
other_many [] [] h = absurd (h refl)
other_many [] (c ∷ cs) h = refl
other_many (m ∷ ms) [] h = refl
other_many (m ∷ ms) (c ∷ cs) h = go (good_mark m c) (other_many ms cs (λ e. h (ap suc e)))
  where
    go : (b : Bool) → false ≡ good_marks ms cs → false ≡ (b && good_marks ms cs)
    go true e = e
    go false e = refl

pub other_count : (ms : List ℕ) (cs : List Child) (n : ℕ) → length cs ≡ n → (length ms ≡ n → ⊥) → nat_eq (length ms) n ≡ good_marks ms cs
other_count ms cs n e h = ne_eqb (length ms) n h ∙ other_many ms cs (λ k. h (k ∙ e))

-- the self FIDs of the rows beside their marks
abbrev pub self_in : List ℕ → MdtFid
self_in row = (decode_child row).self

abbrev pub fit_pair : ℕ × MdtFid → Bool
fit_pair p = fit_mark p.0 p.1

pub fit_pairs : (ms : List ℕ) (rs : List (List ℕ)) → length ms ≡ length rs → list_all fit_pair (zip ms (map self_in rs)) ≡ good_marks ms (map decode_child rs)
unfolding good_marks good_mark fit_mark
fit_pairs [] [] h = refl
fit_pairs [] (r ∷ rs) h = absurd (omega (arith, h))
fit_pairs (m ∷ ms) [] h = absurd (omega (arith, h))
fit_pairs (m ∷ ms) (r ∷ rs) h = ap (λ (b : Bool). fit_mark m (self_in r) && b) (fit_pairs ms rs (omega (arith, h)))
