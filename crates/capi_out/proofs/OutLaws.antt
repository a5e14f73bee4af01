-- What is handed out, case by case. Assumes nothing.
use mathlib.Core.Path.{◌≡◌}
use mathlib.Core.List.{List, [], ◌∷◌, ◌++◌}
use Prim.Native.Nat.{ℕ, suc, ◌+◌, ◌≤◌, ◌<◌}
use borrow.Author.Tests.{ne_eqb, le-leb, lt-leb}
use native.Mathlib.Omega.{arith}
use lib.ListN.{length, set}
use lib.Seq.{sets}
use Rattle.wire.proofs.Splice.{sets_at}
use Rattle.capi_out.specs.Out.{out_answer, out_numbers}

module _ (n : ℕ) (values out : List ℕ) where
  pub out_refused : (k : ℕ) → n ≡ k → (k ≡ 0 → ⊥) → (k ≡ out_answer n values out) × (out ≡ out_numbers n values out)
  unfolding out_answer out_numbers
  out_refused k e h = (rw (e, ne_eqb k 0 h), rw (e, ne_eqb k 0 h, ne_eqb k 0 h))

  pub out_short : n ≡ 0 → length out < length values → (17 ≡ out_answer n values out) × (out ≡ out_numbers n values out)
  unfolding out_answer out_numbers
  out_short e h = (rw (e, lt-leb (length values) (length out) h), rw (e, lt-leb (length values) (length out) h))

  pub out_done : (x : List ℕ) → n ≡ 0 → length values ≤ length out → x ≡ sets out 0 values →
      (0 ≡ out_answer n values out) × (x ≡ out_numbers n values out)
  unfolding out_answer out_numbers
  out_done x e h q = (rw (e, le-leb (length values) (length out) h), rw (e, le-leb (length values) (length out) h, q))

-- four stores are one run of stores
pub four : (l x y z w : List ℕ) (at a b c d : ℕ) → x ≡ set l at a → y ≡ set x (at + 1) b → z ≡ set y (at + 2) c → w ≡ set z (at + 3) d →
    w ≡ sets l at (a ∷ b ∷ c ∷ d ∷ [])
four l x y z w at a b c d p q r s =
    let e1 : at + 1 ≡ suc at = omega arith in
    let e2 : at + 2 ≡ suc (suc at) = omega arith in
    let e3 : at + 3 ≡ suc (suc (suc at)) = omega arith in
    rw (s, r, q, p, e1, e2, e3)

-- stores after stores
pub two_runs : (l x y : List ℕ) (n : ℕ) (a b : List ℕ) → x ≡ sets l 0 a → y ≡ sets x n b → length a ≡ n → y ≡ sets l 0 (a ++ b)
two_runs l x y n a b p q h = let z : 0 + n ≡ n = omega arith in rw (q, p) (rw z at (sets_at a b l 0 n h))
