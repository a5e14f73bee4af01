-- Laws of little-endian numbers, over the width. Assumes nothing.
use mathlib.Core.Path.{◌≡◌, refl, sym, ap}
use mathlib.Core.List.{List, [], ◌∷◌, ◌++◌}
use Prim.Native.Nat.{ℕ, zero, suc, ◌+◌, ◌*◌, ◌/◌, ◌%◌, ◌^◌, ◌≤◌, ◌<◌}
use native.Mathlib.Nat.{zero-add, suc-add, mul-zero, mul_assoc, mul_comm, pow-suc, div-one, one-le-pow, div-div-eq-div-mul, mod-one, mod-eq_of_lt}
use native.Mathlib.Omega.{arith}
use lib.Arith.{mod-mul, digits_div, digits_mod}
use lib.ListN.{length, take, drop, get_or}
use native.Mathlib.Nat.{not-suc-le-zero}
use lib.Seq.{drop-drop, drop_at, get_or-drop, sets}
use Rattle.wire.proofs.Splice.{sets_at}
use Rattle.wire.specs.Numbers.{le, bytes}
unfoldable pub use Rattle.wire.specs.Numbers.{Bytes}

pub le_nil : (n : ℕ) → le n [] ≡ 0
unfolding le
le_nil zero = refl
le_nil (suc n) = refl

-- a number of m + n bytes is the low m bytes and the n bytes after them
pub le_add : (m n : ℕ) (l : List ℕ) → le (m + n) l ≡ le m l + 256 ^ m * le n (drop m l)
unfolding le
le_add zero n l = rw zero-add (omega arith)
le_add (suc m) n [] = simp (le_nil, mul-zero)
le_add (suc m) n (b ∷ l) =
    let X : ℕ = le n (drop m l) in
    let e : 256 ^ suc m * X ≡ 256 * (256 ^ m * X) = rw (pow-suc, mul_comm (256 ^ m) 256, mul_assoc) in
    rw (suc-add, e, le_add m n l) (omega arith)

pub le_head : (n : ℕ) (l : List ℕ) → le (suc n) l ≡ get_or l 0 0 + 256 * le n (drop 1 l)
unfolding le
le_head n [] = omega (arith, le_nil n)
le_head n (b ∷ l) = refl

pub length_bytes : (n v : ℕ) → length (bytes n v) ≡ n
unfolding bytes
length_bytes zero v = refl
length_bytes (suc n) v = ap suc (length_bytes n (v / 256))

pow256_pos : (m : ℕ) → 0 < 256 ^ m
pow256_pos m = one-le-pow m 256 (omega arith)

-- the bytes of a number, low part first
pub bytes_add : (m n v : ℕ) → bytes (m + n) v ≡ bytes m (v % 256 ^ m) ++ bytes n (v / 256 ^ m)
unfolding bytes
bytes_add zero n v = simp (zero-add, div-one)
bytes_add (suc m) n v =
    let e : v % (256 ^ m * 256) ≡ v / 256 % 256 ^ m * 256 + v % 256 = mod-mul v (pow256_pos m) (omega arith) in
    let q : v / (256 ^ m * 256) ≡ v / 256 / 256 ^ m = rw (mul_comm, div-div-eq-div-mul) in
    let b : v % 256 < 256 = omega arith in
    rw (suc-add, pow-suc, q, e, digits_mod (v / 256 % 256 ^ m) b, digits_div (v / 256 % 256 ^ m) b)
    (ap (λ (l : List ℕ). v % 256 ∷ l) (bytes_add m n (v / 256)))

-- a number of twice as many bytes, from a place on
pub le_twice : (n : ℕ) (l : List ℕ) (at : ℕ) → le n (drop at l) + 256 ^ n * le n (drop (at + n) l) ≡ le (n + n) (drop at l)
le_twice n l at = rw (le_add n n (drop at l), drop-drop)

-- and its stores
pub put_twice : (n : ℕ) (l : List ℕ) (at v : ℕ) →
    sets (sets l at (bytes n (v % 256 ^ n))) (at + n) (bytes n (v / 256 ^ n)) ≡ sets l at (bytes (n + n) v)
put_twice n l at v = rw (bytes_add n n v) (sets_at (bytes n (v % 256 ^ n)) (bytes n (v / 256 ^ n)) l at n (length_bytes n (v % 256 ^ n)))

-- what is written reads back: the number, cut to the width
pub le_bytes : (n v : ℕ) (r : List ℕ) → le n (bytes n v ++ r) ≡ v % 256 ^ n
unfolding le bytes
le_bytes zero v r = sym (mod-one v)
le_bytes (suc n) v r =
    let e : v % (256 ^ n * 256) ≡ v / 256 % 256 ^ n * 256 + v % 256 = mod-mul v (pow256_pos n) (omega arith) in
    rw (pow-suc, e, le_bytes n (v / 256) r) (omega arith)

-- a number after others, read back
pub field : (n v k : ℕ) (before after l : List ℕ) → l ≡ before ++ (bytes n v ++ after) → length before ≡ k → v < 256 ^ n → le n (drop k l) ≡ v
field n v k before after l e h f = rw (e, drop_at before (bytes n v ++ after) k h, le_bytes n v after, mod-eq_of_lt f)

pub bytes_tail : (b : ℕ) (l : List ℕ) → Bytes (b ∷ l) → Bytes l
unfolding Bytes
bytes_tail b l h i = h (suc i)

pub bytes_head : (b : ℕ) (l : List ℕ) → Bytes (b ∷ l) → b < 256
unfolding Bytes
bytes_head b l h = h 0

-- and what is read is written back as the same bytes
pub bytes_le : (n : ℕ) (l : List ℕ) → Bytes l → n ≤ length l → bytes n (le n l) ≡ take n l
unfolding le bytes
bytes_le zero l h k = refl
bytes_le (suc n) [] h k = absurd (not-suc-le-zero k)
bytes_le (suc n) (b ∷ l) h k =
    let p : b < 256 = bytes_head b l h in
    let x : (b + 256 * le n l) % 256 ≡ b = omega arith in
    let y : (b + 256 * le n l) / 256 ≡ le n l = omega arith in
    rw (x, y) (ap (λ (t : List ℕ). b ∷ t) (bytes_le n l (bytes_tail b l h) (omega arith)))

pub bytes_drop : (k : ℕ) (l : List ℕ) → Bytes l → Bytes (drop k l)
unfolding Bytes
bytes_drop k l h i = rw get_or-drop (h (k + i))

pub bytes_take : (n : ℕ) (l : List ℕ) → Bytes l → Bytes (take n l)
unfolding Bytes
bytes_take zero l h i = omega arith
bytes_take (suc n) [] h i = omega arith
bytes_take (suc n) (b ∷ l) h zero = h 0
bytes_take (suc n) (b ∷ l) h (suc i) = bytes_take n l (bytes_tail b l h) i

-- a number that is read from n bytes fits them
pub le_small : (n : ℕ) (l : List ℕ) → Bytes l → le n l < 256 ^ n
unfolding le
le_small zero l h = omega arith
le_small (suc n) [] h = one-le-pow (suc n) 256 (omega arith)
le_small (suc n) (b ∷ l) h =
    omega (arith, pow-suc 256 n, bytes_head b l h, le_small n l (bytes_tail b l h))

pub le_small_at : (n k : ℕ) (l : List ℕ) → Bytes l → le n (drop k l) < 256 ^ n
le_small_at n k l h = le_small n (drop k l) (bytes_drop k l h)
