-- Laws of numbers in either byte order, over the order and the width. Assumes nothing.
use mathlib.Core.Path.{◌≡◌, refl, ap, ◌∙◌}
use mathlib.Core.List.{List, [], ◌∷◌, ◌++◌, append-nil, reverse, reverse-cons, reverse-reverse}
use Prim.Native.Nat.{ℕ, zero, suc, ◌+◌, ◌*◌, ◌%◌, ◌^◌, ◌≤◌, ◌<◌}
use native.Mathlib.Nat.{not-suc-le-zero}
use native.Mathlib.Omega.{arith}
use lib.ListN.{length, take, length-reverse}
use lib.Seq.{take_at, take_all, length-take-le}
use Rattle.wire.specs.Numbers.{le, bytes, Order, little, big, number, number_bytes}
use Rattle.wire.proofs.NumberLaws.{Bytes, le_bytes, bytes_le, le_small, length_bytes, bytes_take, bytes_tail}

pub length_number : (o : Order) (n v : ℕ) → length (number_bytes o n v) ≡ n
unfolding number_bytes
length_number little n v = length_bytes n v
length_number big n v = length-reverse (bytes n v) ∙ length_bytes n v

-- ## There and back

-- what is written reads back: the number, cut to the width
pub number_back : (o : Order) (n v : ℕ) (r : List ℕ) → number o n (number_bytes o n v ++ r) ≡ v % 256 ^ n
unfolding number number_bytes
number_back little n v r = le_bytes n v r
number_back big n v r =
    let e : length (reverse (bytes n v)) ≡ n = length-reverse (bytes n v) ∙ length_bytes n v in
    rw (take_at (reverse (bytes n v)) r n e, reverse-reverse (bytes n v), ← append-nil (bytes n v)) (le_bytes n v [])

pub bytes_append : (p q : List ℕ) → Bytes p → Bytes q → Bytes (p ++ q)
unfolding Bytes
bytes_append [] q h k i = k i
bytes_append (b ∷ p) q h k zero = h 0
bytes_append (b ∷ p) q h k (suc i) = bytes_append p q (bytes_tail b p h) k i

bytes_reverse : (l : List ℕ) → Bytes l → Bytes (reverse l)
unfolding Bytes
bytes_reverse [] h i = h i
bytes_reverse (b ∷ l) h i =
    let one : Bytes (b ∷ []) = bytes_take 1 (b ∷ l) h in
    rw reverse-cons (bytes_append (reverse l) (b ∷ []) (bytes_reverse l (bytes_tail b l h)) one i)

-- and what is read is written back as the same bytes
pub number_again : (o : Order) (n : ℕ) (l : List ℕ) → Bytes l → n ≤ length l → number_bytes o n (number o n l) ≡ take n l
unfolding number number_bytes
number_again little n l h k = bytes_le n l h k
number_again big n l h k =
    let t : List ℕ = reverse (take n l) in
    let e : length t ≡ n = length-reverse (take n l) ∙ length-take-le n l k in
    rw (bytes_le n t (bytes_reverse (take n l) (bytes_take n l h)) (omega arith), take_all n t (omega arith)) (reverse-reverse (take n l))

-- a number that is read from n bytes fits them
pub number_small : (o : Order) (n : ℕ) (l : List ℕ) → Bytes l → number o n l < 256 ^ n
unfolding number
number_small little n l h = le_small n l h
number_small big n l h = le_small n (reverse (take n l)) (bytes_reverse (take n l) (bytes_take n l h))

-- the number of the bytes in front
pub le_front : (n : ℕ) (p q : List ℕ) → n ≤ length p → le n (p ++ q) ≡ le n p
unfolding le
le_front zero p q h = refl
le_front (suc n) [] q h = absurd (not-suc-le-zero h)
le_front (suc n) (b ∷ p) q h = ap (λ (x : ℕ). b + 256 * x) (le_front n p q (omega arith))
