-- Numbers read and written byte by byte, over the order and the width. Assumes nothing.
use mathlib.Core.Path.{◌≡◌, refl, ap, subst}
use mathlib.Core.List.{List, [], ◌∷◌, ◌++◌, reverse, reverse-append}
use Prim.Native.Nat.{ℕ, zero, suc, ◌+◌, ◌-◌, ◌*◌, ◌/◌, ◌%◌, ◌^◌, ◌≤◌, ◌<◌}
use native.Mathlib.Nat.{add-zero, not-suc-le-zero, pow-le-pow_right, div-one, div-div-eq-div-mul, pow-suc, mul_comm}
use native.Mathlib.Numerals.{add-one}
use native.Mathlib.Omega.{arith}
use lib.ListN.{length, take, drop, set, get_or, length-drop}
use lib.Seq.{sets, length-sets, drop-drop, get_or-drop, take-suc}
use Rattle.wire.specs.Numbers.{Bytes, le, bytes, Order, little, big, number, number_bytes, place}
use Rattle.wire.proofs.Splice.{sets_at}
use Rattle.wire.proofs.NumberLaws.{le_head, le_small, bytes_drop, length_bytes}
use Rattle.wire.proofs.OrderLaws.{number_small}

-- the number of the bytes from byte i on, of n
pub part : Order → ℕ → ℕ → List ℕ → ℕ
part little n i l = le (n - i) (drop i l)
part big n i l = number big (n - i) l

pub part_none : (o : Order) (n : ℕ) (l : List ℕ) → 0 ≡ part o n n l
unfolding part number le
part_none little n l = let e : n - n ≡ 0 = omega arith in rw e
part_none big n l = let e : n - n ≡ 0 = omega arith in rw e

pub part_all : (o : Order) (n : ℕ) (l : List ℕ) → part o n 0 l ≡ number o n l
unfolding part number
part_all little n l = let e : n - 0 ≡ n = omega arith in rw e
part_all big n l = let e : n - 0 ≡ n = omega arith in rw e

pub part_small : (o : Order) (n i : ℕ) (l : List ℕ) → Bytes l → part o n i l < 256 ^ (n - i)
unfolding part
part_small little n i l h = le_small (n - i) (drop i l) (bytes_drop i l h)
part_small big n i l h = number_small big (n - i) l h

-- one byte more
pub part_next : (o : Order) (n i : ℕ) (l : List ℕ) → i < n → n ≤ length l → 256 * part o n (i + 1) l + get_or l (place o n i) 0 ≡ part o n i l
unfolding part place number
part_next little n i l h k =
    let e : n - i ≡ suc (n - (i + 1)) = omega arith in
    rw (e, le_head (n - (i + 1)) (drop i l), get_or-drop, drop-drop, add-zero) (omega arith)
part_next big n i l h k =
    let e : n - i ≡ suc (n - (i + 1)) = omega arith in
    let d : n - 1 - i ≡ n - (i + 1) = omega arith in
    let m : ℕ = n - (i + 1) in
    let r : reverse (take (suc m) l) ≡ get_or l m 0 ∷ reverse (take m l) =
    rw (take-suc l m 0 (omega arith), reverse-append) refl in
    rw (e, d, r, le_head m (get_or l m 0 ∷ reverse (take m l))) (omega arith)

-- no number here is beyond eight bytes
pub part_fits : (o : Order) (n i : ℕ) (l : List ℕ) → Bytes l → n ≤ 8 → part o n i l < 256 ^ 8
part_fits o n i l h k =
    let s : 256 ^ (n - i) ≤ 256 ^ 8 = pow-le-pow_right (omega arith) {j = 8} (omega arith) in
    omega (arith, part_small o n i l h)

-- a step of a reader that is at byte i
pub part_from : (o : Order) (n i : ℕ) (l : List ℕ) (at x : ℕ) → Bytes l → n ≤ 8 → 0 < i → i ≤ n → at + n ≤ length l → x ≡ part o n i (drop at l) →
    (256 * x + get_or l (at + place o n (i - 1)) 0 ≡ part o n (i - 1) (drop at l)) × (256 * x + get_or l (at + place o n (i - 1)) 0 < 256 ^ 8)
part_from o n i l at x h k p q r e =
    let m : ℕ = i - 1 in
    let s : m + 1 ≡ i = omega arith in
    let b : 256 * part o n i (drop at l) + get_or (drop at l) (place o n m) 0 ≡ part o n m (drop at l) =
    subst (λ (j : ℕ). 256 * part o n j (drop at l) + get_or (drop at l) (place o n m) 0 ≡ part o n m (drop at l)) s
    (part_next o n m (drop at l) (omega arith) (rw length-drop (omega arith))) in
    let a : 256 * x + get_or l (at + place o n m) 0 ≡ part o n m (drop at l) = rw (e, ← get_or-drop) b in
    (a, rw a (part_fits o n m (drop at l) (bytes_drop at l h) k))

pub part_small_at : (o : Order) (n : ℕ) (l : List ℕ) (at : ℕ) → Bytes l → part o n 0 (drop at l) < 256 ^ n
part_small_at o n l at h =
    let e : n - 0 ≡ n = omega arith in
    let s : part o n 0 (drop at l) < 256 ^ (n - 0) = part_small o n 0 (drop at l) (bytes_drop at l h) in
    subst (λ (m : ℕ). part o n 0 (drop at l) < 256 ^ m) e s

pub place_below : (o : Order) (n i : ℕ) → i < n → place o n i < n
unfolding place
place_below little n i h = h
place_below big n i h = omega arith

-- ## Written byte by byte, the lowest first

bytes_last : (i v : ℕ) → bytes (suc i) v ≡ bytes i v ++ (v / 256 ^ i % 256 ∷ [])
unfolding bytes
bytes_last zero v = rw div-one
bytes_last (suc i) v =
    let q : v / 256 ^ suc i ≡ v / 256 / 256 ^ i = rw (pow-suc, mul_comm, div-div-eq-div-mul) in
    rw (q, bytes_last i (v / 256))

set_swap : (l : List ℕ) (i j a b : ℕ) → j < i → set (set l i a) j b ≡ set (set l j b) i a
set_swap [] i j a b h = refl
set_swap (x ∷ l) zero j a b h = absurd (not-suc-le-zero h)
set_swap (x ∷ l) (suc i) zero a b h = refl
set_swap (x ∷ l) (suc i) (suc j) a b h = ap (λ (m : List ℕ). x ∷ m) (set_swap l i j a b (omega arith))

set_before : (vs l : List ℕ) (i j b : ℕ) → j < i → set (sets l i vs) j b ≡ sets (set l j b) i vs
set_before [] l i j b h = refl
set_before (a ∷ vs) l i j b h = rw (set_before vs (set l i a) (suc i) j b (omega arith), set_swap l i j a b h)

-- the list with the i lowest bytes of n written from a place on
pub written : Order → ℕ → ℕ → List ℕ → ℕ → ℕ → List ℕ
written little n i l at v = sets l at (bytes i v)
written big n i l at v = sets l (at + (n - i)) (reverse (bytes i v))

pub written_none : (o : Order) (n : ℕ) (l : List ℕ) (at v : ℕ) → l ≡ written o n 0 l at v
unfolding written bytes
written_none little n l at v = refl
written_none big n l at v = refl

pub written_all : (o : Order) (n : ℕ) (l : List ℕ) (at v : ℕ) → written o n n l at v ≡ sets l at (number_bytes o n v)
unfolding written number_bytes
written_all little n l at v = refl
written_all big n l at v = let e : at + (n - n) ≡ at = omega arith in rw e

pub written_length : (o : Order) (n i : ℕ) (l : List ℕ) (at v : ℕ) → length (written o n i l at v) ≡ length l
unfolding written
written_length little n i l at v = length-sets l at (bytes i v)
written_length big n i l at v = length-sets l (at + (n - i)) (reverse (bytes i v))

pub written_next : (o : Order) (n i : ℕ) (l : List ℕ) (at v : ℕ) → i < n →
    set (written o n i l at v) (at + place o n i) (v / 256 ^ i % 256) ≡ written o n (i + 1) l at v
unfolding written place
written_next little n i l at v h =
    rw (add-one, bytes_last i v) (sets_at (bytes i v) (v / 256 ^ i % 256 ∷ []) l at i (length_bytes i v))
written_next big n i l at v h =
    let b : ℕ = v / 256 ^ i % 256 in
    let p : at + (n - 1 - i) ≡ at + (n - suc i) = omega arith in
    let q : at + (n - i) ≡ suc (at + (n - suc i)) = omega arith in
    let r : reverse (bytes (suc i) v) ≡ b ∷ reverse (bytes i v) = rw (bytes_last i v, reverse-append) refl in
    rw (add-one, p, q, r) (set_before (reverse (bytes i v)) l (suc (at + (n - suc i))) (at + (n - suc i)) b (omega arith))

pub divided : (v i : ℕ) → v / 256 ^ i / 256 ≡ v / 256 ^ (i + 1)
divided v i = rw (add-one, pow-suc, div-div-eq-div-mul) refl
