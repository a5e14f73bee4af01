-- The state's numbers, stored and read back. Assumes nothing.
use Prim.Native.Nat.{ℕ, zero, suc, ◌+◌, ◌-◌, ◌*◌, ◌^◌, ◌≤◌, ◌<◌}
use mathlib.Core.Path.{◌≡◌, refl, ap, subst, ◌∙◌}
use mathlib.Core.List.{List, [], ◌∷◌, ◌++◌, append_assoc, append-nil}
use native.Mathlib.Nat.{mod-eq_of_lt}
use native.Mathlib.Omega.{arith}
use lib.ListN.{length, take, drop, get_or, length-append}
use lib.Seq.{sets, length-sets, drop-append-add}
use borrow.Author.Tests.{lt-ltb, le-ltb}
use Rattle.wire.specs.Numbers.{le, bytes}
use Rattle.wire.proofs.NumberLaws.{length_bytes, le_bytes}
use Rattle.wire.proofs.Splice.{sets_at, sets_front}
use Rattle.wire.proofs.RowLaws.{drop_sets_le}
use Rattle.intake.specs.declared.Kind.{Kind}
use Rattle.intake.specs.Says.{kind_of}
use Rattle.intake_bytes.specs.declared.Marks.{Marks}
use Rattle.intake_bytes.specs.declared.Half.{Half}
use Rattle.intake_bytes.specs.declared.Unfinished.{Unfinished}
use Rattle.intake_line.specs.declared.Reader.{Reader}
use Rattle.intake_bytes.specs.Lent.{base_of, want_of}
use Rattle.intake_state.specs.declared.Kept.{Kept}
use Rattle.intake_state.specs.State.{number_at, eights, half_of, half_number, line_in, marks_in, reader_in, kept_of, numbers_in, numbers_of, Stored}

pub length_eights : (vs : List ℕ) → length (eights vs) ≡ 8 * length vs
unfolding eights
length_eights [] = refl
length_eights (v ∷ vs) = rw (length-append, length_bytes, length_eights vs) (omega arith)

eights_append : (xs ys : List ℕ) → eights (xs ++ ys) ≡ eights xs ++ eights ys
unfolding eights
eights_append [] ys = refl
eights_append (v ∷ vs) ys = rw (eights_append vs ys, append_assoc)

-- numbers after numbers
eights_on : (s t u xs ys : List ℕ) (n : ℕ) → 8 * length xs ≡ n → t ≡ sets s 0 (eights xs) → u ≡ sets t n (eights ys) → u ≡ sets s 0 (eights (xs ++ ys))
eights_on s t u xs ys n e p q =
    let z : 0 + n ≡ n = omega arith in
    rw (q, p, eights_append xs ys)
    (subst (λ (m : ℕ). sets (sets s 0 (eights xs)) m (eights ys) ≡ sets s 0 (eights xs ++ eights ys)) z (sets_at (eights xs) (eights ys) s 0 n (length_eights xs ∙ e)))

-- one of them read back
eights_at : (vs rest : List ℕ) (i : ℕ) → i < length vs → get_or vs i 0 < 256 ^ 8 → le 8 (drop (8 * i) (eights vs ++ rest)) ≡ get_or vs i 0
unfolding eights
eights_at [] rest i h k = absurd (omega arith)
eights_at (v ∷ vs) rest zero h k = rw append_assoc (le_bytes 8 v (eights vs ++ rest) ∙ mod-eq_of_lt k)
eights_at (v ∷ vs) rest (suc i) h k =
    let e : 8 * suc i ≡ length (bytes 8 v) + 8 * i = rw length_bytes (omega arith) in
    rw (append_assoc, e, drop-append-add (bytes 8 v) (eights vs ++ rest) (8 * i)) (eights_at vs rest i (omega arith) k)

pub three_put : (s t u v : List ℕ) (at a b c : ℕ) → t ≡ sets s at (bytes 8 a) → u ≡ sets t (at + 8) (bytes 8 b) → v ≡ sets u (at + 16) (bytes 8 c)
    → v ≡ sets s at (eights (a ∷ b ∷ c ∷ []))
unfolding eights
three_put s t u v at a b c p q r =
    let k : u ≡ sets s at (bytes 8 a ++ bytes 8 b) = rw (q, p) (sets_at (bytes 8 a) (bytes 8 b) s at 8 (length_bytes 8 a)) in
    let n : length (bytes 8 a ++ bytes 8 b) ≡ 16 = rw (length-append, length_bytes, length_bytes) in
    rw (r, k, append-nil, ← append_assoc (bytes 8 a) (bytes 8 b) (bytes 8 c)) (sets_at (bytes 8 a ++ bytes 8 b) (bytes 8 c) s at 16 n)

-- ## All of them

module _ (s : List ℕ) (k : Kept) (t u v w : List ℕ) (h : 208 ≤ length s)
    (e1 : t ≡ sets s 0 (eights (k.answer ∷ k.named ∷ k.taken ∷ [])))
    (e2 : u ≡ sets t 24 (eights (k.reader.from ∷ k.reader.count ∷ k.reader.marks.lov ∷ [])))
    (e3 : v ≡ sets u 48 (eights (k.reader.marks.fid ∷ k.reader.marks.lma ∷ k.reader.line.seen ∷ [])))
    (e4 : w ≡ sets v 72 (eights (half_number k.reader.line.half ∷ k.reader.line.size ∷ 0 ∷ []))) where
  abbrev all : List ℕ
  all = k.answer ∷ k.named ∷ k.taken ∷ k.reader.from ∷ k.reader.count ∷ k.reader.marks.lov ∷ k.reader.marks.fid ∷ k.reader.marks.lma
      ∷ k.reader.line.seen ∷ half_number k.reader.line.half ∷ k.reader.line.size ∷ 0 ∷ []

  all_put : w ≡ sets s 0 (eights all)
  all_put =
      let k2 = eights_on s t u (k.answer ∷ k.named ∷ k.taken ∷ []) (k.reader.from ∷ k.reader.count ∷ k.reader.marks.lov ∷ []) 24 refl e1 e2 in
      let k3 = eights_on s u v (k.answer ∷ k.named ∷ k.taken ∷ k.reader.from ∷ k.reader.count ∷ k.reader.marks.lov ∷ [])
      (k.reader.marks.fid ∷ k.reader.marks.lma ∷ k.reader.line.seen ∷ []) 48 refl k2 e3 in
      eights_on s v w (k.answer ∷ k.named ∷ k.taken ∷ k.reader.from ∷ k.reader.count ∷ k.reader.marks.lov ∷ k.reader.marks.fid ∷ k.reader.marks.lma ∷ k.reader.line.seen ∷ [])
      (half_number k.reader.line.half ∷ k.reader.line.size ∷ 0 ∷ []) 72 refl k3 e4

  all_front : w ≡ eights all ++ drop 96 s
  all_front = all_put ∙ sets_front (eights all) s (omega (arith, length_eights all)) ∙ ap (λ (n : ℕ). eights all ++ drop n s) (length_eights all)

  back : (i : ℕ) → i < 12 → get_or all i 0 < 256 ^ 8 → number_at w (8 * i) ≡ get_or all i 0
  unfolding number_at
  back i a b = ap (λ (l : List ℕ). le 8 (drop (8 * i) l)) all_front ∙ eights_at all (drop 96 s) i a b

  pub stored_is : k.answer < 256 ^ 8 → k.named < 256 ^ 8 → k.taken < 256 ^ 8 → k.reader.from < 256 ^ 8 → k.reader.count < 256 ^ 8 →
      k.reader.marks.lov < 256 ^ 8 → k.reader.marks.fid < 256 ^ 8 → k.reader.marks.lma < 256 ^ 8 → k.reader.line.seen < 256 ^ 8 →
      half_number k.reader.line.half < 256 ^ 8 → k.reader.line.size < 256 ^ 8 → Stored s k w
  unfolding numbers_in numbers_of
  stored_is a b c d e f g i j l m =
      record {
        numbers = rw (
          back 0 (omega arith) a,
          back 1 (omega arith) b,
          back 2 (omega arith) c,
          back 3 (omega arith) d,
          back 4 (omega arith) e,
          back 5 (omega arith) f,
          back 6 (omega arith) g,
          back 7 (omega arith) i,
          back 8 (omega arith) j,
          back 9 (omega arith) l,
          back 10 (omega arith) m,
        );
        rest = ap (drop 128) all_put ∙ drop_sets_le (eights all) s 128 0 (omega (arith, length_eights all));
        long = ap length all_put ∙ length-sets s 0 (eights all);
      }

-- ## Loaded

module _ (s : List ℕ) where
  pub line_short : (m : Marks) (seen : ℕ) (half : Half) (size : ℕ) → seen < 14 → record { seen = seen; base = 144; most = 0; half = half; size = size } ≡ line_in s m seen half size
  unfolding line_in
  line_short m seen half size h = rw (lt-ltb seen 14 h)

  pub line_full : (m : Marks) (seen : ℕ) (half : Half) (size : ℕ) (k : Kind) (base most : ℕ) → 14 ≤ seen → k ≡ kind_of (take (142 - 128) (drop 128 s)) → base ≡ base_of k
      → most ≡ want_of m (length s) k → record { seen = seen; base = base; most = most; half = half; size = size } ≡ line_in s m seen half size
  unfolding line_in
  line_full m seen half size k base most h e p q = rw (le-ltb seen 14 h, p, q, e)

  pub marks_are : (a b c : ℕ) → a ≡ number_at s 40 → b ≡ number_at s 48 → c ≡ number_at s 56 → record { lov = a; fid = b; lma = c } ≡ marks_in s
  unfolding marks_in
  marks_are a b c p q r = rw (p, q, r)

  pub reader_are : (m : Marks) (seen : ℕ) (half : Half) (size : ℕ) (x : Unfinished) (from count : ℕ) → m ≡ marks_in s → seen ≡ number_at s 64 → half ≡ half_of (number_at s 72) → size ≡ number_at s 80
      → x ≡ line_in s m seen half size → from ≡ number_at s 24 → count ≡ number_at s 32 → record { from = from; marks = m; count = count; line = x } ≡ reader_in s
  unfolding reader_in
  reader_are m seen half size x from count p q r t u v w = rw (u, p, q, r, t, v, w)

  pub kept_are : (a b c : ℕ) (x : Reader) → x ≡ reader_in s → a ≡ number_at s 0 → b ≡ number_at s 8 → c ≡ number_at s 16
      → record { answer = a; named = b; taken = c; reader = x } ≡ kept_of s
  unfolding kept_of
  kept_are a b c x p q r t = rw (p, q, r, t)
