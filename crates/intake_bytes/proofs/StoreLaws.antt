-- One more digit in the lent bytes. Assumes nothing.
use Prim.Native.Nat.{ℕ, suc, ◌+◌, ◌*◌, ◌≤◌, ◌<◌}
use mathlib.Core.Path.{◌≡◌, refl, sym, subst}
use mathlib.Core.List.{List}
use mathlib.Core.Bool.{true, false}
use native.Mathlib.Numerals.{add-one}
use native.Mathlib.Omega.{arith}
use lib.ListN.{length, take, drop, set, length-set, length-take, length-drop}
use lib.Seq.{take-set-le, drop-set-lt, drop-set-add, take-suc-set, take-take, take_all}
use borrow.Author.Tests.{lt-ltb, le-ltb}
use Rattle.intake_bytes.specs.declared.Unfinished.{Unfinished}
use Rattle.intake.specs.Says.{digit, is_digit}
use Rattle.intake.specs.Machine.{Digits, broken, even, odd, store, digit_byte}
use Rattle.intake_bytes.specs.declared.Half.TheVariants.{Even, Odd, Broken}
use Rattle.intake_bytes.specs.Lent.{kept_in, digits_of, digits_in, valued, HalfFits, Room, Within, DigitStep, ByteStep}

module _ (b : ℕ) where
  is_digit_lem : digit b < 16 → is_digit b ≡ true
  unfolding is_digit
  is_digit_lem h = lt-ltb (digit b) 16 h

  breaks : (most : ℕ) (D : Digits) → is_digit b ≡ false → digit_byte most D b ≡ broken
  unfolding digit_byte
  breaks most broken e = refl
  breaks most (even n v) e = rw e
  breaks most (odd h n v) e = rw e

  halves : (most n : ℕ) (v : List ℕ) → digit b < 16 → digit_byte most (even n v) b ≡ odd (digit b) n v
  unfolding digit_byte
  halves most n v h = rw (is_digit_lem h)

  completes : (most k n : ℕ) (v : List ℕ) → digit b < 16 → digit_byte most (odd k n v) b ≡ even (suc n) (store most n v (16 * k + digit b))
  unfolding digit_byte
  completes most k n v h = rw (is_digit_lem h)

-- what is kept after a byte more
module _ (buf : List ℕ) (base most n v : ℕ) where
  kept_stored : n < most → base + most ≤ length buf
      → take (suc n) (take most (drop base (set buf (base + n) v))) ≡ store most n (take n (take most (drop base buf))) v
  unfolding store
  kept_stored h k =
      let l : n < length (drop base buf) = rw length-drop (omega arith) in
      rw (lt-ltb n most h, drop-set-add base buf n v, take-take (suc n) most (set (drop base buf) n v) (omega arith), take-take n most (drop base buf) (omega arith))
      (take-suc-set (drop base buf) n v l)

  kept_counted : most ≤ n → base + most ≤ length buf → take (suc n) (take most (drop base buf)) ≡ store most n (take n (take most (drop base buf))) v
  unfolding store
  kept_counted h k =
      let l : length (take most (drop base buf)) ≤ n = rw (length-take, length-drop) (omega arith) in
      rw (le-ltb n most h, take_all n (take most (drop base buf)) l, take_all (suc n) (take most (drop base buf)) (omega arith))

module _ (buf : List ℕ) (x : Unfinished) (b : ℕ) where
  same : Within x.base x.most buf buf
  same = record { long = refl; front = refl; back = refl }

  pub stays_broken : x.half ≡ Broken → DigitStep buf x b buf x
  unfolding digits_in digits_of digit_byte HalfFits
  stays_broken e = record { digits = rw e; within = same; seen = refl; base = refl; most = refl; halves = rw e tt; counts = omega arith }

  pub no_digit : is_digit b ≡ false → DigitStep buf x b buf (valued x Broken x.size)
  unfolding digits_in digits_of HalfFits
  no_digit e =
      record { digits = sym (breaks b x.most (digits_of x.half x.size (kept_in buf x)) e); within = same; seen = refl; base = refl; most = refl; halves = tt; counts = omega arith }

  half_digits : x.half ≡ Even → (d : ℕ) → d ≡ digit b → d < 16 → digits_in buf (valued x (Odd d) x.size) ≡ digit_byte x.most (digits_in buf x) b
  unfolding digits_in digits_of kept_in
  half_digits e d q h = rw (e, halves b x.most x.size (kept_in buf x) (omega arith), q)

  pub first_half_lem : x.half ≡ Even → (d : ℕ) → d ≡ digit b → d < 16 → DigitStep buf x b buf (valued x (Odd d) x.size)
  unfolding HalfFits
  first_half_lem e d q h =
      record { digits = half_digits e d q h; within = same; seen = refl; base = refl; most = refl; halves = h; counts = omega arith }

-- a first digit is below 16
pub half_below : (x : Unfinished) (h : ℕ) → HalfFits x.half → x.half ≡ Odd h → h < 16
unfolding HalfFits
half_below x h g e = subst HalfFits e g

-- ## A whole byte

module _ (buf : List ℕ) (x : Unfinished) (g : Room (length buf) x) (h b : ℕ) (d : digit b < 16) where
  -- the digits after it, from what is kept of them
  whole : (after : List ℕ) → take (suc x.size) (take x.most (drop x.base after)) ≡ store x.most x.size (kept_in buf x) (16 * h + digit b)
      → digits_in after (valued x Even (x.size + 1)) ≡ digit_byte x.most (digits_in buf (valued x (Odd h) x.size)) b
  unfolding digits_in digits_of kept_in
  whole after e = rw (add-one, e, completes b x.most h x.size (kept_in buf x) d)

  pub stores : x.size < x.most → DigitStep buf (valued x (Odd h) x.size) b (set buf (x.base + x.size) (16 * h + digit b)) (valued x Even (x.size + 1))
  unfolding kept_in HalfFits
  stores k =
      record {
        digits = whole _ (kept_stored buf x.base x.most x.size (16 * h + digit b) k g.fits);
        within = record {
          long = length-set buf (x.base + x.size) (16 * h + digit b);
          front = take-set-le x.base buf (x.base + x.size) (16 * h + digit b) (omega arith);
          back = drop-set-lt (x.base + x.most) buf (x.base + x.size) (16 * h + digit b) (omega arith);
        };
        seen = refl;
        base = refl;
        most = refl;
        halves = tt;
        counts = omega arith;
      }

  pub counts_on : x.most ≤ x.size → DigitStep buf (valued x (Odd h) x.size) b buf (valued x Even (x.size + 1))
  unfolding kept_in HalfFits
  counts_on k =
      record {
        digits = whole buf (kept_counted buf x.base x.most x.size (16 * h + digit b) k g.fits);
        within = record { long = refl; front = refl; back = refl };
        seen = refl;
        base = refl;
        most = refl;
        halves = tt;
        counts = omega arith;
      }

module _ (buf : List ℕ) (x : Unfinished) (v : ℕ) (g : Room (length buf) x) where
  pub byte_stores : x.size < x.most → ByteStep buf x v (set buf (x.base + x.size) v) (valued x Even (x.size + 1))
  byte_stores k =
      record {
        second = λ h b i j e. rw e (stores buf x g h b j k);
        half = refl;
      }

  pub byte_counts : x.most ≤ x.size → ByteStep buf x v buf (valued x Even (x.size + 1))
  byte_counts k = record { second = λ h b i j e. counts_on buf x g h b j k; half = refl }

  -- the second digit of a byte whose first one is known
  pub byte_second : (after : List ℕ) (r : Unfinished) (h b : ℕ) → ByteStep buf x v after r → x.half ≡ Odd h → h < 16 → digit b < 16 → v ≡ 16 * h + digit b
      → DigitStep buf x b after r
  byte_second after r h b s e i j q =
      let z : valued x (Odd h) x.size ≡ x = rw (← e) refl in
      subst (λ (y : Unfinished). DigitStep buf y b after r) z (s.second h b i j q)
