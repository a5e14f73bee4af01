-- Bytes written in digits of either case are read back. Assumes nothing.
use Prim.Native.Nat.{ℕ, ◌+◌, ◌*◌, ◌/◌, ◌%◌, ◌≤◌, ◌<◌}
use mathlib.Core.Path.{◌≡◌, refl}
use mathlib.Core.List.{List, [], ◌∷◌, ◌++◌}
use mathlib.Core.Bool.{Bool, true, false, cond}
use native.Mathlib.Omega.{arith}
use lib.ListN.{length, take}
use lib.Dec.{ltb, leb}
use borrow.Author.Tests.{ltb-true, ltb-false, lt-ltb, le-leb, lt-leb}
use Rattle.wire.specs.Numbers.{Bytes}
use Rattle.wire.proofs.NumberLaws.{bytes_head, bytes_tail}
use Rattle.intake.specs.declared.Kind.TheVariants.{Lov}
use Rattle.intake.specs.Says.{takes, trusted_word, lov_word, value_word, starts, named, digit, is_digit, hex, more, hex_bytes, keep, kind_of, good_size, sized, attribute, is_empty, judge, wanted, saying, line_says}
use Rattle.intake.specs.Given.{lower_digit, upper_digit, hex_text, ReadsBack, EitherCase}

-- ## Digits

decimal_back : (d : ℕ) → d < 10 → digit (48 + d) ≡ d
unfolding digit
decimal_back d h = rw (le-leb 48 (48 + d) (omega arith), le-leb (48 + d) 57 (omega arith)) (omega arith)

lower_back : (d : ℕ) → d < 16 → digit (lower_digit d) ≡ d
unfolding digit lower_digit
lower_back d h = go (ltb d 10) refl where
  go : (t : Bool) → ltb d 10 ≡ t → digit (cond t (48 + d) (87 + d)) ≡ d
  go true e = decimal_back d (ltb-true d 10 e)
  go false e =
      let k : 10 ≤ d = ltb-false d 10 e in
      let above : leb (87 + d) 70 ≡ false = lt-leb (87 + d) 70 (omega arith) in
      let here : leb (87 + d) 102 ≡ true = le-leb (87 + d) 102 (omega arith) in
      rw (le-leb 48 (87 + d) (omega arith), lt-leb (87 + d) 57 (omega arith), le-leb 65 (87 + d) (omega arith), above, le-leb 97 (87 + d) (omega arith), here)
      (omega arith)

upper_back : (d : ℕ) → d < 16 → digit (upper_digit d) ≡ d
unfolding digit upper_digit
upper_back d h = go (ltb d 10) refl where
  go : (t : Bool) → ltb d 10 ≡ t → digit (cond t (48 + d) (55 + d)) ≡ d
  go true e = decimal_back d (ltb-true d 10 e)
  go false e =
      let k : 10 ≤ d = ltb-false d 10 e in
      rw (le-leb 48 (55 + d) (omega arith), lt-leb (55 + d) 57 (omega arith), le-leb 65 (55 + d) (omega arith), le-leb (55 + d) 70 (omega arith))
      (omega arith)

-- ## Values, in digits that are read back

module _ (text : ℕ → ℕ) (back : (d : ℕ) → d < 16 → digit (text d) ≡ d) where
  is_digit_lem : (d : ℕ) → d < 16 → is_digit (text d) ≡ true
  unfolding is_digit
  is_digit_lem d h = rw (back d h) (lt-ltb d 16 h)

  value_back : (v : List ℕ) → Bytes v → hex_bytes (hex_text text v) ≡ hex v
  unfolding hex_bytes hex_text more
  value_back [] h = refl
  value_back (b ∷ v) h =
      let k : b < 256 = bytes_head b v h in
      let p : b / 16 < 16 = omega arith in
      let q : b % 16 < 16 = omega arith in
      let s : 16 * (b / 16) + b % 16 ≡ b = omega arith in
      rw (is_digit_lem (b / 16) p, is_digit_lem (b % 16) q, back (b / 16) p, back (b % 16) q, s, value_back v (bytes_tail b v h))

  layout_back : (room : ℕ) (v : List ℕ) → Bytes v → line_says room (trusted_word ++ lov_word ++ value_word ++ hex_text text v) ≡ takes Lov (length v) (take room v)
  unfolding line_says saying judge is_empty starts named kind_of attribute sized good_size wanted keep
  layout_back room v h = rw (value_back v h)

  reads_back : ReadsBack text
  reads_back = record { value = value_back; layout = layout_back }

pub read_back : EitherCase
unfolding EitherCase
read_back = (reads_back lower_digit lower_back, reads_back upper_digit upper_back)
