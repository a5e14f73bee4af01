-- A word at the front of a slice, byte by byte, and a hex digit. Assumes nothing.
use Prim.Native.Nat.{ℕ, ◌+◌, ◌-◌, ◌≤◌, ◌<◌}
use mathlib.Core.Path.{◌≡◌, refl, sym, ap, ◌∙◌}
use mathlib.Core.List.{List, [], ◌∷◌}
use mathlib.Core.Bool.{Bool, true, false, cond, ◌&&◌, and-false}
use native.Mathlib.Omega.{arith}
use lib.ListN.{length}
use lib.Dec.{eqb, ltb}
use borrow.Author.Tests.{eq-eqb, ne_eqb, eqb-true, eqb-false, le-leb, lt-leb, lt-ltb, ltb-true}
use Rattle.std.specs.Prelude.{Some, None}
use Rattle.std.specs.List.{starts_with}
use Rattle.intake.specs.Says.{starts, digit, is_digit}
use Rattle.intake_bytes.specs.Lent.{digit_of}

pub starts_short : (w s : List ℕ) → length s < length w → false ≡ starts w s
unfolding starts
starts_short [] s h = absurd (omega arith)
starts_short (a ∷ w) [] h = refl
starts_short (a ∷ w) (b ∷ s) h = rw (← starts_short w s (omega arith)) (sym (and-false (eqb b a)))

same_byte : (a b : ℕ) → eqb a b ≡ eqb b a
same_byte a b = go (eqb a b) refl where
  go : (t : Bool) → eqb a b ≡ t → t ≡ eqb b a
  go true e = sym (eq-eqb b a (sym (eqb-true a b e)))
  go false e = sym (ne_eqb b a (λ z. eqb-false a b e (sym z)))

-- std's test of a word at the front
pub starts_is : (s w : List ℕ) → starts_with eqb s w ≡ starts w s
unfolding starts
starts_is s [] = refl
starts_is [] (a ∷ w) = refl
starts_is (b ∷ s) (a ∷ w) = ap (λ (t : Bool). t && starts_with eqb s w) (same_byte a b) ∙ ap (λ (t : Bool). eqb b a && t) (starts_is s w)

module _ (b : ℕ) where
  pub digit_low : b < 48 → 16 ≡ digit b
  unfolding digit
  digit_low h = simp (lt-leb 48 b h, lt-leb 65 b (omega arith), lt-leb 97 b (omega arith))

  pub digit_number : (v : ℕ) → v ≡ b → 48 ≤ b → b ≤ 57 → v - 48 ≡ digit b
  unfolding digit
  digit_number v e h k = simp (e, le-leb 48 b h, le-leb b 57 k)

  pub digit_gap : 57 < b → b < 65 → 16 ≡ digit b
  unfolding digit
  digit_gap h k = simp (le-leb 48 b (omega arith), lt-leb b 57 h, lt-leb 65 b k, lt-leb 97 b (omega arith))

  pub digit_upper : (v : ℕ) → v ≡ b → 65 ≤ b → b ≤ 70 → v - 55 ≡ digit b
  unfolding digit
  digit_upper v e h k = simp (e, le-leb 48 b (omega arith), lt-leb b 57 (omega arith), le-leb 65 b h, le-leb b 70 k)

  pub digit_gap_2 : 70 < b → b < 97 → 16 ≡ digit b
  unfolding digit
  digit_gap_2 h k = simp (le-leb 48 b (omega arith), lt-leb b 57 (omega arith), le-leb 65 b (omega arith), lt-leb b 70 h, lt-leb 97 b k)

  pub digit_lower : (v : ℕ) → v ≡ b → 97 ≤ b → b ≤ 102 → v - 87 ≡ digit b
  unfolding digit
  digit_lower v e h k = simp (e, le-leb 48 b (omega arith), lt-leb b 57 (omega arith), le-leb 65 b (omega arith), lt-leb b 70 (omega arith), le-leb 97 b h, le-leb b 102 k)

  pub digit_high : 102 < b → 16 ≡ digit b
  unfolding digit
  digit_high h = simp (le-leb 48 b (omega arith), lt-leb b 57 (omega arith), le-leb 65 b (omega arith), lt-leb b 70 (omega arith), le-leb 97 b (omega arith), lt-leb b 102 h)

  pub from_55 : 65 ≤ b → b - 65 + 10 ≡ b - 55
  from_55 h = omega arith

  pub from_87 : 97 ≤ b → b - 97 + 10 ≡ b - 87
  from_87 h = omega arith

  -- a digit, and none
  pub digit_some : (d : ℕ) → d ≡ digit b → d < 16 → Some d ≡ digit_of b
  unfolding digit_of is_digit
  digit_some d e h = rw (← e, lt-ltb d 16 h)

  pub digit_none : 16 ≡ digit b → None ≡ digit_of b
  unfolding digit_of is_digit
  digit_none e = rw (← e)

  digit_cases : (t : Bool) (d : ℕ) → ltb (digit b) 16 ≡ t → Some d ≡ cond t (Some (digit b)) None → (d ≡ digit b) × (d < 16)
  digit_cases true d h e =
      let z : d ≡ digit b = cc in
      (z, omega (arith, z, ltb-true (digit b) 16 h))
  digit_cases false d h e = let z : ◌≡◌ {A = ℕ} 0 1 = cc in absurd (omega arith)

  -- what they say
  pub digit_at : (d : ℕ) → Some d ≡ digit_of b → (d ≡ digit b) × (d < 16)
  unfolding digit_of is_digit
  digit_at d e = digit_cases (ltb (digit b) 16) d refl e

  none_cases : (t : Bool) → is_digit b ≡ t → None ≡ cond t (Some (digit b)) None → is_digit b ≡ false
  none_cases true h e = let z : ◌≡◌ {A = ℕ} 0 1 = cc in absurd (omega arith)
  none_cases false h e = h

  pub digit_not : None ≡ digit_of b → is_digit b ≡ false
  unfolding digit_of
  digit_not e = none_cases (is_digit b) refl e
