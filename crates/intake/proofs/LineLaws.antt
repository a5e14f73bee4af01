-- The machine over one line: at its end it says what the line says. Assumes nothing.
use Prim.Native.Nat.{ℕ, ◌+◌, ◌≤◌, ◌<◌}
use mathlib.Core.Path.{◌≡◌, refl, sym, ap, ◌∙◌}
use mathlib.Core.List.{List, [], ◌∷◌, ◌++◌, append_assoc, append-nil, foldl, foldl-append}
use mathlib.Core.Bool.{Bool, true, false}
use native.Mathlib.Omega.{arith}
use lib.ListN.{length, take, drop, length-append, take-append-drop, drop_of_length-le}
use lib.Seq.{take_all, length-take-le}
use lib.Dec.{leb}
use borrow.Author.Tests.{leb-true, leb-false, lt-ltb, le-ltb}
use Rattle.intake.specs.declared.Kind.{Kind}
use Rattle.intake.specs.Says.{kind_of, judge, saying}
use Rattle.intake.specs.Machine.{Digits, even, digit_byte, value_of, Partial, no_line, line_byte, line_end}
use Rattle.intake.proofs.HeadLaws.{kind_of_take, judge_take}
use Rattle.intake.proofs.DigitLaws.{digits_all}

unfoldable pub partial : List ℕ → Digits → Partial
partial h d = record { head = h; digits = d }

module _ (want : Kind → ℕ) where
  -- the machine over the bytes of a line
  unfoldable pub line_state : List ℕ → Partial
  line_state l = foldl (line_byte want) no_line l

  pub head_byte : (h : List ℕ) (d : Digits) (b : ℕ) → length h < 14 → line_byte want (partial h d) b ≡ partial (h ++ b ∷ []) d
  unfolding line_byte partial
  head_byte h d b e = rw (lt-ltb (length h) 14 e)

  head_grows : (h l : List ℕ) (d : Digits) → length h + length l ≤ 14 → foldl (line_byte want) (partial h d) l ≡ partial (h ++ l) d
  head_grows h [] d e = rw append-nil
  head_grows h (b ∷ l) d e =
      rw (head_byte h d b (omega arith), head_grows (h ++ b ∷ []) l d (rw length-append (omega arith)), append_assoc)

  pub digit_byte_lem : (h : List ℕ) (d : Digits) (b : ℕ) → 14 ≤ length h → line_byte want (partial h d) b ≡ partial h (digit_byte (want (kind_of h)) d b)
  unfolding line_byte partial
  digit_byte_lem h d b e = rw (le-ltb (length h) 14 e)

  digits_go : (h l : List ℕ) (d : Digits) → 14 ≤ length h → foldl (line_byte want) (partial h d) l ≡ partial h (foldl (digit_byte (want (kind_of h))) d l)
  digits_go h [] d e = refl
  digits_go h (b ∷ l) d e = rw (digit_byte_lem h d b e) (digits_go h l (digit_byte (want (kind_of h)) d b) e)

  -- the digits of a line so far
  unfoldable pub digits_of : List ℕ → Digits
  digits_of l = foldl (digit_byte (want (kind_of l))) (even 0 []) (drop 14 l)

  pub state_is : (l : List ℕ) → line_state l ≡ partial (take 14 l) (digits_of l)
  unfolding line_state digits_of partial no_line
  state_is l = go (leb (length l) 14) refl where
    go : (t : Bool) → leb (length l) 14 ≡ t → foldl (line_byte want) (partial [] (even 0 [])) l ≡ partial (take 14 l) (digits_of l)
    go true e =
        let h : length l ≤ 14 = leb-true (length l) 14 e in
        rw (take_all 14 l h, drop_of_length-le l h) (head_grows [] l (even 0 []) (omega arith))
    go false e =
        let h : 14 < length l = leb-false (length l) 14 e in
        let n : length (take 14 l) ≡ 14 = length-take-le 14 l (omega arith) in
        ap (λ (z : List ℕ). foldl (line_byte want) (partial [] (even 0 [])) z) (sym (take-append-drop 14 l))
        ∙ foldl-append (line_byte want) (partial [] (even 0 [])) (take 14 l) (drop 14 l)
        ∙ ap (λ (z : Partial). foldl (line_byte want) z (drop 14 l)) (head_grows [] (take 14 l) (even 0 []) (omega arith))
        ∙ digits_go (take 14 l) (drop 14 l) (even 0 []) (omega arith)
        ∙ ap (λ (k : Kind). partial (take 14 l) (foldl (digit_byte (want k)) (even 0 []) (drop 14 l))) (kind_of_take l)

  -- THE LAW OF A LINE
  pub line_says_lem : (l : List ℕ) → line_end (line_state l) ≡ saying want l
  unfolding line_end saying partial digits_of
  line_says_lem l =
      ap line_end (state_is l) ∙ judge_take l (value_of (digits_of l)) ∙ ap (judge l) (digits_all (want (kind_of l)) (drop 14 l))

  -- one more byte of the line
  pub state_more : (l : List ℕ) (b : ℕ) → line_byte want (line_state l) b ≡ line_state (l ++ b ∷ [])
  unfolding line_state
  state_more l b = sym (foldl-append (line_byte want) no_line l (b ∷ []))
