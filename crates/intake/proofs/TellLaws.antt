-- What a line says is what its text is: its name, its digits, their number. Assumes nothing.
use Prim.Native.Nat.{ℕ}
use mathlib.Core.Path.{◌≡◌, refl, sym, ap, subst, ◌∙◌}
use mathlib.Core.List.{List, [], ◌∷◌, ◌++◌}
use mathlib.Core.Bool.{true, false, cond, true≢false}
use lib.ListN.{length, take, drop}
use Rattle.intake.specs.declared.Kind.{Kind}
use Rattle.intake.specs.declared.Kind.TheVariants.{Lov, Fid, Lma, Other}
use Rattle.intake.specs.Says.{Line, opens, closes, skipped, bad, takes, file_word, trusted_word, lov_word, fid_word, lma_word, value_word, mark_at, head_size, starts, Hex, no_hex, hex, hex_bytes, keep, kind_of, good_size, sized, attribute, is_empty, judge, wanted, saying, line_says}
use Rattle.intake.specs.Given.{Spells}
use Rattle.intake.proofs.TestLaws.{by_test}
use Rattle.intake.proofs.NameLaws.{word_of, is_lov, is_fid, is_lma, starts_append, names_lov, names_fid, names_lma, name_starts}

-- the bytes that a line spells, and what is taken of them
pub record Taken (room : ℕ) (k : Kind) (l : List ℕ) (n : ℕ) (v : List ℕ) : Type 0 where
  pub value : List ℕ
  pub spells : Spells (word_of k) value l
  pub long : n ≡ length value
  pub kept : v ≡ take (wanted room k) value
  pub good : good_size k n ≡ true

-- what a line is that says so
abbrev pub Tells : ℕ → List ℕ → Line → Type 0
Tells room l opens = (is_empty l ≡ false) × (starts file_word l ≡ true)
Tells room l closes = l ≡ []
Tells room l skipped = (is_empty l ≡ false) × (kind_of l ≡ Other)
Tells room l bad = Unit {0}
Tells room l (takes k n v) = (is_empty l ≡ false) × (kind_of l ≡ k) × Taken room k l n v

empty_is : (l : List ℕ) → is_empty l ≡ true → l ≡ []
unfolding is_empty
empty_is [] h = refl
empty_is (b ∷ l) h = absurd (true≢false (sym h))

module _ (room : ℕ) (l : List ℕ) where
  module _ (full : is_empty l ≡ false) where
    -- a good number of digits
    tells_size : (k : Kind) (x : Hex) → kind_of l ≡ k → starts (trusted_word ++ word_of k ++ value_word) l ≡ true → hex_bytes (drop head_size l) ≡ x
        → Tells room l (sized k (keep (wanted room k) x))
    unfolding sized keep
    tells_size k no_hex e h d = tt
    tells_size k (hex v) e h d =
        by_test (Tells room l) (good_size k (length v)) (takes k (length v) (take (wanted room k) v)) bad
        (λ g. (full, e, record { value = v; spells = record { head = h; digits = d }; long = refl; kept = refl; good = g })) (λ g. tt)

    -- `=0x` after the name
    tells_value : (k : Kind) → kind_of l ≡ k → starts (trusted_word ++ word_of k) l ≡ true → length (trusted_word ++ word_of k) ≡ mark_at
        → Tells room l (cond (starts value_word (drop mark_at l)) (sized k (keep (wanted room k) (hex_bytes (drop head_size l)))) bad)
    tells_value k e h n =
        by_test (Tells room l) (starts value_word (drop mark_at l)) _ bad
        (λ s. tells_size k (hex_bytes (drop head_size l)) e
        (starts_append (trusted_word ++ word_of k) value_word l h (subst (λ (m : ℕ). starts value_word (drop m l) ≡ true) (sym n) s)) refl) (λ s. tt)

    tells_attribute : (k : Kind) → kind_of l ≡ k → Tells room l (attribute k (drop mark_at l) (keep (wanted room k) (hex_bytes (drop head_size l))))
    unfolding attribute
    tells_attribute Lov e = tells_value Lov e (name_starts lov_word l (names_lov l ∙ ap is_lov e)) refl
    tells_attribute Fid e = tells_value Fid e (name_starts fid_word l (names_fid l ∙ ap is_fid e)) refl
    tells_attribute Lma e = tells_value Lma e (name_starts lma_word l (names_lma l ∙ ap is_lma e)) refl
    tells_attribute Other e = (full, e)

  -- THE LAW OF WHAT A LINE SAYS
  pub tells : Tells room l (line_says room l)
  unfolding line_says saying judge
  tells =
      by_test (Tells room l) (is_empty l) closes _ (empty_is l)
      (λ f. by_test (Tells room l) (starts file_word l) opens _ (λ h. (f, h))
      (λ h. by_test (Tells room l) (starts trusted_word l) _ bad (λ s. tells_attribute f (kind_of l) refl) (λ s. tt)))

  -- a line that is taken spells the bytes that are taken
  pub says_bytes : (k : Kind) (n : ℕ) (v : List ℕ) → line_says room l ≡ takes k n v → Taken room k l n v
  says_bytes k n v e = (subst (Tells room l) e tells).2
