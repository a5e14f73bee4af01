-- What the kind of a line says of its text. Assumes nothing.
use Prim.Native.Nat.{ℕ}
use mathlib.Core.Path.{◌≡◌, refl, sym}
use mathlib.Core.List.{List, [], ◌∷◌, ◌++◌}
use mathlib.Core.Bool.{Bool, true, false, cond, ◌&&◌, true≢false}
use lib.ListN.{length, drop}
use lib.Dec.{eqb}
use borrow.Author.Tests.{eqb-true}
use Rattle.wire.proofs.Both.{and_first, and_second, and_both, and_none}
use Rattle.intake.specs.declared.Kind.{Kind}
use Rattle.intake.specs.declared.Kind.TheVariants.{Lov, Fid, Lma, Other}
use Rattle.intake.specs.Says.{trusted_word, lov_word, fid_word, lma_word, starts, named, kind_of}
use Rattle.intake.specs.Given.{names}

-- ## Words

abbrev pub word_of : Kind → List ℕ
word_of Lov = lov_word
word_of Fid = fid_word
word_of Lma = lma_word
word_of Other = []

named_starts : (w l : List ℕ) → named w l ≡ true → starts w l ≡ true
unfolding starts named
named_starts [] l h = refl
named_starts (a ∷ w) [] h = h
named_starts (a ∷ w) (b ∷ l) h =
    and_both (eqb b a) (starts w l) (and_first (eqb b a) (named w l) h) (named_starts w l (and_second (eqb b a) (named w l) h))

-- a word, and another after it
pub starts_append : (u w l : List ℕ) → starts u l ≡ true → starts w (drop (length u) l) ≡ true → starts (u ++ w) l ≡ true
unfolding starts
starts_append [] w l h k = k
starts_append (a ∷ u) w [] h k = h
starts_append (a ∷ u) w (b ∷ l) h k =
    and_both (eqb b a) (starts (u ++ w) l) (and_first (eqb b a) (starts u l) h) (starts_append u w l (and_second (eqb b a) (starts u l) h) k)

-- ## Names

-- which kind it is
abbrev pub is_lov : Kind → Bool
is_lov Lov = true
is_lov Fid = false
is_lov Lma = false
is_lov Other = false

abbrev pub is_fid : Kind → Bool
is_fid Lov = false
is_fid Fid = true
is_fid Lma = false
is_fid Other = false

abbrev pub is_lma : Kind → Bool
is_lma Lov = false
is_lma Fid = false
is_lma Lma = true
is_lma Other = false

-- a name has one first byte, and one second
heads_differ : (a c : ℕ) (u w l : List ℕ) → eqb a c ≡ false → named (a ∷ u) l ≡ true → named (c ∷ w) l ≡ false
unfolding named
heads_differ a c u w [] e h = absurd (true≢false (sym h))
heads_differ a c u w (b ∷ l) e h = rw (eqb-true b a (and_first (eqb b a) (named u l) h), e)

seconds_differ : (a c d : ℕ) (u w l : List ℕ) → eqb c d ≡ false → named (a ∷ c ∷ u) l ≡ true → named (a ∷ d ∷ w) l ≡ false
unfolding named
seconds_differ a c d u w [] e h = absurd (true≢false (sym h))
seconds_differ a c d u w (b ∷ l) e h =
    rw (heads_differ c d u w l e (and_second (eqb b a) (named (c ∷ u) l) h)) (and_none (eqb b a))

-- the kind that the three tests of a name tell
abbrev told : Bool → Bool → Bool → Bool → Kind
told t a b c = cond t (cond a Lov (cond b Fid (cond c Lma Other))) Other

told_lov : (t a b c : Bool) → (t && a) ≡ is_lov (told t a b c)
told_lov false a b c = refl
told_lov true true b c = refl
told_lov true false true c = refl
told_lov true false false true = refl
told_lov true false false false = refl

told_fid : (t a b c : Bool) → (a ≡ true → b ≡ false) → (t && b) ≡ is_fid (told t a b c)
told_fid false a b c h = refl
told_fid true true b c h = h refl
told_fid true false true c h = refl
told_fid true false false true h = refl
told_fid true false false false h = refl

told_lma : (t a b c : Bool) → (a ≡ true → c ≡ false) → (b ≡ true → c ≡ false) → (t && c) ≡ is_lma (told t a b c)
told_lma false a b c h k = refl
told_lma true true b c h k = h refl
told_lma true false true c h k = k refl
told_lma true false false true h k = refl
told_lma true false false false h k = refl

module _ (l : List ℕ) where
  pub names_lov : names lov_word l ≡ is_lov (kind_of l)
  unfolding names kind_of
  names_lov = told_lov (starts trusted_word l) (named lov_word (drop 8 l)) (named fid_word (drop 8 l)) (named lma_word (drop 8 l))

  pub names_fid : names fid_word l ≡ is_fid (kind_of l)
  unfolding names kind_of
  names_fid =
      told_fid (starts trusted_word l) (named lov_word (drop 8 l)) (named fid_word (drop 8 l)) (named lma_word (drop 8 l))
      (heads_differ 108 102 (111 ∷ 118 ∷ []) (105 ∷ 100 ∷ []) (drop 8 l) refl)

  pub names_lma : names lma_word l ≡ is_lma (kind_of l)
  unfolding names kind_of
  names_lma =
      told_lma (starts trusted_word l) (named lov_word (drop 8 l)) (named fid_word (drop 8 l)) (named lma_word (drop 8 l))
      (seconds_differ 108 111 109 (118 ∷ []) (97 ∷ []) (drop 8 l) refl) (heads_differ 102 108 (105 ∷ 100 ∷ []) (109 ∷ 97 ∷ []) (drop 8 l) refl)

-- a name after `trusted.`
pub name_starts : (w l : List ℕ) → names w l ≡ true → starts (trusted_word ++ w) l ≡ true
unfolding names
name_starts w l h =
    starts_append trusted_word w l (and_first (starts trusted_word l) (named w (drop 8 l)) h)
    (named_starts w (drop 8 l) (and_second (starts trusted_word l) (named w (drop 8 l)) h))
