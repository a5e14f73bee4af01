-- The FID asked for, and the number of the check, case by case; 0 exactly where tables and FID pass. Assumes nothing.
use mathlib.Core.Path.{◌≡◌, refl, sym, ◌∙◌}
use mathlib.Core.List.{List, [], ◌∷◌}
use mathlib.Core.Bool.{Bool, true, false, cond, ◌&&◌}
use Prim.Native.Nat.{ℕ, ◌≤◌, ◌<◌}
use borrow.Author.Tests.{ne_eqb, le-leb, lt-leb, leb-true}
use native.Mathlib.Omega.{arith}
use lib.Dec.{leb, eqb}
use Rattle.std.specs.Prelude.{Err}
use Rattle.refusals.specs.Numbers.{told}
use Rattle.refusals.specs.declared.Refusal.TheVariants.{BadTable, BadLayout}
use Rattle.refusals.proofs.NumberLaws.{told_refused}
use Rattle.tables.proofs.CheckLaws.{tables_refused}
use Rattle.wire.specs.Numbers.{max_word}
use Rattle.fid.specs.Fid.{good_object}
use Rattle.tables.specs.Check.{test, first_failing, tables_whole, good_layouts, good_fids, all_different, tables_tests, tables_number, Sound}
use Rattle.rules.proofs.Tests.{and_l}
use Rattle.capi_keeper.specs.Keepers.{asked, good_asked, keeper_tests, keeper_number}

-- ## The FID asked for

module _ (s i : ℕ) where
  pub asked_wide : max_word < i → false ≡ good_asked s i
  unfolding good_asked
  asked_wide h = rw (lt-leb i max_word h)

  pub good_fits : good_asked s i ≡ true → i ≤ max_word
  unfolding good_asked
  good_fits h = leb-true i max_word (and_l (leb i max_word) (good_object (asked s i)) h)

-- ## The number

-- a bad FID that is asked for is 14, whether a FID stands twice in the tables or not
pub bad_before_twice : (p o : List ℕ) (s i : ℕ) → good_asked s i ≡ false → tables_whole p o [] ≡ true → good_layouts p ≡ true → good_fids p o [] ≡ true →
    keeper_number p o s i ≡ 14
unfolding keeper_number keeper_tests first_failing
bad_before_twice p o s i g w l f = rw (g, w, l, f)

-- of the four tests in their order
order : Bool → Bool → Bool → Bool → ℕ
order w l f d = first_failing (test 11 w ∷ test 13 l ∷ test 14 f ∷ test 15 d ∷ [])

-- where the FID asked for is bad, from the number of the tables: 11 and 13 come before
pub refused : ℕ → ℕ
refused n = cond (eqb n 11) 11 (cond (eqb n 13) 13 14)

order_good : (w l f d : Bool) → order w l (f && true) d ≡ order w l f d
order_good w l true d = refl
order_good w l false d = refl

order_bad : (w l f d : Bool) → order w l (f && false) d ≡ refused (order w l f d)
unfolding order refused first_failing
order_bad false l f d = refl
order_bad true false f d = refl
order_bad true true false d = refl
order_bad true true true true = refl
order_bad true true true false = refl

refused_not : (n : ℕ) → refused n ≡ 0 → ⊥
unfolding refused
refused_not n = go (eqb n 11) (eqb n 13)
  where
    go : (a b : Bool) → ◌≡◌ {A = ℕ} (cond a 11 (cond b 13 14)) 0 → ⊥
    go true b e = absurd (omega arith)
    go false true e = absurd (omega arith)
    go false false e = absurd (omega arith)

module _ (p o : List ℕ) (s i : ℕ) where
  pub number_good : good_asked s i ≡ true → tables_number p o ≡ keeper_number p o s i
  unfolding keeper_number keeper_tests tables_number tables_tests order
  number_good h = rw h (sym (order_good (tables_whole p o []) (good_layouts p) (good_fids p o []) (all_different p o)))

  pub number_bad : good_asked s i ≡ false → refused (tables_number p o) ≡ keeper_number p o s i
  unfolding keeper_number keeper_tests tables_number tables_tests order
  number_bad h = rw h (sym (order_bad (tables_whole p o []) (good_layouts p) (good_fids p o []) (all_different p o)))

  module _ (h : good_asked s i ≡ false) where
    pub bad_table : Err BadTable ≡ told (tables_number p o) (tt {0}) → 11 ≡ keeper_number p o s i
    unfolding refused
    bad_table k = rw (← number_bad h, ← tables_refused p o BadTable k)

    pub bad_layout : Err BadLayout ≡ told (tables_number p o) (tt {0}) → 13 ≡ keeper_number p o s i
    unfolding refused
    bad_layout k = rw (← number_bad h, ← tables_refused p o BadLayout k)

    pub bad_fid : (told (tables_number p o) (tt {0}) ≡ Err BadTable → ⊥) → (told (tables_number p o) (tt {0}) ≡ Err BadLayout → ⊥) → 14 ≡ keeper_number p o s i
    unfolding refused
    bad_fid j k =
        rw (
          ← number_bad h,
          ne_eqb (tables_number p o) 11 (λ e. j (told_refused (tables_number p o) (tt {0}) BadTable e)),
          ne_eqb (tables_number p o) 13 (λ e. k (told_refused (tables_number p o) (tt {0}) BadLayout e)),
        )

-- ## Exactly

-- none of 11 to 15 applies
pub record AskedPasses (p o : List ℕ) (s i : ℕ) : Type 0 where
  pub tables : Sound p o
  pub fid : good_asked s i ≡ true

module _ (p o : List ℕ) (s i : ℕ) where
  -- 0 is given where none applies
  pub passes_zero : AskedPasses p o s i → keeper_number p o s i ≡ 0
  unfolding Sound
  passes_zero k = sym (number_good p o s i k.fid) ∙ k.tables

  -- and nowhere else
  pub zero_passes : keeper_number p o s i ≡ 0 → AskedPasses p o s i
  unfolding Sound
  zero_passes e = go (good_asked s i) refl
    where
      go : (b : Bool) → good_asked s i ≡ b → AskedPasses p o s i
      go true h = record { tables = number_good p o s i h ∙ e; fid = h }
      go false h = absurd (refused_not (tables_number p o) (number_bad p o s i h ∙ e))
