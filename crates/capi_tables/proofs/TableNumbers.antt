-- Positions, start and step count as numbers, case by case. Assumes nothing.
use mathlib.Core.Path.{◌≡◌, refl, sym, ap, ◌∙◌}
use mathlib.Core.List.{List}
use mathlib.Core.Bool.{Bool, true, false, cond, true≢false}
use Prim.Native.Nat.{ℕ, ◌≤◌, ◌<◌}
use borrow.Author.Tests.{eq-eqb, ne_eqb, eqb-true}
use native.Mathlib.Omega.{arith}
use lib.Dec.{eqb}
use lib.ListN.{length, get_or, set}
use lib.Seq.{sets}
use Rattle.std.specs.Prelude.{Result, Ok, Err}
use Rattle.refusals.specs.Numbers.{number}
use Rattle.refusals.specs.declared.Refusal.{Refusal}
use Rattle.tables.specs.Records.{Tables}
use Rattle.tables.specs.Positions.{place, is_position, is_end}
use Rattle.tables.specs.Answers.{start_number, steps_number}
use Rattle.tables.proofs.CheckLaws.{refusal_not}
use Rattle.tables.specs.declared.Position.{Position}
use Rattle.capi_out.specs.Out.{out_answer, out_numbers}
use Rattle.capi_tables.specs.Tables.{position_numbers, position_given, start_numbers, steps_numbers}
use Rattle.capi_out.proofs.OutLaws.{out_refused, out_short, out_done}

-- ## The position

pub given_other : (l : List ℕ) → (length l ≡ 3 → ⊥) → place 0 0 0 ≡ position_given l
unfolding position_given
given_other l h = rw (ne_eqb _ _ h)

pub given_three : (l : List ℕ) → length l ≡ 3 → place (get_or l 0 0) (get_or l 1 0) (get_or l 2 0) ≡ position_given l
unfolding position_given
given_three l h = rw (eq-eqb _ _ h)

-- a position that exists was handed in as three numbers
pub given_is : (T : Tables) (l : List ℕ) (at : Position) → at ≡ position_given l → is_position T at ≡ true → length l ≡ 3
unfolding position_given is_position is_end place
given_is T l at g h = go (eqb (length l) 3) refl (ap (is_position T) (sym g) ∙ h)
  where
    go : (b : Bool) → eqb (length l) 3 ≡ b → is_position T (cond b (place (get_or l 0 0) (get_or l 1 0) (get_or l 2 0)) (place 0 0 0)) ≡ true → length l ≡ 3
    go true e k = eqb-true (length l) 3 e
    go false e k = absurd (true≢false (sym k))

-- ## The start

module _ (A : Result Position Refusal) (out : List ℕ) where
  -- the answer, and what out holds then
  abbrev pub StartTold : ℕ → List ℕ → Type 0
  StartTold n x = (n ≡ out_answer (start_number A) (start_numbers A) out) × (x ≡ out_numbers (start_number A) (start_numbers A) out)

  pub start_none : (e : Refusal) → Err e ≡ A → StartTold (number e) out
  unfolding start_number
  start_none e h = out_refused (start_number A) (start_numbers A) out (number e) (rw (← h)) (refusal_not e)

  module _ (p : Position) (e : Ok p ≡ A) where
    zero_start : start_number A ≡ 0
    unfolding start_number
    zero_start = rw (← e)

    three : length (start_numbers A) ≡ 3
    unfolding start_numbers position_numbers
    three = rw (← e)

    pub start_short : length out < 3 → StartTold 17 out
    start_short k = out_short (start_number A) (start_numbers A) out zero_start (rw three k)

    pub start_done : (x : List ℕ) → 3 ≤ length out → x ≡ sets out 0 (position_numbers p) → StartTold 0 x
    unfolding start_numbers
    start_done x k q = out_done (start_number A) (start_numbers A) out x zero_start (rw three k) (rw (← e) q)

-- ## The count of steps

module _ (A : Result ℕ Refusal) (out : List ℕ) where
  abbrev pub StepsTold : ℕ → List ℕ → Type 0
  StepsTold n x = (n ≡ out_answer (steps_number A) (steps_numbers A) out) × (x ≡ out_numbers (steps_number A) (steps_numbers A) out)

  pub steps_none : (e : Refusal) → Err e ≡ A → StepsTold (number e) out
  unfolding steps_number
  steps_none e h = out_refused (steps_number A) (steps_numbers A) out (number e) (rw (← h)) (refusal_not e)

  module _ (n : ℕ) (e : Ok n ≡ A) where
    zero_steps : steps_number A ≡ 0
    unfolding steps_number
    zero_steps = rw (← e)

    one : length (steps_numbers A) ≡ 1
    unfolding steps_numbers
    one = rw (← e)

    pub steps_short : length out < 1 → StepsTold 17 out
    steps_short k = out_short (steps_number A) (steps_numbers A) out zero_steps (rw one k)

    pub steps_done : (x : List ℕ) → 1 ≤ length out → x ≡ set out 0 n → StepsTold 0 x
    unfolding steps_numbers
    steps_done x k q = out_done (steps_number A) (steps_numbers A) out x zero_steps (rw one k) (rw (← e) q)
