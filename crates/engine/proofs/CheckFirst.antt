-- The check first: a run call that it refuses, and one that it lets through to the steps. Assumes nothing.
use Prim.Native.Nat.{ℕ}
use mathlib.Core.Path.{◌≡◌, ap, ◌∙◌}
use mathlib.Core.List.{List}
use borrow.Author.Tests.{eq-eqb, ne_eqb}
use Rattle.std.specs.Prelude.{Result}
use Rattle.refusals.specs.Numbers.{answer, told}
use Rattle.refusals.specs.declared.Refusal.{Refusal}
use Rattle.tables.specs.Check.{check_number}
use Rattle.tables.proofs.CheckLaws.{check_told}
use Rattle.tables.specs.declared.Position.{Position}
use Rattle.rules.specs.Runs.{no_counts}
use Rattle.rules.specs.declared.Counts.{Counts}
use Rattle.steps.specs.Ready.{steps_bytes}
use Rattle.steps.proofs.RunLaws.{ends}
use Rattle.engine.specs.RunBytes.{refused, run_bytes}

module _ (p o s : List ℕ) (policy most n : ℕ) (at : Position) (e : n ≡ check_number p o s policy at) where
  pub run_refused : (n ≡ 0 → ⊥) → (c : Counts) → c ≡ no_counts → run_bytes p o s policy most at ≡ ends n 0 c at p o
  unfolding run_bytes refused
  run_refused z c f = rw (← e, ne_eqb n 0 z, f)

  pub run_accepted : n ≡ 0 → run_bytes p o s policy most at ≡ steps_bytes p o s policy most at
  unfolding run_bytes steps_bytes
  run_accepted z = rw (← e, eq-eqb n 0 z)

-- the number of what the check says
pub check_answer : (p o s : List ℕ) (policy : ℕ) (at : Position) (r : Result (Unit {0}) Refusal) → r ≡ told (check_number p o s policy at) (tt {0}) →
    answer r ≡ check_number p o s policy at
check_answer p o s policy at r h = ap answer h ∙ check_told p o s policy at
