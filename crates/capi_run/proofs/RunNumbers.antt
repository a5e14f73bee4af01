-- A run for C, case by case. Assumes nothing.
use Prim.Native.Nat.{ℕ, zero, suc, ◌+◌, ◌≤◌, ◌<◌}
use native.Mathlib.Omega.{arith}
use mathlib.Core.Path.{◌≡◌, sym, ap, ◌∙◌}
use mathlib.Core.List.{List, [], ◌∷◌}
use borrow.Author.Tests.{eq-eqb, ne_eqb, lt-ltb, le-ltb}
use lib.ListN.{length, get_or, set, drop}
use lib.Seq.{sets, drop-cons, drop-nil}
use Rattle.tables.specs.Check.{check_number}
use Rattle.tables.specs.declared.Position.{Position}
use Rattle.rules.specs.declared.Report.{Report}
use Rattle.steps.specs.Ran.{Ran}
use Rattle.engine.specs.RunBytes.{run_bytes}
use Rattle.steps.specs.Ready.{steps_bytes}
use Rattle.capi_tables.specs.Tables.{position_numbers, position_given}
use Rattle.capi_run.specs.Runs.{report_size, report_numbers, Called, unwritten, handed_out, called}

-- ## The report

pub report_put : (l x y : List ℕ) (r : Report) → x ≡ set l 0 r.steps → y ≡ sets x 1 r.counts.of → y ≡ sets l 0 (report_numbers r)
unfolding report_numbers
report_put l x y r p q = rw (q, p)

-- ## The clauses of the contract

abbrev Five : Called → ℕ → List ℕ → List ℕ → List ℕ → List ℕ → Type 0
Five x a p o q r = (a ≡ x.answer) × ((p ≡ x.parents) × ((o ≡ x.objects) × ((q ≡ x.position) × (r ≡ x.report))))

five : {x y : Called} → x ≡ y → Five x y.answer y.parents y.objects y.position y.report
five e = ((λ i. (sym e i).answer), ((λ i. (sym e i).parents), ((λ i. (sym e i).objects), ((λ i. (sym e i).position), (λ i. (sym e i).report)))))

module _ (p o s : List ℕ) (policy most : ℕ) (q r : List ℕ) (n : ℕ) (at : Position) (g : at ≡ position_given q) (e : n ≡ check_number p o s policy at) where
  number_is : n ≡ check_number p o s policy (position_given q)
  number_is = e ∙ ap (check_number p o s policy) g

  is_refused : (n ≡ 0 → ⊥) → called p o s policy most q r ≡ unwritten n p o q r
  unfolding called
  is_refused z = rw (← number_is, ne_eqb n 0 z)

  pub call_refused : (n ≡ 0 → ⊥) → Five (called p o s policy most q r) n p o q r
  unfolding unwritten
  call_refused z = five (is_refused z)

  is_short : n ≡ 0 → length r < report_size → called p o s policy most q r ≡ unwritten 17 p o q r
  unfolding called
  is_short z h = rw (← number_is, eq-eqb n 0 z, lt-ltb (length r) report_size h)

  pub call_short : n ≡ 0 → length r < report_size → Five (called p o s policy most q r) 17 p o q r
  unfolding unwritten
  call_short z h = five (is_short z h)

  is_handed : n ≡ 0 → report_size ≤ length r → called p o s policy most q r ≡ handed_out (run_bytes p o s policy most (position_given q)) q r
  unfolding called
  is_handed z h = rw (← number_is, eq-eqb n 0 z, le-ltb (length r) report_size h)

  steps_are : n ≡ 0 → run_bytes p o s policy most at ≡ steps_bytes p o s policy most at
  unfolding run_bytes steps_bytes
  steps_are z = rw (← e, eq-eqb n 0 z)

  is_done : n ≡ 0 → report_size ≤ length r → called p o s policy most q r ≡ handed_out (steps_bytes p o s policy most at) q r
  is_done z h =
      is_handed z h ∙ ap (λ (a : Position). handed_out (run_bytes p o s policy most a) q r) (sym g)
      ∙ ap (λ (x : Ran). handed_out x q r) (steps_are z)

  pub call_done : n ≡ 0 → report_size ≤ length r → (x : Report) (p' o' q' r' : List ℕ) → x ≡ (steps_bytes p o s policy most at).report →
      p' ≡ (steps_bytes p o s policy most at).parents → o' ≡ (steps_bytes p o s policy most at).objects →
      q' ≡ sets q 0 (position_numbers x.position) → r' ≡ sets r 0 (report_numbers x) →
      Five (called p o s policy most q r) x.answer p' o' q' r'
  unfolding handed_out
  call_done z h x p' o' q' r' a b c d f =
      let k = five (is_done z h) in (
        ap (λ (u : Report). u.answer) a ∙ k.0,
        (
          b ∙ k.1.0,
          (
            c ∙ k.1.1.0,
            (
              d ∙ ap (λ (u : Report). sets q 0 (position_numbers u.position)) a ∙ k.1.1.1.0,
              f ∙ ap (λ (u : Report). sets r 0 (report_numbers u)) a ∙ k.1.1.1.1,
            ),
          ),
        ),
      )
