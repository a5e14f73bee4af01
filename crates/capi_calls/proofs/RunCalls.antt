-- `lfsck_run` in a list: with room for the report it is a run call, and without it drops out. Assumes nothing.
use Prim.Native.Nat.{ℕ}
use native.Mathlib.Omega.{arith}
use mathlib.Core.Path.{◌≡◌, refl, ap, ◌∙◌}
use mathlib.Core.Bool.{Bool, true, false, cond}
use mathlib.Core.List.{List, [], ◌∷◌}
use borrow.Author.Tests.{eq-eqb}
use lib.Dec.{eqb}
use lib.ListN.{length}
use lib.Seq.{sets}
use Rattle.tables.specs.Bytes.{parse}
use Rattle.tables.specs.Check.{check_number}
use Rattle.tables.specs.Positions.{place}
use Rattle.tables.specs.declared.Position.{Position}
use Rattle.rules.specs.Runs.{run}
use Rattle.rules.specs.Settings.{settings_of}
use Rattle.steps.specs.Ran.{Ran, rendered}
use Rattle.engine.specs.RunBytes.{refused, run_bytes}
use Rattle.theorems.specs.Calls.{Lent, number, Accepted, ran, left, leaves, after}
use Rattle.theorems.proofs.EveryRun.{parts}
use Rattle.capi_tables.specs.Tables.{position_numbers, position_given}
use Rattle.capi_run.specs.Runs.{Called, unwritten, handed_out, called}
use Rattle.capi_calls.specs.Lists.{NumberCall, answers, leaves_of, after_of, asked, short, run_calls, EveryNumberCall, DropOut}
use Rattle.capi_tables.proofs.TableNumbers.{given_is}

-- three numbers, written over three
put_three : (l : List ℕ) (p : Position) → length l ≡ 3 → position_given (sets l 0 (position_numbers p)) ≡ p
unfolding position_given position_numbers place
put_three [] p e = absurd (omega arith)
put_three (a ∷ []) p e = absurd (omega arith)
put_three (a ∷ b ∷ []) p e = absurd (omega arith)
put_three (a ∷ b ∷ c ∷ []) p e = refl
put_three (a ∷ b ∷ c ∷ d ∷ l) p e = absurd (omega arith)

abbrev tables_of_lem : Called → Lent
tables_of_lem x = record { parents = x.parents; objects = x.objects }

module _ (t : Lent) (c : NumberCall) where
  abbrev n : ℕ
  n = check_number t.parents t.objects c.reserve c.policy (position_given c.position)

  -- the run by the check's answer
  abbrev by : Bool → Ran
  by b =
      cond b (rendered (run (settings_of c.policy c.reserve) c.steps (parse t.parents t.objects) (position_given c.position)))
      (refused n t.parents t.objects (position_given c.position))

  is_short : short c ≡ true → answers t c ≡ unwritten (cond (eqb (number t (asked c)) 0) 17 (number t (asked c))) t.parents t.objects c.position c.report
  unfolding answers called number asked short
  is_short h = rw h (go (eqb n 0))
    where
      go : (b : Bool) →
          cond b (unwritten 17 t.parents t.objects c.position c.report) (unwritten n t.parents t.objects c.position c.report)
          ≡ unwritten (cond b 17 n) t.parents t.objects c.position c.report
      go true = refl
      go false = refl

  has_room : short c ≡ false →
      answers t c ≡ cond (eqb n 0) (handed_out (by (eqb n 0)) c.position c.report) (unwritten n t.parents t.objects c.position c.report)
  unfolding answers called run_bytes short
  has_room h = rw h

  same_answer : (b : Bool) →
      (cond b (handed_out (by b) c.position c.report) (unwritten n t.parents t.objects c.position c.report)).answer ≡ (by b).report.answer
  unfolding handed_out unwritten refused
  same_answer true = refl
  same_answer false = refl

  same_tables : (b : Bool) →
      tables_of_lem (cond b (handed_out (by b) c.position c.report) (unwritten n t.parents t.objects c.position c.report)) ≡ left (by b)
  unfolding handed_out unwritten refused left
  same_tables true = refl
  same_tables false = refl

  -- the position that an accepted call leaves
  left_position : short c ≡ false → Accepted t (asked c) → position_given (answers t c).position ≡ (ran t (asked c)).report.position
  unfolding Accepted number asked ran run_bytes handed_out
  left_position h a =
      ap (λ (x : Called). position_given x.position) (has_room h)
      ∙ rw (eq-eqb n 0 a) (put_three c.position (by true).report.position (given_is (parse t.parents t.objects) c.position (position_given c.position) refl (parts t (asked c) a).position))

  pub every_number_call : EveryNumberCall t c
  unfolding leaves_of leaves left asked ran run_bytes
  every_number_call =
      record {
        unchanged = is_short;
        answer = λ h. ap (λ (x : Called). x.answer) (has_room h) ∙ same_answer (eqb n 0);
        tables = λ h. ap tables_of_lem (has_room h) ∙ same_tables (eqb n 0);
        position = left_position;
      }

pub drop_out : (t : Lent) (cs : List NumberCall) → DropOut t cs
unfolding DropOut after_of after run_calls leaves_of unwritten
drop_out t [] = refl
drop_out t (c ∷ cs) = go (short c) refl (λ u. drop_out u cs)
  where
    go : (b : Bool) → short c ≡ b → ((u : Lent) → DropOut u cs) →
        after_of (leaves_of t c) cs ≡ after t (cond b (run_calls cs) (asked c ∷ run_calls cs))
    go true e ih =
        ap (λ (x : Called). after_of (tables_of_lem x) cs) ((every_number_call t c).unchanged e) ∙ ih t
    go false e ih =
        ih (leaves_of t c) ∙ ap (λ (u : Lent). after u (run_calls cs)) ((every_number_call t c).tables e)
