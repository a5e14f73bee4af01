-- Lists of `lfsck_run` calls: the run calls that they make. Document 01, "Steps and positions": "a refused one .. changes nothing".
use Rattle.std.specs.Prelude.{ℕ, ◌≡◌, Bool, true, false, cond, List, [], ◌∷◌, eqb, ltb, length}
use Rattle.theorems.specs.Calls.{Lent, RunCall, call, number, Accepted, ran, leaves, after}
use Rattle.capi_run.specs.Runs.{report_size, Called, unwritten, called}
use Rattle.capi_tables.specs.Tables.{position_given}

-- what a call of `lfsck_run` is lent beside the tables, and its numbers
pub record NumberCall : Type 0 where
  pub policy : ℕ
  pub reserve : List ℕ
  pub steps : ℕ
  pub position : List ℕ
  pub report : List ℕ

-- what it answers and how it leaves what is lent, for every input
unfoldable pub answers : Lent → NumberCall → Called
answers t c = called t.parents t.objects c.reserve c.policy c.steps c.position c.report

unfoldable pub leaves_of : Lent → NumberCall → Lent
leaves_of t c = record { parents = (answers t c).parents; objects = (answers t c).objects }

-- "each call gets the tables as the last one left them"
unfoldable pub after_of : Lent → List NumberCall → Lent
after_of t [] = t
after_of t (c ∷ cs) = after_of (leaves_of t c) cs

-- the run call that it asks for
unfoldable pub asked : NumberCall → RunCall
asked c = call c.policy c.reserve c.steps (position_given c.position)

-- "17 (after 11 to 16) where the report has fewer than 9"
unfoldable pub short : NumberCall → Bool
short c = ltb (length c.report) report_size

-- the run calls of a list: those that have room for the report
unfoldable pub run_calls : List NumberCall → List RunCall
run_calls [] = []
run_calls (c ∷ cs) = cond (short c) (run_calls cs) (asked c ∷ run_calls cs)

-- what holds of every call of `lfsck_run`
pub record EveryNumberCall (t : Lent) (c : NumberCall) : Type 0 where
  -- with too short a report it answers 17, or the check's number where that isn't 0, and leaves all that is lent as it was
  pub unchanged : short c ≡ true →
      answers t c ≡ unwritten (cond (eqb (number t (asked c)) 0) 17 (number t (asked c))) t.parents t.objects c.position c.report
  -- with room for the report it is the run call: answer and tables, and the position where the check accepts it
  pub answer : short c ≡ false → (answers t c).answer ≡ (ran t (asked c)).report.answer
  pub tables : short c ≡ false → leaves_of t c ≡ leaves t (asked c)
  pub position : short c ≡ false → Accepted t (asked c) → position_given (answers t c).position ≡ (ran t (asked c)).report.position

-- and of every list of them: the tables are those after its run calls; the calls with too short a report drop out
unfoldable pub DropOut : Lent → List NumberCall → Type 0
DropOut t cs = after_of t cs ≡ after t (run_calls cs)
