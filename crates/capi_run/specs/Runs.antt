-- A run for C: the position in and out, the report as numbers.
use Rattle.std.specs.Prelude.{ℕ, ◌+◌, List, ◌∷◌, cond, eqb, ltb, length}
use Rattle.std.proofs.lemmas.List.Edits.{sets}
use Rattle.tables.specs.Check.{check_number}
use Rattle.rules.specs.Runs.{repair_kinds}
use Rattle.rules.specs.declared.Report.{Report}
use Rattle.steps.specs.Ran.{Ran}
use Rattle.engine.specs.RunBytes.{run_bytes}
use Rattle.capi_tables.specs.Tables.{position_numbers, position_given}

-- "steps done, then the repairs of SELF, MULTIPLE, DANGLING, BLANK, UNMATCHED, OWNER, EMPTY, ORPHAN", then of WRONG-OST
abbrev pub report_size : ℕ
report_size = 1 + repair_kinds

unfoldable pub report_numbers : Report → List ℕ
report_numbers r = r.steps ∷ r.counts.of

-- what a call answers and how it leaves what is lent
pub record Called : Type 0 where
  pub answer : ℕ
  pub parents : List ℕ
  pub objects : List ℕ
  pub position : List ℕ
  pub report : List ℕ

-- "With an answer of 11 to 17 nothing lent is written, the report and the position included"
unfoldable pub unwritten : ℕ → List ℕ → List ℕ → List ℕ → List ℕ → Called
unwritten n parents objects position report =
    record { answer = n; parents = parents; objects = objects; position = position; report = report }

unfoldable pub handed_out : Ran → List ℕ → List ℕ → Called
handed_out x position report =
    record {
      answer = x.report.answer;
      parents = x.parents;
      objects = x.objects;
      position = sets position 0 (position_numbers x.report.position);
      report = sets report 0 (report_numbers x.report);
    }

-- "16 where the position is not 3 numbers, and 17 (after 11 to 16) where the report has fewer than 9"
unfoldable pub called : List ℕ → List ℕ → List ℕ → ℕ → ℕ → List ℕ → List ℕ → Called
called parents objects reserve policy most position report =
    cond (eqb (check_number parents objects reserve policy (position_given position)) 0)
    (cond (ltb (length report) report_size)
    (unwritten 17 parents objects position report)
    (handed_out (run_bytes parents objects reserve policy most (position_given position)) position report))
    (unwritten (check_number parents objects reserve policy (position_given position)) parents objects position report)
