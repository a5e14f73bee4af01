-- What the four calls answer and leave in what they are lent, refusals first. Document 02, 2026-06.
use Rattle.std.specs.Prelude.{ℕ, ◌+◌, ◌*◌, Bool, cond, not, ◌&&◌, List, [], ◌∷◌, length, leb, eqb}
use Rattle.std.proofs.lemmas.List.Edits.{sets}
use Rattle.fid.specs.declared.MdtFid.{MdtFid}
use Rattle.tables.specs.Check.{Test, test, first_failing}
use Rattle.index.specs.Entries.{place_size}
use Rattle.names.specs.Rows.{entry_rows, child_rows, parse_entries, parse_children, render_entries, render_children}
use Rattle.names.specs.Check.{names_whole, children_there, names_good}
use Rattle.names.specs.Findings.{findings}
use Rattle.names.specs.Visible.{max_levels, long_climb, too_long, judged, seen_by, good_marks}
use Rattle.names.specs.Mend.{Mended, Report, mended}

-- what each call leaves in what it is lent; index and room hold nothing after
pub record Left : Type 0 where
  pub answer : ℕ
  pub entries : List ℕ
  pub children : List ℕ
  pub marks : List ℕ
  pub out : List ℕ

-- the places that an index and a room need: one for each row of both tables
unfoldable pub index_places : List ℕ → List ℕ → ℕ
index_places entries children = length (entry_rows entries) + length (child_rows children)

unfoldable pub roomy : List ℕ → List ℕ → List ℕ → Bool
roomy entries children room = leb (place_size * index_places entries children) (length room)

-- ## lfsck_names_judge

module _ (entries children index room marks : List ℕ) where
  unfoldable pub judge_tests : List Test
  judge_tests =
      test 11 (names_whole entries children) ∷ test 16 (children_there entries children) ∷ test 31 (names_good entries children)
      ∷ test 17 (roomy entries children index && roomy entries children room && leb (length (child_rows children)) (length marks))
      ∷ test long_climb (not (too_long max_levels (parse_children children))) ∷ []

  unfoldable pub judge_number : ℕ
  judge_number = first_failing judge_tests

  unfoldable pub judge_marks : List ℕ
  judge_marks = cond (eqb judge_number 0) (sets marks 0 (judged max_levels (parse_children children))) marks

-- ## lfsck_names_find

module _ (entries children out : List ℕ) where
  -- two numbers an entry
  unfoldable pub find_tests : List Test
  find_tests =
      test 11 (names_whole entries children) ∷ test 16 (children_there entries children) ∷ test 31 (names_good entries children)
      ∷ test 17 (leb (2 * length (entry_rows entries)) (length out)) ∷ []

  unfoldable pub find_number : ℕ
  find_number = first_failing find_tests

  unfoldable pub find_out : List ℕ
  find_out = cond (eqb find_number 0) (sets out 0 (findings (parse_children children) (parse_entries entries))) out

-- ## lfsck_names_mend

-- the numbers of a report
abbrev pub report_size : ℕ
report_size = 5

unfoldable pub report_numbers : Report → List ℕ
report_numbers r = r.taken ∷ r.written ∷ r.appended ∷ r.removed ∷ r.reached ∷ []

-- an answer, with what is left in entries, children, marks and report
unfoldable pub left : ℕ → List ℕ → List ℕ → List ℕ → List ℕ → Left
left n entries children marks report = record { answer = n; entries = entries; children = children; marks = marks; out = report }

-- a mending of the bytes: tables and report are written, with 38 too
unfoldable pub mended_bytes : (MdtFid → Bool) → List ℕ → List ℕ → List ℕ → List ℕ → Left
mended_bytes seen entries children marks report =
    let m : Mended = mended seen (parse_entries entries) (parse_children children) in
    left m.answer (render_entries m.entries) (render_children m.children) marks (sets report 0 (report_numbers m.report))

module _ (entries children index room marks report : List ℕ) where
  unfoldable pub mend_tests : List Test
  mend_tests =
      test 11 (names_whole entries children && good_marks marks (parse_children children)) ∷ test 16 (children_there entries children)
      ∷ test 31 (names_good entries children)
      ∷ test 17 (roomy entries children index && roomy entries children room && leb report_size (length report)) ∷ []

  unfoldable pub mend_call : Left
  mend_call =
      let n : ℕ = first_failing mend_tests in
      cond (eqb n 0) (mended_bytes (seen_by marks (parse_children children)) entries children marks report)
      (left n entries children marks report)

  -- ## lfsck_names_pass: judging, then mending under its marks

  unfoldable pub pass_tests : List Test
  pass_tests =
      test 11 (names_whole entries children) ∷ test 16 (children_there entries children) ∷ test 31 (names_good entries children)
      ∷ test 17 (roomy entries children index && roomy entries children room && leb (length (child_rows children)) (length marks)
      && leb report_size (length report))
      ∷ test long_climb (not (too_long max_levels (parse_children children))) ∷ []

  unfoldable pub pass_call : Left
  pass_call =
      let n : ℕ = first_failing pass_tests in
      let js : List ℕ = judged max_levels (parse_children children) in
      cond (eqb n 0) (mended_bytes (seen_by js (parse_children children)) entries children (sets marks 0 js) report)
      (left n entries children marks report)
