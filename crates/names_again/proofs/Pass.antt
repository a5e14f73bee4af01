-- What is promised of the calls that mend, proved. Assumes nothing.
use mathlib.Core.Path.{◌≡◌, refl, sym, ap, ◌∙◌}
use mathlib.Core.Bool.{Bool, true, false, cond, true≢false}
use mathlib.Core.List.{List}
use Prim.Native.Nat.{ℕ, ◌≤◌}
use native.Mathlib.Omega.{arith}
use borrow.Author.Tests.{eqb-true, eqb-false}
use lib.Dec.{eqb}
use lib.ListN.{length, take, length-map}
use lib.Seq.{sets, take_at}
use Rattle.wire.proofs.NumberLaws.{Bytes}
use Rattle.wire.proofs.Splice.{sets_front}
use Rattle.tables.specs.Check.{first_failing}
use Rattle.names.specs.Rows.{child_rows, parse_entries, parse_children}
use Rattle.names.specs.Visible.{max_levels, mark_of, judged, seen_by}
use Rattle.names.specs.Calls.{Left, roomy, left, mended_bytes, mend_tests, mend_call, pass_tests, pass_call}
use Rattle.names.proofs.SoundLaws.{children_many, parsed_children}
use Rattle.names_marks.proofs.MarksKept.{judged_good}
use Rattle.names_again.specs.Pass.{MarksAreClimbs, mended_under, UnderMarks, EveryUnderMarks, went, AsLent, CallAgain, MendCalled, EveryMendCall, lent_marks, Passed, EveryPass}
use Rattle.names_again.proofs.ClimbLaws.{marks_are_climbs}
use Rattle.names_again.proofs.UnderLaws.{every_under_marks}
use Rattle.names_again.proofs.RefusalLaws.{mended_went, mend_went, pass_went, mend_lent, pass_lent, roomy_same, mend_free}

-- what was mended can be mended again under the same marks
call_again : (entries children index room marks report : List ℕ) (l : Left) → UnderMarks entries children marks report l →
    roomy entries children index ≡ true → roomy entries children room ≡ true → CallAgain entries index room marks l
unfolding CallAgain mend_call mended_under
call_again entries children index room marks report l u i r a out k =
    let p : length (parse_entries l.entries) ≡ length (parse_entries entries) = ap length u.bytes.entries_say ∙ u.mending.entries_length in
    let q : length (parse_children l.children) ≡ length (parse_children children) = ap length u.bytes.children_say ∙ u.mending.children_length in
    let n : first_failing (mend_tests l.entries l.children index room marks out) ≡ 0 =
    mend_free l.entries l.children index room marks out u.bytes.sound u.bytes.marked
    (roomy_same entries children l.entries l.children index p q ∙ i) (roomy_same entries children l.entries l.children room p q ∙ r) k in
    rw n (u.again a marks out)

-- the marks that are judged stand in front
marks_in_front : (levels : ℕ) (children marks : List ℕ) → length (child_rows children) ≤ length marks →
    take (length (child_rows children)) (sets marks 0 (judged levels (parse_children children))) ≡ judged levels (parse_children children)
unfolding judged
marks_in_front levels children marks h =
    let js : List ℕ = judged levels (parse_children children) in
    let n : length js ≡ length (child_rows children) =
    length-map (parse_children children) (mark_of levels (parse_children children)) ∙ parsed_children children ∙ sym (children_many children) in
    rw (sets_front js marks (omega arith)) (take_at js _ (length (child_rows children)) n)

module _ (entries children index room marks report : List ℕ) (be : Bytes entries) (bc : Bytes children) where
  -- ## lfsck_names_mend, by its refusal n

  mend_called : (n : ℕ) → first_failing (mend_tests entries children index room marks report) ≡ n → (b : Bool) → eqb n 0 ≡ b →
      MendCalled entries children index room marks report
      (cond b (mended_bytes (seen_by marks (parse_children children)) entries children marks report) (left n entries children marks report))
  unfolding EveryUnderMarks CallAgain AsLent mended_bytes left went
  mend_called n p true e =
      let f = mend_lent entries children index room marks report (ap went (p ∙ eqb-true n 0 e)) in
      let u = every_under_marks entries children marks report be bc f.sound f.marked marks in
      record {
        under = λ w. u;
        again = call_again entries children index room marks report _ u f.index_roomy f.room_roomy;
        marks_stay = refl;
        refused = λ w. absurd (true≢false (sym (mended_went (seen_by marks (parse_children children)) (parse_entries entries) (parse_children children)) ∙ w));
      }
  mend_called n p false e =
      let no : (n ≡ 0 → ⊥) = eqb-false n 0 e in
      record {
        under = λ w. absurd (no (sym p ∙ mend_went entries children index room marks report (ap went p ∙ w)));
        again = λ a r k. absurd (no a);
        marks_stay = refl;
        refused = λ w. refl;
      }

  -- ## lfsck_names_pass, by its refusal n

  passed : (n : ℕ) → first_failing (pass_tests entries children index room marks report) ≡ n → (b : Bool) → eqb n 0 ≡ b →
      Passed entries children index room marks report
      (cond b
      (mended_bytes (seen_by (judged max_levels (parse_children children)) (parse_children children)) entries children
      (sets marks 0 (judged max_levels (parse_children children))) report)
      (left n entries children marks report))
  unfolding EveryUnderMarks MarksAreClimbs CallAgain AsLent lent_marks mended_bytes left went
  passed n p true e =
      let js : List ℕ = judged max_levels (parse_children children) in
      let f = pass_lent entries children index room marks report (ap went (p ∙ eqb-true n 0 e)) in
      let u = every_under_marks entries children js report be bc f.sound (judged_good max_levels (parse_children children)) (sets marks 0 js) in
      record {
        under = λ w. u;
        visible = marks_are_climbs max_levels (parse_children children);
        climbed = λ w. f.climbed;
        marks_left = λ w. refl;
        marks_front = λ w. marks_in_front max_levels children marks f.marks_long;
        again = call_again entries children index room js report _ u f.index_roomy f.room_roomy;
        refused = λ w. absurd (true≢false (sym (mended_went (seen_by js (parse_children children)) (parse_entries entries) (parse_children children)) ∙ w));
      }
  passed n p false e =
      let no : (n ≡ 0 → ⊥) = eqb-false n 0 e in
      let nay : (went n ≡ true → ⊥) = λ w. no (sym p ∙ pass_went entries children index room marks report (ap went p ∙ w)) in
      record {
        under = λ w. absurd (nay w);
        visible = marks_are_climbs max_levels (parse_children children);
        climbed = λ w. absurd (nay w);
        marks_left = λ w. absurd (nay w);
        marks_front = λ w. absurd (nay w);
        again = λ a r k. absurd (no a);
        refused = λ w. refl;
      }

pub every_mend_call : EveryMendCall
unfolding EveryMendCall mend_call
every_mend_call entries children index room marks report be bc =
    let n : ℕ = first_failing (mend_tests entries children index room marks report) in
    mend_called entries children index room marks report be bc n refl (eqb n 0) refl

pub every_pass : EveryPass
unfolding EveryPass pass_call
every_pass entries children index room marks report be bc =
    let n : ℕ = first_failing (pass_tests entries children index room marks report) in
    passed entries children index room marks report be bc n refl (eqb n 0) refl
