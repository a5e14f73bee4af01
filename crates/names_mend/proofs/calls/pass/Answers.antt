use mathlib.Core.Path.{◌≡◌, refl, sym, ap, subst, ◌∙◌}
use borrow.Author.Rules.{rules}
use Rattle.std.specs.Prelude.{Err}
use Rattle.refusals.specs.Numbers.{answer}
use mathlib.Core.Bool.{true}
use mathlib.Core.List.{List}
use Prim.Native.Nat.{ℕ}
use native.Mathlib.Omega.{arith}
use lib.Seq.{length-take-le}
use Rattle.names.specs.Rows.{parse_children}
use Rattle.names.specs.Visible.{max_levels, seen_by, good_marks}
use Rattle.names.specs.Calls.{left, mended_bytes}
use Rattle.names.proofs.SoundLaws.{names_facts}
use Rattle.names_marks.proofs.MarksKept.{judged_good}
use Rattle.names_check.proofs.CallLaws.{refused_not}
use Rattle.names_mend.proofs.CallLaws.{pass_facts, pass_refused, pass_long, judged_front, pass_done}
use Rattle.names_mend.proofs.calls.pass.Goals as goal

pub returns-in_err-pass_check : goal.returns-in_err-pass_check
returns-in_err-pass_check c =
    let a = c.args in
    let x = c.in_err-pass_check.field-0.0 in
    let e : c.from_residual.result ≡ Err x = search rules in
    ap (λ (n : ℕ). left n a.entries.now a.children.now a.marks.now a.report.now) (ap answer e)
    ∙ pass_refused a.entries.now a.children.now a.index.now a.room.now a.marks.now a.report.now _ c.in_err-pass_check.ensures (refused_not x)

pub judge_rows-requires : goal.judge_rows-requires
judge_rows-requires c =
    let a = c.args in
    let f = pass_facts a.entries.now a.children.now a.index.now a.room.now a.marks.now a.report.now (sym c.in_ok-pass_check.ensures) in
    ((names_facts a.entries.now a.children.now f.sound).children_whole.few, omega (arith, f.index_long), omega (arith, f.room_long), f.marks_long)

pub returns-in_err-judge_rows : goal.returns-in_err-judge_rows
returns-in_err-judge_rows c =
    let a = c.args in
    let k = c.judge_rows in
    let x = c.in_err-judge_rows.field-0.0 in
    let e : c.from_residual-in_err-judge_rows.result ≡ Err x = search rules in
    ap (λ (n : ℕ). left n a.entries.now a.children.now k.new.marks a.report.now) (ap answer e)
    ∙ pass_long a.entries.now a.children.now a.index.now a.room.now a.marks.now a.report.now _ c.in_ok-pass_check.ensures refl _ _ k.ensures.0 k.ensures.1 x c.in_err-judge_rows.was

pub slice_bounds-mend_told-end : goal.slice_bounds-mend_told-end
slice_bounds-mend_told-end c =
    let a = c.args in
    let f = pass_facts a.entries.now a.children.now a.index.now a.room.now a.marks.now a.report.now (sym c.in_ok-pass_check.ensures) in
    omega (arith, f.marks_long, c.judge_rows.auto.marks)

pub slice_bounds-mend_told-end-2 : goal.slice_bounds-mend_told-end-2
slice_bounds-mend_told-end-2 c =
    let a = c.args in
    let f = pass_facts a.entries.now a.children.now a.index.now a.room.now a.marks.now a.report.now (sym c.in_ok-pass_check.ensures) in
    let k = c.judge_rows in
    sym (length-take-le _ k.new.marks (omega (arith, f.marks_long, k.auto.marks)))

pub mend_told-requires : goal.mend_told-requires
mend_told-requires c =
    let a = c.args in
    let f = pass_facts a.entries.now a.children.now a.index.now a.room.now a.marks.now a.report.now (sym c.in_ok-pass_check.ensures) in
    let k = c.judge_rows in
    let m = judged_front a.entries.now a.children.now a.index.now a.room.now a.marks.now a.report.now _ c.in_ok-pass_check.ensures refl _ _ k.ensures.0 k.ensures.1 c.in_ok-judge_rows.was f.marks_long in
    let cs = parse_children a.children.now in
    (f.sound, subst (λ (l : List ℕ). good_marks l cs ≡ true) (sym m) (judged_good max_levels cs), omega (arith, f.index_long, k.auto.index), omega (arith, f.room_long, k.auto.room), f.report_long)

pub returns : goal.returns
returns c =
    let a = c.args in
    let f = pass_facts a.entries.now a.children.now a.index.now a.room.now a.marks.now a.report.now (sym c.in_ok-pass_check.ensures) in
    let k = c.judge_rows in
    let m = judged_front a.entries.now a.children.now a.index.now a.room.now a.marks.now a.report.now _ c.in_ok-pass_check.ensures refl _ _ k.ensures.0 k.ensures.1 c.in_ok-judge_rows.was f.marks_long in
    let cs = parse_children a.children.now in
    c.mend_told.ensures k.new.marks
    ∙ ap (λ (l : List ℕ). mended_bytes (seen_by l cs) a.entries.now a.children.now k.new.marks a.report.now) m
    ∙ pass_done a.entries.now a.children.now a.index.now a.room.now a.marks.now a.report.now _ c.in_ok-pass_check.ensures refl _ _ k.ensures.0 k.ensures.1 c.in_ok-judge_rows.was
