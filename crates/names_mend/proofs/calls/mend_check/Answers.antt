use mathlib.Core.Path.{◌≡◌, sym, ap, ◌∙◌}
use borrow.Author.Rules.{rules}
use Rattle.std.specs.Prelude.{Err}
use Rattle.refusals.specs.Numbers.{answer}
use native.Mathlib.Omega.{arith}
use Rattle.names.specs.Check.{SoundNames}
use Rattle.names_mend.proofs.CallLaws.{mend_marks, mend_tables, mend_rooms, mend_short, mend_free}
use Rattle.names_mend.proofs.calls.mend_check.Goals as goal

pub returns-then-not-good_marks : goal.returns-then-not-good_marks
returns-then-not-good_marks c =
    let a = c.args in mend_marks a.entries.now a.children.now a.index.now a.room.now a.marks.now a.report.now (sym c.good_marks.ensures ∙ c.if-not-good_marks.true)

pub returns-in_err-check : goal.returns-in_err-check
returns-in_err-check c =
    let a = c.args in
    let e : c.from_residual.result ≡ Err c.in_err-check.field-0.0 = search rules in
    ap answer e ∙ mend_tables a.entries.now a.children.now a.index.now a.room.now a.marks.now a.report.now (sym c.good_marks.ensures ∙ c.if-not-good_marks.false) c.in_err-check.field-0.0 c.in_err-check.ensures

pub has_rooms-requires : goal.has_rooms-requires
unfolding SoundNames
has_rooms-requires c =
    sym c.in_ok-check.ensures

pub returns-then-not-has_rooms : goal.returns-then-not-has_rooms
returns-then-not-has_rooms c =
    let a = c.args in mend_rooms a.entries.now a.children.now a.index.now a.room.now a.marks.now a.report.now (sym c.good_marks.ensures ∙ c.if-not-good_marks.false) c.in_ok-check.ensures (sym c.has_rooms.ensures ∙ c.if-not-has_rooms.true)

pub returns-then-report-lt-REPORT_SIZE : goal.returns-then-report-lt-REPORT_SIZE
returns-then-report-lt-REPORT_SIZE c =
    let a = c.args in mend_short a.entries.now a.children.now a.index.now a.room.now a.marks.now a.report.now (sym c.good_marks.ensures ∙ c.if-not-good_marks.false) c.in_ok-check.ensures (sym c.has_rooms.ensures ∙ c.if-not-has_rooms.false) c.if-report-lt-REPORT_SIZE.true

pub returns : goal.returns
returns c =
    let a = c.args in mend_free a.entries.now a.children.now a.index.now a.room.now a.marks.now a.report.now (sym c.good_marks.ensures ∙ c.if-not-good_marks.false) c.in_ok-check.ensures (sym c.has_rooms.ensures ∙ c.if-not-has_rooms.false) (omega arith)
