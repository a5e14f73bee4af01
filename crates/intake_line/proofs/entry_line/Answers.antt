use native.Mathlib.Omega.{arith}
use mathlib.Core.Path.{sym, ◌∙◌}
use Prim.Native.Nat.{◌+◌}
use Rattle.intake_line.proofs.EntryLaws.{step_bad, step_open, step_close_out, step_skip_out, step_take_out, step_open_in, step_close, step_skip, step_twice, step_take}
use Rattle.intake_line.proofs.entry_line.Goals as goal

pub returns-then-mark_of-ne0 : goal.returns-then-mark_of-ne0
returns-then-mark_of-ne0 c =
    let a = c.args in step_twice a.r.from a.r.marks a.s a.r.line.size (a.r.count + 1) c.if-r-ne0-3.true c.in-Takes.k c.in-Takes.is (λ z. c.if-mark_of-ne0.true (c.mark_of.ensures ∙ z))

pub returns-in-Opens : goal.returns-in-Opens
returns-in-Opens c =
    let a = c.args in rw c.no_marks.ensures (step_open a.r.from a.r.marks a.s a.r.line.size (a.r.count + 1) c.if-r-eq0.true c.in-Opens.is (omega arith))

pub returns-in-Closes : goal.returns-in-Closes
returns-in-Closes c =
    let a = c.args in step_close a.r.from a.r.marks a.s a.r.line.size (a.r.count + 1) c.if-r-ne0.true c.in-Closes.is

pub returns-in-Skipped : goal.returns-in-Skipped
returns-in-Skipped c =
    let a = c.args in step_skip a.r.from a.r.marks a.s a.r.line.size (a.r.count + 1) c.if-r-ne0-2.true c.in-Skipped.is

pub returns-else-mark_of-ne0 : goal.returns-else-mark_of-ne0
returns-else-mark_of-ne0 c =
    let a = c.args in step_take a.r.from a.r.marks a.s a.r.line.size (a.r.count + 1) c.if-r-ne0-3.true c.in-Takes.k _ c.in-Takes.is (sym c.mark_of.ensures ∙ c.if-mark_of-ne0.false) c.marks_with.ensures

pub returns-in_default : goal.returns-in_default
returns-in_default c =
    let a = c.args in step_open_in a.r.from a.r.marks a.s a.r.line.size (a.r.count + 1) c.if-r-eq0.false c.in-Opens.is

pub returns-in_default-2 : goal.returns-in_default-2
returns-in_default-2 c =
    let a = c.args in step_close_out a.r.from a.r.marks a.s a.r.line.size (a.r.count + 1) c.if-r-ne0.false c.in-Closes.is

pub returns-in_default-3 : goal.returns-in_default-3
returns-in_default-3 c =
    let a = c.args in step_skip_out a.r.from a.r.marks a.s a.r.line.size (a.r.count + 1) c.if-r-ne0-2.false c.in-Skipped.is

pub returns-in_default-4 : goal.returns-in_default-4
returns-in_default-4 c =
    let a = c.args in step_take_out a.r.from a.r.marks a.s a.r.line.size (a.r.count + 1) c.if-r-ne0-3.false c.in-Takes.k c.in-Takes.is

pub returns-in_default-5 : goal.returns-in_default-5
returns-in_default-5 c =
    let a = c.args in step_bad a.r.from a.r.marks a.s a.r.line.size (a.r.count + 1) c.in_default.is
