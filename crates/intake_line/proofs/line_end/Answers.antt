use mathlib.Core.Path.{ap, ◌∙◌}
use Rattle.std.specs.Prelude.{Ok}
use Rattle.std.proofs.lemmas.Result.{err_from_is_err_and}
use Rattle.intake_line.proofs.TurnLaws.{turn_next, turn_stop, turn_close}
use Rattle.intake_line.proofs.line_end.Goals as goal

pub returns-in_err-from : goal.returns-in_err-from
returns-in_err-from c =
    let a = c.args in
    let p = err_from_is_err_and c.from_residual.result c.from_residual.ensures.1 in
    rw (p.1, p.2) (turn_stop a.buf.now a.r c.requires _ c.line_says-said.ensures _ c.entry_line.ensures _ c.in_err-from.was)

pub returns-in_default : goal.returns-in_default
returns-in_default c =
    let a = c.args in
    turn_close a.buf.now a.r c.requires _ c.line_says-said.ensures _ c.entry_line.ensures (c.in_ok-from.was ∙ ap Ok c.in_default.is)

pub returns : goal.returns
returns c =
    let a = c.args in
    turn_next a.buf.now a.r c.requires _ c.line_says-said.ensures _ c.entry_line.ensures _ _ _ (c.in_ok-from.was ∙ ap Ok c.in-Some.is) c.new_line.ensures
