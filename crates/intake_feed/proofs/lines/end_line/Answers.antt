use mathlib.Core.Path.{ap, ◌∙◌}
use Rattle.std.specs.Prelude.{Ok}
use Rattle.intake_feed.proofs.LineLaws.{ended_next, ended_stop, ended_close}
use Rattle.intake_feed.proofs.lines.end_line.Goals as goal

pub returns-in-Ok-Some : goal.returns-in-Ok-Some
returns-in-Ok-Some c =
    let a = c.args in
    ended_next a.state.now a.file.now a.k a.parents.now a.objects.now c.requires _ c.line_end.ensures _ (c.in-Ok-Some.is ∙ ap Ok c.in-Ok-Some.field-0-is)

pub returns-in-Err : goal.returns-in-Err
returns-in-Err c =
    let a = c.args in
    ended_stop a.state.now a.file.now a.k a.parents.now a.objects.now c.requires _ c.line_end.ensures _ _ c.in-Err.is c.stopped.ensures

pub returns-in-Ok-None : goal.returns-in-Ok-None
returns-in-Ok-None c =
    let a = c.args in
    ended_close a.state.now a.file.now a.k a.parents.now a.objects.now c.requires _ c.line_end.ensures _ _ _ (c.in-Ok-None.is ∙ ap Ok c.in-Ok-None.field-0-is) c.close_line.ensures
