use Rattle.intake_feed.proofs.LineLaws.{closed_row, closed_stop}
use Rattle.intake_feed.proofs.lines.close_line.Goals as goal

pub returns-in-Ok : goal.returns-in-Ok
returns-in-Ok c =
    let p = c in let a = p.args in
    closed_row a.state.now a.file.now a.k a.parents.now a.objects.now p.requires _ _ _ _ _ c.close.ensures c.in-Ok.is c.next_line.ensures c.closed.ensures

pub returns-in-Err : goal.returns-in-Err
returns-in-Err c =
    let p = c in let a = p.args in
    closed_stop a.state.now a.file.now a.k a.parents.now a.objects.now p.requires _ _ _ _ _ c.close.ensures c.in-Err.is c.stopped.ensures
