use Rattle.intake_close.proofs.CloseLaws.{entry_none, entry_owned}
use Rattle.intake_close.proofs.closing.close.Goals as goal

pub returns-in_default : goal.returns-in_default
returns-in_default c =
    let p = c in let a = p.args in
    entry_none a.buf.now a.m a.file.now a.taken _ a.parents.now a.objects.now c.line_stop-end.ensures _ c.owner_line.ensures c.in_default.is

pub returns : goal.returns
returns c =
    let p = c in let a = p.args in
    entry_owned a.buf.now a.m a.file.now a.taken _ a.parents.now a.objects.now c.line_stop-end.ensures _ c.owner_line.ensures _ _ _ _ _ _ c.in-Some.is c.close_owned.ensures
