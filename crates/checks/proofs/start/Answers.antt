use Rattle.std.proofs.lemmas.Result.{err_from_is_err_and}
use Rattle.tables.proofs.CheckLaws.{no_start, start_is}
use Rattle.checks.proofs.start.Goals as goal

pub returns-in_err-check_tables : goal.returns-in_err-check_tables
returns-in_err-check_tables c =
    let p = err_from_is_err_and c.from_residual.result c.from_residual.ensures.1 in
    rw (p.1, p.2) (no_start _ _ _ c.in_err-check_tables.ensures)

pub returns : goal.returns
returns c = start_is _ _ c.in_ok-check_tables.ensures _ c.first.ensures
