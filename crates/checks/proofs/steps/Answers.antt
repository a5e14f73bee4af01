use Rattle.std.proofs.lemmas.Result.{err_from_is_err_and}
use Rattle.tables.proofs.CheckLaws.{no_steps, steps_are, accepted_sound}
use Rattle.checks.proofs.steps.Goals as goal

pub returns-in_err-check_tables : goal.returns-in_err-check_tables
returns-in_err-check_tables c =
    let p = err_from_is_err_and c.from_residual.result c.from_residual.ensures.1 in
    rw (p.1, p.2) (no_steps _ _ _ c.in_err-check_tables.ensures)

pub count_steps-requires : goal.count_steps-requires
count_steps-requires c = accepted_sound _ _ c.in_ok-check_tables.ensures

pub returns : goal.returns
returns c = steps_are _ _ c.in_ok-check_tables.ensures _ c.count_steps.ensures
