use Rattle.std.proofs.Common.{◌∙◌, arith}
use Rattle.names.specs.Visible.{max_levels}
use Rattle.names_judge.proofs.LookLaws.{few_ends}
use Rattle.names_judge.proofs.NoteLaws.{note_endless, note_ends}
use Rattle.names_judge.proofs.climb.note_row.Goals as goal

pub returns-in_err-levels : goal.returns-in_err-levels
returns-in_err-levels c =
    let a = c.args in
    let whole = note_endless a.r a.above a.room.now c.in_err-levels.was in
    (c.from_residual.ensures ∙ whole.0, whole.1)

pub overflow_add-levels : goal.overflow_add-levels
overflow_add-levels c = omega (arith, few_ends max_levels _ _ _ c.requires.1 c.in_ok-levels.was)

pub put_note-requires : goal.put_note-requires
put_note-requires c = (omega arith, omega (arith, few_ends max_levels _ _ _ c.requires.1 c.in_ok-levels.was))

pub overflow_add-result : goal.overflow_add-result
overflow_add-result c = omega (arith, few_ends max_levels _ _ _ c.requires.1 c.in_ok-levels.was)

pub returns : goal.returns
returns c =
    let a = c.args in
    note_ends a.r a.above a.room.now _ _ _ c.in_ok-levels.was c.put_note.ensures
