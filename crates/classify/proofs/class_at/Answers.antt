use Rattle.std.proofs.Common.{sym, ◌∙◌}
use Rattle.std.proofs.lemmas.Result.{err_from_is_err_and}
use Rattle.tables.proofs.CheckLaws.{accepted_sound}
use Rattle.classify.proofs.AnswerLaws.{answer_refused, answer_nowhere, answer_end, answer_class}
use Rattle.classify.proofs.class_at.Goals as goal
use Rattle.classify.proofs.class_at.Goals.{then-not-is_position-via-then-not-is_position, then-not-is_position-via-else-not-is_position+then-is_end}

pub returns-in_err-check_tables : goal.returns-in_err-check_tables
returns-in_err-check_tables c =
    let p = err_from_is_err_and c.from_residual.result c.from_residual.ensures.1 in
    rw (p.1, p.2) (answer_refused _ _ _ _ c.in_err-check_tables.ensures)

pub is_position-requires : goal.is_position-requires
is_position-requires c = accepted_sound _ _ c.in_ok-check_tables.ensures

pub returns-then-not-is_position : goal.returns-then-not-is_position
returns-then-not-is_position c =
    let a = c.args in
    let k = c.in_ok-check_tables.ensures in
    elim c.then-not-is_position.branch [
      | then-not-is_position-via-then-not-is_position w ↦
          answer_nowhere a.parents.now a.objects.now a.at k (sym c.is_position.ensures ∙ w.if-not-is_position.true)
      | then-not-is_position-via-else-not-is_position+then-is_end w ↦
          answer_end a.parents.now a.objects.now a.at k (sym c.is_position.ensures ∙ w.if-not-is_position.false) (sym w.is_end.ensures ∙ w.if-is_end.true)
    ]

pub class_of-requires : goal.class_of-requires
class_of-requires c = (
  accepted_sound _ _ c.in_ok-check_tables.ensures,
  sym c.is_position.ensures ∙ c.if-not-is_position.false,
  sym c.is_end.ensures ∙ c.if-is_end.false,
)

pub returns : goal.returns
returns c =
    answer_class _ _ _ c.in_ok-check_tables.ensures (sym c.is_position.ensures ∙ c.if-not-is_position.false)
    (sym c.is_end.ensures ∙ c.if-is_end.false) _ c.class_of.ensures
