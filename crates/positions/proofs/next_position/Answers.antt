use mathlib.Core.Path.{◌∙◌}
use native.Mathlib.Omega.{arith}
use Rattle.tables.specs.Bytes.{parse}
use Rattle.tables.proofs.PositionLaws.{one_row, two_row, position_one, position_two, next_one, next_two, next_end}
use Rattle.tables.proofs.SoundLaws.{sound_facts}
use Rattle.positions.proofs.next_position.Goals as goal

pub after_part-requires : goal.after_part-requires
after_part-requires c =
    let d = c in
    let a = d.args in (
      (sound_facts _ _ d.requires.0).layouts,
      one_row a.parents.now a.at.row a.at.part
          (position_one (parse a.parents.now a.objects.now) a.at (omega arith) ∙ d.requires.1),
    )

pub returns-in-1 : goal.returns-in-1
returns-in-1 c =
    let a = c.args in
    c.after_part.ensures ∙ next_one (parse a.parents.now a.objects.now) a.at (omega arith)

pub overflow_add-at : goal.overflow_add-at
overflow_add-at c =
    let d = c in
    let a = d.args in
    omega (
      arith,
      two_row a.objects.now a.at.row a.at.part
          (position_two (parse a.parents.now a.objects.now) a.at (omega arith) ∙ d.requires.1),
    )

pub returns-in-2 : goal.returns-in-2
returns-in-2 c =
    let a = c.args in
    c.from_object.ensures ∙ next_two (parse a.parents.now a.objects.now) a.at (omega arith)

pub returns-in_default : goal.returns-in_default
returns-in_default c =
    let a = c.args in
    c.end.ensures ∙ next_end (parse a.parents.now a.objects.now) a.at (λ e. omega arith) (λ e. omega arith)
