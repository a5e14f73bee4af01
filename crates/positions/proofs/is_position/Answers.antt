use mathlib.Core.Path.{◌∙◌}
use native.Mathlib.Omega.{arith}
use Rattle.tables.specs.Bytes.{parse}
use Rattle.tables.proofs.PositionLaws.{position_one, position_two, position_end}
use Rattle.tables.proofs.SoundLaws.{sound_facts}
use Rattle.positions.proofs.is_position.Goals as goal

pub in_stage_one-requires : goal.in_stage_one-requires
in_stage_one-requires c = (sound_facts _ _ c.requires).layouts

pub returns-in-1 : goal.returns-in-1
returns-in-1 c =
    let a = c.args in
    c.in_stage_one.ensures
    ∙ position_one (parse a.parents.now a.objects.now) a.at (omega arith)

pub returns-in-2 : goal.returns-in-2
returns-in-2 c =
    let a = c.args in
    c.in_stage_two.ensures
    ∙ position_two (parse a.parents.now a.objects.now) a.at (omega arith)

pub returns-in_default : goal.returns-in_default
returns-in_default c =
    let a = c.args in
    c.is_end.ensures ∙ position_end (parse a.parents.now a.objects.now) a.at (λ e. omega arith) (λ e. omega arith)
