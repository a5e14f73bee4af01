use Rattle.tables.proofs.PositionLaws.{count_is}
use Rattle.tables.proofs.SoundLaws.{sound_facts}
use Rattle.positions.proofs.count_steps.Goals as goal

pub row_steps-requires : goal.row_steps-requires
row_steps-requires c = let k = sound_facts _ _ c.requires in (k.layouts, k.parents_few)

pub returns : goal.returns
returns c = let a = c.args in count_is a.parents.now a.objects.now _ _ c.row_steps.ensures c.object_count.ensures
