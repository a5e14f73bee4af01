use mathlib.Core.Path.{ap, ◌∙◌}
use Rattle.tables.proofs.SoundLaws.{sound_facts}
use Rattle.rules.specs.Repairs.{owner_write}
use Rattle.writes.proofs.RowLaws.{decides_rest, decides_same, row_inside}
use Rattle.decide_objects.proofs.PlaceLaws.{fill_place, take_place, grow_past, new_few}
use Rattle.decide_objects.proofs.ObjectLaws.{way_none, way_new, way_fill, way_grow, way_take}
use Rattle.decide_objects.proofs.adopt_by.Goals as goal

pub way-requires : goal.way-requires
way-requires c = (sound_facts _ _ c.requires.0).layouts

pub adopt_new-requires : goal.adopt_new-requires
adopt_new-requires c = let d = c in let a = d.args in (d.requires.0, new_few a.parents.now a.objects.now d.requires.0 a.place _ c.way.ensures c.in-NewParent.is)

pub file_owner-requires : goal.file_owner-requires
file_owner-requires c = let d = c in let a = d.args in (fill_place a.parents.now a.objects.now d.requires.0 a.place _ c.in-Fill.r c.way.ensures c.in-Fill.is).used

pub file_owner-requires-in-Grow : goal.file_owner-requires-in-Grow
file_owner-requires-in-Grow c = let d = c in let a = d.args in (grow_past a.parents.now a.objects.now d.requires.0 a.place _ c.in-Grow.r c.way.ensures c.in-Grow.is).used

pub file_owner-requires-in-Take : goal.file_owner-requires-in-Take
file_owner-requires-in-Take c = let d = c in let a = d.args in (take_place a.parents.now a.objects.now d.requires.0 a.place _ c.in-Take.r c.way.ensures c.in-Take.is).used

pub slot_of-requires : goal.slot_of-requires
slot_of-requires c = let d = c in let a = d.args in ((sound_facts _ _ d.requires.0).layouts, row_inside a.parents.now c.in-Take.r (take_place a.parents.now a.objects.now d.requires.0 a.place _ c.in-Take.r c.way.ensures c.in-Take.is).used)

pub returns-in-NoWay : goal.returns-in-NoWay
returns-in-NoWay c = let d = c in let a = d.args in decides_rest a.parents.now a.objects.now _ (way_none a.parents.now a.objects.now a.k a.x a.place _ c.way.ensures c.in-NoWay.is)

pub returns-in-NewParent : goal.returns-in-NewParent
returns-in-NewParent c = let d = c in let a = d.args in decides_same a.parents.now a.objects.now _ _ _ c.adopt_new.ensures (way_new a.parents.now a.objects.now a.k a.x a.place _ c.way.ensures c.in-NewParent.is)

pub returns-in-Fill : goal.returns-in-Fill
returns-in-Fill c = let d = c in let a = d.args in let ow = c.owner_write-a.ensures ∙ ap (owner_write a.k a.x) c.file_owner.ensures in way_fill a.parents.now a.objects.now d.requires.0 a.k a.x a.place _ c.slot_for-s.ensures _ c.way.ensures c.in-Fill.r _ ow c.in-Fill.is

pub returns-in-Grow : goal.returns-in-Grow
returns-in-Grow c = let d = c in let a = d.args in let ow = c.owner_write-a-in-Grow.ensures ∙ ap (owner_write a.k a.x) c.file_owner-in-Grow.ensures in way_grow a.parents.now a.objects.now d.requires.0 a.k a.x a.place _ c.slot_for-s-in-Grow.ensures _ c.way.ensures c.in-Grow.r _ ow c.in-Grow.is

pub returns-in-Take : goal.returns-in-Take
returns-in-Take c = let d = c in let a = d.args in let ow = c.owner_write-a-in-Take.ensures ∙ ap (owner_write a.k a.x) c.file_owner-in-Take.ensures in way_take a.parents.now a.objects.now d.requires.0 a.k a.x a.place _ c.slot_for-s-in-Take.ensures _ c.way.ensures c.in-Take.r _ ow c.in-Take.is _ c.slot_of.ensures _ c.drop_named-b.ensures
