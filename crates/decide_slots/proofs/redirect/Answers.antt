use Rattle.tables.proofs.SoundLaws.{sound_facts}
use Rattle.writes.proofs.RowLaws.{decides_same}
use Rattle.decide_slots.proofs.SlotLaws.{reserve_takes, reserve_empty}
use Rattle.decide_slots.proofs.redirect.Goals as goal

pub usable-requires : goal.usable-requires
usable-requires c = (sound_facts _ _ c.requires.tables).layouts

pub returns-in-None : goal.returns-in-None
returns-in-None c = let a = c.args in reserve_empty a.parents.now a.objects.now a.reserve.now a.at.row a.at.index a.at.ost _ c.usable.ensures c.in-None.is

pub returns-in-Some : goal.returns-in-Some
returns-in-Some c = let a = c.args in decides_same a.parents.now a.objects.now _ _ _ c.redirect_to.ensures (reserve_takes a.parents.now a.objects.now a.reserve.now a.at.row a.at.index a.at.ost _ c.usable.ensures c.in-Some.f c.in-Some.is)
