use native.Mathlib.Omega.{arith}
use Rattle.tables.proofs.SoundLaws.{sound_facts}
use Rattle.writes.proofs.RowLaws.{decides_rest, decides_same, slot_ready, slot_few}
use Rattle.decide_slots.proofs.SlotLaws.{step_hole, step_names}
use Rattle.rules.specs.Settings.{settings_of}
use Rattle.decide_slots.proofs.slot.Goals as goal

pub slot_of-requires : goal.slot_of-requires
slot_of-requires c = let d = c in ((sound_facts _ _ d.requires.0).layouts, d.requires.1)

pub overflow_cast-at : goal.overflow_cast-at
overflow_cast-at c = let d = c in let a = d.args in let h = slot_few a.parents.now a.objects.now a.r a.j d.requires.0 d.requires.1 _ c.slot_of.ensures c.in-Names.fid c.in-Names.generation c.in-Names.ost c.in-Names.is in omega arith

pub named_slot-requires : goal.named_slot-requires
named_slot-requires c = let d = c in let a = d.args in slot_ready a.parents.now a.objects.now a.r a.j d.requires.0 d.requires.1 _ c.slot_of.ensures c.in-Names.fid c.in-Names.generation c.in-Names.ost c.in-Names.is

pub returns-in-Hole : goal.returns-in-Hole
returns-in-Hole c = let a = c.args in decides_rest a.parents.now a.objects.now _ (step_hole a.parents.now a.objects.now (settings_of a.policy a.reserve.now) a.r a.j _ c.slot_of.ensures c.in-Hole.is)

pub returns-in-Names : goal.returns-in-Names
returns-in-Names c = let d = c in let a = d.args in decides_same a.parents.now a.objects.now _ _ _ c.named_slot.ensures (step_names a.parents.now a.objects.now (settings_of a.policy a.reserve.now) a.r a.j _ c.slot_of.ensures c.in-Names.fid c.in-Names.generation c.in-Names.ost c.in-Names.is)
