use mathlib.Core.Logic.{⊎_elim}
use Rattle.tables.proofs.SoundLaws.{sound_facts}
use Rattle.decide_slots.proofs.SlotLaws.{header_unused, header_clean, header_self}
use Rattle.decide_slots.proofs.header.Goals as goal

pub header_class-requires : goal.header_class-requires
header_class-requires c = let d = c in ((sound_facts _ _ d.requires.0).layouts, d.requires.1)

pub returns-in-UNUSED : goal.returns-in-UNUSED
returns-in-UNUSED c =
    let d = c in let a = d.args in
    ⊎_elim (header_unused a.parents.now a.objects.now a.r d.requires.0 d.requires.1 _ c.header_class.ensures)
    (header_clean a.parents.now a.objects.now a.r d.requires.0 d.requires.1 _ c.header_class.ensures) c.in-UNUSED.is

pub returns-in-SELF : goal.returns-in-SELF
returns-in-SELF c = let d = c in let a = d.args in header_self a.parents.now a.objects.now a.r d.requires.0 d.requires.1 _ c.header_class.ensures c.in-SELF.is
