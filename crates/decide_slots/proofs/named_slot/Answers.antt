use mathlib.Core.Logic.{⊎_elim}
use mathlib.Core.Path.{sym, ◌∙◌}
use Rattle.writes.proofs.RowLaws.{decides_rest, decides_same}
use Rattle.decide_slots.proofs.SlotLaws.{slot_hole, slot_clean, slot_multiple, slot_dangling, slot_dangling_off, slot_blank, slot_unmatched, slot_wrong_ost, slot_owner}
use Rattle.rules.specs.Settings.{settings_of}
use Rattle.decide_slots.proofs.named_slot.Goals as goal

pub returns-then-not-creates : goal.returns-then-not-creates
unfolding settings_of
returns-then-not-creates c = let a = c.args in decides_rest a.parents.now a.objects.now _ (slot_dangling_off a.parents.now a.objects.now (settings_of a.policy a.reserve.now) a.at.row a.at.index a.at.fid a.at.generation a.at.ost _ c.slot_class.ensures c.in-DANGLING.is (sym c.creates.ensures ∙ c.if-not-creates.true))

pub returns-in-HOLE : goal.returns-in-HOLE
returns-in-HOLE c =
    let a = c.args in
    decides_rest a.parents.now a.objects.now _
    (⊎_elim (slot_hole a.parents.now a.objects.now (settings_of a.policy a.reserve.now) a.at.row a.at.index a.at.fid a.at.generation a.at.ost _ c.slot_class.ensures)
    (slot_clean a.parents.now a.objects.now (settings_of a.policy a.reserve.now) a.at.row a.at.index a.at.fid a.at.generation a.at.ost _ c.slot_class.ensures) c.in-HOLE.is)

pub returns-in-MULTIPLE : goal.returns-in-MULTIPLE
unfolding settings_of
returns-in-MULTIPLE c = let a = c.args in decides_same a.parents.now a.objects.now _ _ _ c.multiple.ensures (slot_multiple a.parents.now a.objects.now (settings_of a.policy a.reserve.now) a.at.row a.at.index a.at.fid a.at.generation a.at.ost _ c.slot_class.ensures c.in-MULTIPLE.is)

pub returns-else-not-creates : goal.returns-else-not-creates
unfolding settings_of
returns-else-not-creates c = let a = c.args in decides_same a.parents.now a.objects.now _ _ _ c.make_object.ensures (slot_dangling a.parents.now a.objects.now (settings_of a.policy a.reserve.now) a.at.row a.at.index a.at.fid a.at.generation a.at.ost _ c.slot_class.ensures c.in-DANGLING.is (sym c.creates.ensures ∙ c.if-not-creates.false))

pub returns-in-BLANK : goal.returns-in-BLANK
returns-in-BLANK c = let a = c.args in decides_same a.parents.now a.objects.now _ _ _ c.mend.ensures (slot_blank a.parents.now a.objects.now (settings_of a.policy a.reserve.now) a.at.row a.at.index a.at.fid a.at.generation a.at.ost _ c.slot_class.ensures c.in-BLANK.is)

pub returns-in-UNMATCHED : goal.returns-in-UNMATCHED
returns-in-UNMATCHED c = let a = c.args in decides_same a.parents.now a.objects.now _ _ _ c.mend-in-UNMATCHED.ensures (slot_unmatched a.parents.now a.objects.now (settings_of a.policy a.reserve.now) a.at.row a.at.index a.at.fid a.at.generation a.at.ost _ c.slot_class.ensures c.in-UNMATCHED.field-0 c.in-UNMATCHED._i c.in-UNMATCHED.is)

pub returns-in-WRONGOST : goal.returns-in-WRONGOST
returns-in-WRONGOST c = let a = c.args in decides_same a.parents.now a.objects.now _ _ _ c.mend-in-WRONGOST.ensures (slot_wrong_ost a.parents.now a.objects.now (settings_of a.policy a.reserve.now) a.at.row a.at.index a.at.fid a.at.generation a.at.ost _ c.slot_class.ensures c.in-WRONGOST.is)

pub returns-in-OWNER : goal.returns-in-OWNER
returns-in-OWNER c = let a = c.args in decides_same a.parents.now a.objects.now _ _ _ c.mend-in-OWNER.ensures (slot_owner a.parents.now a.objects.now (settings_of a.policy a.reserve.now) a.at.row a.at.index a.at.fid a.at.generation a.at.ost _ c.slot_class.ensures c.in-OWNER.is)
