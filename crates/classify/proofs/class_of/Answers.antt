use native.Mathlib.Omega.{arith}
use Prim.Native.Nat.{◌-◌}
use Rattle.tables.proofs.SoundLaws.{sound_facts}
use Rattle.classify.proofs.AnswerLaws.{parent_there, object_there, at_object, at_header, at_slot}
use Rattle.classify.proofs.class_of.Goals as goal

pub object_class-requires : goal.object_class-requires
object_class-requires c = let a = c.args in (c.requires.0, object_there a.parents.now a.objects.now a.at c.requires.1 c.requires.2 c.if-at-ne1.true)

pub returns-then-at-ne1 : goal.returns-then-at-ne1
returns-then-at-ne1 c = let a = c.args in at_object a.parents.now a.objects.now a.at c.if-at-ne1.true _ c.object_class.ensures

pub header_class-requires : goal.header_class-requires
header_class-requires c = let a = c.args in ((sound_facts _ _ c.requires.0).layouts, parent_there a.parents.now a.objects.now a.at c.requires.1 (omega arith))

pub returns-then-at-eq0 : goal.returns-then-at-eq0
returns-then-at-eq0 c = let a = c.args in at_header a.parents.now a.objects.now a.at (omega arith) (omega arith) _ c.header_class.ensures

pub slot_class-requires : goal.slot_class-requires
slot_class-requires c = let a = c.args in (c.requires.0, parent_there a.parents.now a.objects.now a.at c.requires.1 (omega arith))

pub returns : goal.returns
returns c = let a = c.args in at_slot a.parents.now a.objects.now a.at (omega arith) (a.at.part - 1) (omega arith) _ c.slot_class.ensures
