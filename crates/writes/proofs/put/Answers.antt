use Rattle.writes.proofs.PutLaws.{nothing_done, object_fits, object_done, destroy_fits, destroy_done, own_fits, own_done, slot_fits, slot_done, grow_fits, grow_done, make_fits, make_done}
use Rattle.writes.proofs.put.Goals as goal

pub put_object-requires : goal.put_object-requires
put_object-requires c = let d = c in let a = d.args in object_fits a.parents.now a.objects.now _ c.in-Object.o c.in-Object.x c.in-Object.is d.requires

pub destroy-requires : goal.destroy-requires
destroy-requires c = let d = c in let a = d.args in destroy_fits a.parents.now a.objects.now _ c.in-Destroy.o c.in-Destroy.is d.requires

pub put_own-requires : goal.put_own-requires
put_own-requires c = let d = c in let a = d.args in own_fits a.parents.now a.objects.now _ c.in-Own.r c.in-Own.is d.requires

pub put_slot-requires : goal.put_slot-requires
put_slot-requires c = let d = c in let a = d.args in slot_fits a.parents.now a.objects.now _ c.in-Slot.r c.in-Slot.j c.in-Slot.s c.in-Slot.is d.requires

pub grow-requires : goal.grow-requires
grow-requires c = let d = c in let a = d.args in grow_fits a.parents.now a.objects.now _ c.in-Grow.r c.in-Grow.i c.in-Grow.s c.in-Grow.is d.requires

pub make-requires : goal.make-requires
make-requires c = let d = c in let a = d.args in let h = make_fits a.parents.now a.objects.now _ c.in-Make.r c.in-Make.f c.in-Make.w c.in-Make.i c.in-Make.s c.in-Make.is d.requires in (h.0, h.1)

pub returns-in-Nothing : goal.returns-in-Nothing
returns-in-Nothing c = let a = c.args in let whole = nothing_done a.parents.now a.objects.now _ c.in-Nothing.is in
    record { parents = whole.0; objects = whole.1 }

pub returns-in-Object : goal.returns-in-Object
returns-in-Object c = let a = c.args in let whole = object_done a.parents.now a.objects.now _ c.in-Object.o c.in-Object.x c.in-Object.is _ c.put_object.ensures in
    record { parents = whole.0; objects = whole.1 }

pub returns-in-Destroy : goal.returns-in-Destroy
returns-in-Destroy c = let a = c.args in let whole = destroy_done a.parents.now a.objects.now _ c.in-Destroy.o c.in-Destroy.is _ c.destroy.ensures in
    record { parents = whole.0; objects = whole.1 }

pub returns-in-Own : goal.returns-in-Own
returns-in-Own c = let a = c.args in let whole = own_done a.parents.now a.objects.now _ c.in-Own.r c.in-Own.is _ c.put_own.ensures in
    record { parents = whole.0; objects = whole.1 }

pub returns-in-Slot : goal.returns-in-Slot
returns-in-Slot c = let a = c.args in let whole = slot_done a.parents.now a.objects.now _ c.in-Slot.r c.in-Slot.j c.in-Slot.s c.in-Slot.is _ c.put_slot.ensures in
    record { parents = whole.0; objects = whole.1 }

pub returns-in-Grow : goal.returns-in-Grow
returns-in-Grow c = let a = c.args in let whole = grow_done a.parents.now a.objects.now _ c.in-Grow.r c.in-Grow.i c.in-Grow.s c.in-Grow.is _ c.grow.ensures in
    record { parents = whole.0; objects = whole.1 }

pub returns-in-Make : goal.returns-in-Make
returns-in-Make c = let a = c.args in let whole = make_done a.parents.now a.objects.now _ c.in-Make.r c.in-Make.f c.in-Make.w c.in-Make.i c.in-Make.s c.in-Make.is _ c.make.ensures in
    record { parents = whole.0; objects = whole.1 }
