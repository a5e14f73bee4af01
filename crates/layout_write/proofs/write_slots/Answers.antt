use native.Mathlib.Omega.{arith}
use borrow.Author.Rules.{rules}
use mathlib.Core.Path.{refl}
use Rattle.layout_write.proofs.WriteLaws.{slots_start, slots_step, slots_length, slots_end}
use Rattle.layout_write.proofs.write_slots.Goals as goal

pub loop-j-init : goal.loop-j-init
loop-j-init c = (omega arith, refl, slots_start _ _ _)

pub put_given-requires : goal.put_given-requires
put_given-requires c = (search rules, omega arith)

pub loop-j-preserved : goal.loop-j-preserved
loop-j-preserved c =
    let i = c.loop-j.invariant in
    let e = slots_step _ _ _ _ _ _ (omega arith) i.2 c.put_given.ensures in
    (omega arith, slots_length _ _ _ _ _ e, e)

pub shape_of-dest : goal.shape_of-dest
shape_of-dest c = c.loop-j.invariant.1

pub returns : goal.returns
returns c = slots_end _ _ _ _ _ _ c.loop-j.invariant.2 (omega arith) (omega arith)
