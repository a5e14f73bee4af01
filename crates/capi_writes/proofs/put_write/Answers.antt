use mathlib.Core.Path.{ap}
use Rattle.rules.specs.Cuts.{target}
use Rattle.capi_writes.specs.Writes.{table_of, row_of}
use Rattle.capi_writes.proofs.WritesLaws.{Put, put_left_out, put_target}
use Rattle.capi_writes.proofs.put_write.Goals as goal

pub returns-in-Nothing : goal.returns-in-Nothing
unfolding Put
returns-in-Nothing c = let a = c.args in let whole = put_left_out a.n a.out.now a.w c.in-Nothing.is in
    record { next = whole.0; out = whole.1 }

pub returns-in-Object : goal.returns-in-Object
unfolding Put target table_of row_of
returns-in-Object c = let a = c.args in let whole = put_target a.n a.out.now a.w _ (ap target c.in-Object.is) _ _ (c.put_row.ensures.next, c.put_row.ensures.out) in
    record { next = whole.0; out = whole.1 }

pub returns-in-Destroy : goal.returns-in-Destroy
unfolding Put target table_of row_of
returns-in-Destroy c = let a = c.args in let whole = put_target a.n a.out.now a.w _ (ap target c.in-Destroy.is) _ _ (c.put_row-in-Destroy.ensures.next, c.put_row-in-Destroy.ensures.out) in
    record { next = whole.0; out = whole.1 }

pub returns-in-Own : goal.returns-in-Own
unfolding Put target table_of row_of
returns-in-Own c = let a = c.args in let whole = put_target a.n a.out.now a.w _ (ap target c.in-Own.is) _ _ (c.put_row-in-Own.ensures.next, c.put_row-in-Own.ensures.out) in
    record { next = whole.0; out = whole.1 }

pub returns-in-Slot : goal.returns-in-Slot
unfolding Put target table_of row_of
returns-in-Slot c = let a = c.args in let whole = put_target a.n a.out.now a.w _ (ap target c.in-Slot.is) _ _ (c.put_row-in-Slot.ensures.next, c.put_row-in-Slot.ensures.out) in
    record { next = whole.0; out = whole.1 }

pub returns-in-Grow : goal.returns-in-Grow
unfolding Put target table_of row_of
returns-in-Grow c = let a = c.args in let whole = put_target a.n a.out.now a.w _ (ap target c.in-Grow.is) _ _ (c.put_row-in-Grow.ensures.next, c.put_row-in-Grow.ensures.out) in
    record { next = whole.0; out = whole.1 }

pub returns-in-Make : goal.returns-in-Make
unfolding Put target table_of row_of
returns-in-Make c = let a = c.args in let whole = put_target a.n a.out.now a.w _ (ap target c.in-Make.is) _ _ (c.put_row-in-Make.ensures.next, c.put_row-in-Make.ensures.out) in
    record { next = whole.0; out = whole.1 }
