use Rattle.wire.specs.Numbers.{Bytes}
use Rattle.writes.proofs.ActLaws.{first_fits, second_fits, third_fits, act_rests, act_stops, act_three}
use Rattle.writes.proofs.act.Goals as goal

pub put-requires : goal.put-requires
put-requires c = let d = c in let a = d.args in (first_fits a.parents.now a.objects.now d.requires.0 _ c.in-Repairs.class c.in-Repairs.a c.in-Repairs.b c.in-Repairs.e c.in-Repairs.is d.requires.1).0

pub put-requires-in-Repairs : goal.put-requires-in-Repairs
unfolding Bytes
put-requires-in-Repairs c = let d = c in let a = d.args in second_fits a.parents.now a.objects.now d.requires.0 _ (λ i. (c.slice_known-1.given i).fits) (λ i. (c.slice_known-2-1.given i).fits) c.in-Repairs.class c.in-Repairs.a c.in-Repairs.b c.in-Repairs.e c.in-Repairs.is d.requires.1 _ _ c.put.ensures.parents c.put.ensures.objects

pub put-requires-in-Repairs-2 : goal.put-requires-in-Repairs-2
unfolding Bytes
put-requires-in-Repairs-2 c = let d = c in let a = d.args in third_fits a.parents.now a.objects.now d.requires.0 _ (λ i. (c.slice_known-1.given i).fits) (λ i. (c.slice_known-2-1.given i).fits) c.in-Repairs.class c.in-Repairs.a c.in-Repairs.b c.in-Repairs.e c.in-Repairs.is d.requires.1 _ _ c.put.ensures.parents c.put.ensures.objects _ _ c.put-in-Repairs.ensures.parents c.put-in-Repairs.ensures.objects

pub returns-in-Rests : goal.returns-in-Rests
unfolding Bytes
returns-in-Rests c = let d = c in let a = d.args in let whole = act_rests a.parents.now a.objects.now d.requires.0 _ (λ i. (c.slice_known-1.given i).fits) (λ i. (c.slice_known-2-1.given i).fits) c.in-Rests.is in
    record { outcome = whole.0; parents = whole.1.0; objects = whole.1.1 }

pub returns-in-Stops : goal.returns-in-Stops
unfolding Bytes
returns-in-Stops c = let d = c in let a = d.args in let whole = act_stops a.parents.now a.objects.now d.requires.0 _ (λ i. (c.slice_known-1.given i).fits) (λ i. (c.slice_known-2-1.given i).fits) c.in-Stops.stop c.in-Stops.is in
    record { outcome = whole.0; parents = whole.1.0; objects = whole.1.1 }

pub returns-in-Repairs : goal.returns-in-Repairs
unfolding Bytes
returns-in-Repairs c = let d = c in let a = d.args in let whole = act_three a.parents.now a.objects.now d.requires.0 _ (λ i. (c.slice_known-1.given i).fits) (λ i. (c.slice_known-2-1.given i).fits) c.in-Repairs.class c.in-Repairs.a c.in-Repairs.b c.in-Repairs.e c.in-Repairs.is d.requires.1 _ _ c.put.ensures.parents c.put.ensures.objects _ _ c.put-in-Repairs.ensures.parents c.put-in-Repairs.ensures.objects _ _ c.put-in-Repairs-2.ensures.parents c.put-in-Repairs-2.ensures.objects in
    record { outcome = whole.0; parents = whole.1.0; objects = whole.1.1 }
