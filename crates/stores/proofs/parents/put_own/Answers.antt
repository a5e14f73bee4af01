use native.Mathlib.Omega.{arith}
use Rattle.wire.specs.Numbers.{Bytes}
use Rattle.stores.proofs.RowStores.{used_facts, own_nested}
use Rattle.stores.proofs.parents.put_own.Goals as goal

pub self_of-f-requires : goal.self_of-f-requires
self_of-f-requires c = omega (arith, c.requires.size)

pub layout_of-l-requires : goal.layout_of-l-requires
layout_of-l-requires c = let f = used_facts _ c.requires in (f.size, f.room)

pub read_header-h-requires : goal.read_header-h-requires
read_header-h-requires c = omega (arith, used_facts _ c.requires)

pub stripe_count-n-requires : goal.stripe_count-n-requires
stripe_count-n-requires c = omega (arith, used_facts _ c.requires)

pub put_header-requires : goal.put_header-requires
put_header-requires c = omega (arith, c.requires.size)

pub returns : goal.returns
unfolding Bytes
returns c = let d = c in cc (own_nested d.args.row.now (λ i. (c.slice_known-1.given i).fits) d.requires)
