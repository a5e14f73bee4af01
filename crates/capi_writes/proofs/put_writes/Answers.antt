use native.Mathlib.Omega.{arith}
use Rattle.capi_writes.proofs.WritesLaws.{Put, target_one, writes_put}
use borrow.Author.Rules.{rules}
use Rattle.capi_writes.proofs.put_writes.Goals as goal

pub put_write-third-requires : goal.put_write-third-requires
put_write-third-requires c =
    let a = c.args in
    (omega (arith, target_one a.x, c.put_write-second.ensures.next), search rules)

pub put_write-n-requires : goal.put_write-n-requires
put_write-n-requires c =
    let a = c.args in
    (omega (arith, target_one a.x, target_one a.y, c.put_write-second.ensures.next, c.put_write-third.ensures.next), search rules)

pub returns : goal.returns
unfolding Put
returns c =
    let d = c in
    let a = d.args in
    writes_put a.out.now d.requires a.x a.y a.z _ _ _ _ _ _ _ _ c.put_none.ensures (c.put_write-second.ensures.next, c.put_write-second.ensures.out) (c.put_write-third.ensures.next, c.put_write-third.ensures.out) (c.put_write-n.ensures.next, c.put_write-n.ensures.out) c.put.ensures
