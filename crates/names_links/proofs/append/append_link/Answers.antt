use native.Mathlib.Omega.{arith}
use borrow.Author.Rules.{rules}
use Rattle.wire.specs.Numbers.{Bytes}
use Rattle.names.specs.Rows.{decode_child}
use Rattle.names.specs.Sweeps.{start_of}
use Rattle.names_check.specs.Asked.{asked}
use Rattle.names_links.proofs.RoomLaws.{few}
use Rattle.names_links.proofs.AppendLaws.{inside, append_done}
use Rattle.names_links.proofs.append.append_link.Goals as goal

pub put_record-requires : goal.put_record-requires
unfolding asked
put_record-requires c =
    let a = c.args in
    let h = c.header_of-h in
    let i = inside (decode_child a.row.now) (asked a.parent a.name.now) h.result h.ensures.0 c.requires.5 in
    (c.requires.3, omega (arith, c.requires.0, i))

pub overflow_add-g : goal.overflow_add-g
overflow_add-g c =
    omega (arith, few (start_of (decode_child c.args.row.now).link) c.header_of-h.result c.header_of-h.ensures.0)

pub close_link-requires : goal.close_link-requires
unfolding asked
close_link-requires c =
    let a = c.args in
    let i = inside (decode_child a.row.now) (asked a.parent a.name.now) c.header_of-h.result c.header_of-h.ensures.0 c.requires.5 in
    (search rules, omega (arith, i))

pub returns : goal.returns
unfolding Bytes
returns c =
    let a = c.args in
    let q = c.requires in
    let g = c.well_formed.1.0.1.1.0.1.1 in
    append_done a.row.now _ _ a.parent a.name.now c.header_of-h.result (λ i. search rules) q.0 q.1
    (record { seq = omega (arith, g); oid = omega (arith, g); ver = omega (arith, g) }) q.2 q.3 q.4 q.5 c.header_of-h.ensures.0 c.put_record.ensures c.close_link.ensures
