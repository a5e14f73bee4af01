use Rattle.names.specs.Rows.{decode_child}
use Rattle.names_links.proofs.AppendLaws.{outgrows_is}
use Rattle.names_links.proofs.append.outgrows_room.Goals as goal

pub returns : goal.returns
returns c x q =
    let a = c.args in
    outgrows_is (decode_child a.row.now) x c.header_of-h.result a.n c.header_of-h.ensures.0 q
