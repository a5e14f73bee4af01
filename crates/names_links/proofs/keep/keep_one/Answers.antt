use Rattle.names_links.proofs.KeepLaws.{left_out, taken_in}
use Rattle.names_links.proofs.keep.keep_one.Goals as goal

pub returns-then-flag-ne-STAYS : goal.returns-then-flag-ne-STAYS
returns-then-flag-ne-STAYS c =
    let a = c.args in
    left_out a.row.now a.bytes.now a.p.to a.p.count a.flag c.if-flag-ne-STAYS.true

pub returns : goal.returns
returns c =
    let a = c.args in
    taken_in a.row.now a.bytes.now a.p.to a.p.count a.flag _ c.if-flag-ne-STAYS.false c.put_bytes.ensures
