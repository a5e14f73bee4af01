use Rattle.linkea_write.proofs.LinkLaws.{header_stores}
use Rattle.linkea_write.proofs.write_header.Goals as goal

pub returns : goal.returns
returns c =
    let x = c in
    let d = x in
    let t = d in
    let b = t in
    let a = b in
    header_stores _ _ _ _ _ _ _ a.put.ensures b.put-2.ensures t.put-3.ensures d.put-4.ensures x.put-5.ensures
