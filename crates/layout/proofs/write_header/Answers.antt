use Rattle.layout.proofs.HeaderLaws.{header_stores}
use Rattle.layout.proofs.write_header.Goals as goal

pub returns : goal.returns
returns c =
    let x = c in
    let f = x in
    let e = f in
    let d = e in
    let o = d in
    let b = o in
    let a = b in
    header_stores _ _ _ _ _ _ _ _ _ _ a.put.ensures b.put-2.ensures o.put-3.ensures d.put-4.ensures e.put-5.ensures f.put-6.ensures x.put-7.ensures
