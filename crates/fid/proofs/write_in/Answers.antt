use Rattle.fid.proofs.FidLaws.{fid_stores}
use Rattle.fid.proofs.write_in.Goals as goal

pub returns : goal.returns
returns g c =
    let a = c.args in
    let m = g.met.O.ByteOrder in
    cc (c.put.ensures, m.stores 8 a.f.seq, m.stores 4 a.f.oid, m.stores 4 a.f.ver, fid_stores g.O.ByteOrder.order a.s.now a.at a.f)
