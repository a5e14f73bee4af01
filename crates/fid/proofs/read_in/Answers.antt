use Rattle.std.proofs.Common.{◌+◌, drop}
use Rattle.fid.specs.Fid.{id_at, version_at}
use Rattle.fid.proofs.FidLaws.{fid_at_lem}
use Rattle.fid.proofs.read_in.Goals as goal

pub returns : goal.returns
returns g c =
    let a = c.args in
    let m = g.met.O.ByteOrder in
    fid_at_lem g.O.ByteOrder.order a.s.now a.at _ _ _ (cc (c.get.ensures, m.numbers 8 (drop a.at a.s.now))) (cc (c.get-2.ensures, m.numbers 4 (drop (a.at + id_at) a.s.now))) (cc (c.get-3.ensures, m.numbers 4 (drop (a.at + version_at) a.s.now)))
