use Rattle.tables.specs.Bytes.{self_fid}
use Rattle.tables.proofs.rows.self_fid.Goals as goal

pub returns : goal.returns
unfolding self_fid
returns c = c.read_fid.ensures
