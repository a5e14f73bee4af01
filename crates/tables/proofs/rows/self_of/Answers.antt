use Rattle.tables.specs.Bytes.{decode_parent, self_fid}
use Rattle.fid.specs.Fid.{decode_fid}
use Rattle.tables.proofs.rows.self_of.Goals as goal

pub returns : goal.returns
unfolding decode_parent decode_fid self_fid
returns c = λ i. record { 0 = c.read_fid.ensures i }
