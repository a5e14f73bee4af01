use Rattle.fid.specs.Fid.{decode_fid, decode_fid_in}
use Rattle.wire.specs.Numbers.{number}
use Rattle.fid.proofs.read_fid.Goals as goal

pub returns : goal.returns
unfolding decode_fid decode_fid_in number
returns c = c.read_in.ensures
