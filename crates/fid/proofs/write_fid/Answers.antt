use Rattle.fid.specs.Fid.{encode_fid, encode_fid_in}
use Rattle.wire.specs.Numbers.{number_bytes}
use Rattle.fid.proofs.write_fid.Goals as goal

pub returns : goal.returns
unfolding encode_fid encode_fid_in number_bytes
returns c = c.write_in.ensures
