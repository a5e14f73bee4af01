use mathlib.Core.Path.{ap}
use Rattle.fid.specs.declared.Fid.{Fid}
use Rattle.fid.specs.declared.MdtFid.{MdtFid}
use Rattle.names.specs.Rows.{decode_entry, mdt_fid}
use Rattle.names.proofs.rows.fid_of.Goals as goal

pub returns : goal.returns
unfolding decode_entry mdt_fid
returns c = ap {B = MdtFid} (λ (f : Fid). record { 0 = f }) c.read_fid.ensures
