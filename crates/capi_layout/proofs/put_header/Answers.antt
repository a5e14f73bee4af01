use Rattle.capi_layout.proofs.LayoutNumbers.{header_put}
use Rattle.capi_layout.proofs.put_header.Goals as goal

pub returns : goal.returns
returns c = header_put _ _ _ _ _ _ _ c.version_of.ensures c.header_size-start.ensures c.put_four.ensures c.put_four-2.ensures
