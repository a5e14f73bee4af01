use Rattle.linkea.specs.Link.{decode_link_header}
use Rattle.linkea.proofs.read_header.Goals as goal

pub returns : goal.returns
unfolding decode_link_header
returns c = cc
