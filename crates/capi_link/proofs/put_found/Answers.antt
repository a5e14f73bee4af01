use Rattle.std.proofs.Common.{sym}
use Rattle.wire.proofs.Splice.{sets_front}
use Rattle.linkea_write.specs.RoundTrip.{found_numbers}
use Rattle.capi_link.specs.Links.{found_fields}
use Rattle.capi_link.proofs.put_found.Goals as goal

pub returns : goal.returns
unfolding found_fields found_numbers
returns c = rw c.copy_from_slice.ensures.after (sym (sets_front (found_fields c.args.x) c.args.out.now c.requires))
