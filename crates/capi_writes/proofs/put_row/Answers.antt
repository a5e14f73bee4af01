use Rattle.std.proofs.Common.{refl}
use Rattle.capi_writes.proofs.put_row.Goals as goal

pub returns : goal.returns
returns c = record { next = refl; out = c.put_all.ensures }
