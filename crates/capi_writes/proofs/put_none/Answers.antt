use Rattle.capi_writes.specs.Writes.{row_numbers, writes_numbers}
use Rattle.capi_writes.proofs.put_none.Goals as goal

pub returns : goal.returns
unfolding writes_numbers row_numbers
returns c = c.put_all.ensures
