use Rattle.capi_tables.specs.Tables.{position_numbers}
use Rattle.capi_tables.proofs.put_position.Goals as goal

pub returns : goal.returns
unfolding position_numbers
returns c = c.put_all.ensures
