use Rattle.tables.specs.Check.{reserve_whole}
use Rattle.checks.proofs.whole.reserve_whole.Goals as goal

pub returns : goal.returns
unfolding reserve_whole
returns c = c.whole_rows.ensures
