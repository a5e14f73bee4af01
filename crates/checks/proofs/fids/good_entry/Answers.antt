use Rattle.std.proofs.Common.{arith}
use Rattle.std.proofs.lemmas.Grind.{common_steps}
use Rattle.fid.specs.Fid.{good_reserve}
use Rattle.tables.specs.Bytes.{reserve_fid}
use Rattle.tables.specs.Check.{good_entry}
use Rattle.checks.proofs.fids.good_entry.Goals as goal

pub returns : goal.returns
unfolding good_entry reserve_fid good_reserve
returns c = grind (arith, common_steps)
