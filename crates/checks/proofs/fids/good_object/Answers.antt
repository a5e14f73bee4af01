use Rattle.std.proofs.Common.{arith}
use Rattle.std.proofs.lemmas.Grind.{common_steps}
use Rattle.fid.specs.Fid.{good_object as good_object_fid}
use Rattle.tables.specs.Check.{when_used, good_object, good_index}
use Rattle.checks.proofs.fids.good_object.Goals as goal

pub returns-then-not-is_used : goal.returns-then-not-is_used
unfolding when_used good_object good_object_fid good_index
returns-then-not-is_used c = grind (arith, common_steps)

pub returns-then-good_claim : goal.returns-then-good_claim
unfolding when_used good_object good_object_fid good_index
returns-then-good_claim c = grind (arith, common_steps)

pub returns-else-good_claim : goal.returns-else-good_claim
unfolding when_used good_object good_object_fid good_index
returns-else-good_claim c = grind (arith, common_steps)
