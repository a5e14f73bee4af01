use Rattle.std.proofs.Common.{arith}
use Rattle.std.proofs.lemmas.Grind.{common_steps}
use Rattle.fid.specs.Fid.{good_object}
use Rattle.capi_keeper.specs.Keepers.{good_asked}
use Rattle.capi_keeper.proofs.good_asked.Goals as goal

pub returns-then-id-le-MAX_WORD : goal.returns-then-id-le-MAX_WORD
unfolding good_asked good_object
returns-then-id-le-MAX_WORD c = grind (arith, common_steps)

pub returns-else-id-le-MAX_WORD : goal.returns-else-id-le-MAX_WORD
unfolding good_asked good_object
returns-else-id-le-MAX_WORD c = grind (arith, common_steps)
