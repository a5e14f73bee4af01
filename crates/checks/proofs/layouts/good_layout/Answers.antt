use Rattle.std.proofs.Common.{arith}
use Rattle.std.proofs.lemmas.Grind.{common_steps}
use Rattle.tables.specs.Check.{when_used, good_layout}
use Rattle.checks.proofs.layouts.good_layout.Goals as goal

pub returns-then-not-is_used : goal.returns-then-not-is_used
unfolding when_used good_layout
returns-then-not-is_used c = grind (arith, common_steps)

pub returns-then-layout_len-le-LAYOUT_ROOM : goal.returns-then-layout_len-le-LAYOUT_ROOM
unfolding when_used good_layout
returns-then-layout_len-le-LAYOUT_ROOM c = grind (arith, common_steps)

pub returns-else-layout_len-le-LAYOUT_ROOM : goal.returns-else-layout_len-le-LAYOUT_ROOM
unfolding when_used good_layout
returns-else-layout_len-le-LAYOUT_ROOM c = grind (arith, common_steps)
