use Rattle.std.proofs.Common.{lit<, rules}
use Rattle.tables.specs.Bytes.{parent_rows}
use Rattle.tables.specs.Check.{good_layout, good_layouts, when_used}
use Rattle.tables.proofs.AllLaws.{all_chunks}
use Rattle.checks.proofs.layouts.good_layouts.Goals as goal

pub returns : goal.returns
unfolding good_layouts parent_rows
returns c = all_chunks (when_used good_layout) _ _ _ c.all.ensures.ran (lit< tt) c.chunks_exact.ensures.rest c.chunks_exact.ensures.size (λ x b q k. search rules)
