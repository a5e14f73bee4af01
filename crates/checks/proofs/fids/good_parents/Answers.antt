use Rattle.std.proofs.Common.{lit<, rules}
use Rattle.tables.specs.Bytes.{parent_rows}
use Rattle.tables.specs.Check.{good_parent, when_used}
use Rattle.tables.proofs.AllLaws.{all_chunks}
use Rattle.checks.proofs.fids.good_parents.Goals as goal

pub returns : goal.returns
unfolding parent_rows
returns c = all_chunks (when_used good_parent) _ _ _ c.all.ensures.ran (lit< tt) c.chunks_exact.ensures.rest c.chunks_exact.ensures.size (λ x b q k. search rules)
