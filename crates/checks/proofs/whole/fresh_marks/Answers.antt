use Rattle.std.proofs.Common.{lit<, rules}
use Rattle.tables.specs.Bytes.{object_rows}
use Rattle.tables.specs.Check.{fresh_mark, when_used}
use Rattle.tables.proofs.AllLaws.{all_chunks}
use Rattle.checks.proofs.whole.fresh_marks.Goals as goal

pub returns : goal.returns
unfolding object_rows
returns c = all_chunks (when_used fresh_mark) _ _ _ c.all.ensures.ran (lit< tt) c.chunks_exact.ensures.rest c.chunks_exact.ensures.size (λ x b q k. search rules)
