use Rattle.std.proofs.Common.{rules}
use Rattle.tables.specs.Check.{used_mark, is_mark}
use Rattle.tables.proofs.AllLaws.{all_chunks}
use Rattle.checks.proofs.whole.used_marks.Goals as goal

pub returns : goal.returns
unfolding used_mark is_mark
returns c = all_chunks used_mark _ _ _ c.all.ensures.ran c.requires c.chunks_exact.ensures.rest c.chunks_exact.ensures.size (λ x b q k. search rules)
