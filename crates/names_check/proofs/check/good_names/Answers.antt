use Rattle.std.proofs.Common.{lit<, rules}
use Rattle.names.specs.Rows.{entry_rows}
use Rattle.names.specs.Check.{good_name}
use Rattle.tables.proofs.AllLaws.{all_chunks}
use Rattle.names_check.proofs.check.good_names.Goals as goal

pub returns : goal.returns
unfolding entry_rows
returns c = all_chunks good_name _ _ _ c.all.ensures.ran (lit< tt) c.chunks_exact.ensures.rest c.chunks_exact.ensures.size (λ x b q k. search rules)
