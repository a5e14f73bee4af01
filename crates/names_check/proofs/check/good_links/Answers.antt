use Rattle.std.proofs.Common.{lit<, rules}
use Rattle.names.specs.Rows.{child_rows}
use Rattle.names.specs.Check.{good_link_ea}
use Rattle.tables.proofs.AllLaws.{all_chunks}
use Rattle.names_check.proofs.check.good_links.Goals as goal

pub returns : goal.returns
unfolding child_rows
returns c = all_chunks good_link_ea _ _ _ c.all.ensures.ran (lit< tt) c.chunks_exact.ensures.rest c.chunks_exact.ensures.size (λ x b q k. search rules)
