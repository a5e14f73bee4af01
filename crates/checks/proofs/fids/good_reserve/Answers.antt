use Rattle.std.proofs.Common.{lit<, rules}
use Rattle.tables.specs.Bytes.{reserve_entries}
use Rattle.tables.specs.Check.{good_entry}
use Rattle.tables.proofs.AllLaws.{all_chunks}
use Rattle.checks.proofs.fids.good_reserve.Goals as goal

pub returns : goal.returns
unfolding reserve_entries
returns c = all_chunks good_entry _ _ _ c.all.ensures.ran (lit< tt) c.chunks_exact.ensures.rest c.chunks_exact.ensures.size (λ x b q k. search rules)
