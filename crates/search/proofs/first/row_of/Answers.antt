use Rattle.std.proofs.Common.{rules}
use native.Mathlib.Omega.{arith}
use Rattle.tables.specs.Check.{is_row_of}
use Rattle.search.specs.FirstRow.{row_of}
use Rattle.search.proofs.RowSearch.{first_chunk}
use Rattle.search.proofs.first.row_of.Goals as goal

pub returns : goal.returns
unfolding row_of
returns c = first_chunk (is_row_of c.args.f) _ _ _ c.position.ensures.ran (omega arith) c.chunks_exact.ensures.rest c.chunks_exact.ensures.size (λ x b q k. search rules)
