use Rattle.std.proofs.Common.{rules}
use mathlib.Core.Bool.{not}
use native.Mathlib.Omega.{arith}
use Rattle.tables.specs.Bytes.{is_used}
use Rattle.search.specs.FirstRow.{free_row}
use Rattle.search.proofs.RowSearch.{first_chunk}
use Rattle.search.proofs.first.free_row.Goals as goal

pub returns : goal.returns
unfolding free_row
returns c = first_chunk (λ row. not (is_used row)) _ _ _ c.position.ensures.ran (omega arith) c.chunks_exact.ensures.rest c.chunks_exact.ensures.size (λ x b q k. search rules)
