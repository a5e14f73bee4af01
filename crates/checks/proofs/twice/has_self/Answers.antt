use Rattle.std.proofs.Common.{◌*◌, ◌∙◌, arith, rules}
use Rattle.wire.proofs.Splice.{drop_take_all}
use Rattle.tables.proofs.TwiceLaws.{has_chunks, has_rest, has_none}
use Rattle.checks.proofs.twice.has_self.Goals as goal

pub returns-then-table-size : goal.returns-then-table-size
returns-then-table-size c = let a = c.args in has_none a.f a.size a.from a.table.now (omega arith)

pub returns : goal.returns
returns c =
    let a = c.args in
    has_rest a.f a.size a.from a.table.now _ (omega arith) (omega arith)
    (has_chunks a.f _ _ _ c.any.ensures.ran (omega arith) (c.chunks_exact.ensures.rest ∙ drop_take_all (a.size * a.from) a.table.now) c.chunks_exact.ensures.size (λ x b q k. search rules))
