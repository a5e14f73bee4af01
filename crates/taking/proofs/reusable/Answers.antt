use Rattle.std.proofs.Common.{rules, lit<}
use mathlib.Core.Path.{sym, ◌∙◌}
use Rattle.tables.specs.Bytes.{parse_parents, parse_object}
use Rattle.rules.specs.Repairs.{is_reusable}
use Rattle.search.proofs.RowSearch.{first_chunk}
use Rattle.taking.proofs.TakingLaws.{reusable_rows}
use Rattle.taking.proofs.reusable.Goals as goal

pub returns : goal.returns
returns c =
    let a = c.args in
    first_chunk (λ row. is_reusable (parse_parents a.parents.now) a.place (parse_object row)) _ _ _ c.position.ensures.ran (lit< tt)
    c.chunks_exact.ensures.rest c.chunks_exact.ensures.size (λ x b q k. search rules)
    ∙ sym (reusable_rows _ _ _)
