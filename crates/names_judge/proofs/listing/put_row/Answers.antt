use mathlib.Core.Path.{sym, ◌∙◌}
use Rattle.names_judge.proofs.DirectoryLaws.{row_passed, row_put}
use Rattle.names_judge.proofs.listing.put_row.Goals as goal

pub returns-then-is_none : goal.returns-then-is_none
returns-then-is_none c =
    let a = c.args in
    row_passed a.name a.n a.r a.index.now (sym c.is_none.ensures ∙ c.if-is_none.true)

pub returns : goal.returns
returns c =
    let a = c.args in
    row_put a.name a.n a.r a.index.now _ (sym c.is_none.ensures ∙ c.if-is_none.false) c.put.ensures
