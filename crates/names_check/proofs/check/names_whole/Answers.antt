use Rattle.std.proofs.Common.{sym, ◌∙◌}
use Rattle.names_check.proofs.TestLaws.{whole_not, whole_then}
use Rattle.names_check.proofs.check.names_whole.Goals as goal

pub returns-then-whole_rows : goal.returns-then-whole_rows
returns-then-whole_rows c =
    let a = c.args in
    c.whole_rows-then-whole_rows.ensures ∙ whole_then a.entries.now a.children.now (sym c.whole_rows.ensures ∙ c.if-whole_rows.true)

pub returns-else-whole_rows : goal.returns-else-whole_rows
returns-else-whole_rows c =
    let a = c.args in
    c.if-whole_rows.false ∙ whole_not a.entries.now a.children.now (sym c.whole_rows.ensures ∙ c.if-whole_rows.false)
