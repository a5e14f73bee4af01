use Rattle.std.proofs.Common.{sym, ◌∙◌}
use Rattle.names_check.proofs.TestLaws.{good_not, good_then}
use Rattle.names_check.proofs.check.names_good.Goals as goal

pub returns-then-good_names : goal.returns-then-good_names
returns-then-good_names c =
    let a = c.args in
    c.good_links.ensures ∙ good_then a.entries.now a.children.now (sym c.good_names.ensures ∙ c.if-good_names.true)

pub returns-else-good_names : goal.returns-else-good_names
returns-else-good_names c =
    let a = c.args in
    c.if-good_names.false ∙ good_not a.entries.now a.children.now (sym c.good_names.ensures ∙ c.if-good_names.false)
