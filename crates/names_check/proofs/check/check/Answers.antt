use mathlib.Core.Path.{sym, ◌∙◌}
use Rattle.names_check.proofs.TestLaws.{names_11, names_16, names_31, names_0}
use Rattle.names_check.proofs.check.check.Goals as goal

pub returns-then-not-names_whole : goal.returns-then-not-names_whole
returns-then-not-names_whole c =
    let a = c.args in
    names_11 a.entries.now a.children.now (sym c.names_whole.ensures ∙ c.if-not-names_whole.true)

pub returns-then-not-children_there : goal.returns-then-not-children_there
returns-then-not-children_there c =
    let d = c in
    let a = d.args in
    names_16 a.entries.now a.children.now (sym d.names_whole.ensures ∙ d.if-not-names_whole.false)
    (sym c.children_there.ensures ∙ c.if-not-children_there.true)

pub returns-then-not-names_good : goal.returns-then-not-names_good
returns-then-not-names_good c =
    let e = c in
    let d = e in
    let a = d.args in
    names_31 a.entries.now a.children.now (sym d.names_whole.ensures ∙ d.if-not-names_whole.false)
    (sym e.children_there.ensures ∙ e.if-not-children_there.false) (sym c.names_good.ensures ∙ c.if-not-names_good.true)

pub returns : goal.returns
returns c =
    let e = c in
    let d = e in
    let a = d.args in
    names_0 a.entries.now a.children.now (sym d.names_whole.ensures ∙ d.if-not-names_whole.false)
    (sym e.children_there.ensures ∙ e.if-not-children_there.false) (sym c.names_good.ensures ∙ c.if-not-names_good.false)
