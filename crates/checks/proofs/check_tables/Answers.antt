use mathlib.Core.Path.{sym, ◌∙◌}
use Rattle.tables.proofs.CheckLaws.{tables_11, tables_13, tables_14, tables_15, tables_passed}
use Rattle.checks.proofs.check_tables.Goals as goal

pub returns-then-not-both_whole : goal.returns-then-not-both_whole
returns-then-not-both_whole c =
    let a = c.args in
    tables_11 a.parents.now a.objects.now
    (sym c.both_whole.ensures ∙ c.if-not-both_whole.true)

pub returns-then-not-good_layouts : goal.returns-then-not-good_layouts
returns-then-not-good_layouts c =
    let a = c.args in
    tables_13 a.parents.now a.objects.now
    (sym c.both_whole.ensures ∙ c.if-not-both_whole.false)
    (sym c.good_layouts.ensures ∙ c.if-not-good_layouts.true)

pub returns-then-not-good_rows : goal.returns-then-not-good_rows
returns-then-not-good_rows c =
    let a = c.args in
    tables_14 a.parents.now a.objects.now
    (sym c.both_whole.ensures ∙ c.if-not-both_whole.false)
    (sym c.good_layouts.ensures ∙ c.if-not-good_layouts.false)
    (sym c.good_rows.ensures ∙ c.if-not-good_rows.true)

pub returns-then-not-all_different : goal.returns-then-not-all_different
returns-then-not-all_different c =
    let a = c.args in
    tables_15 a.parents.now a.objects.now
    (sym c.both_whole.ensures ∙ c.if-not-both_whole.false)
    (sym c.good_layouts.ensures ∙ c.if-not-good_layouts.false)
    (sym c.good_rows.ensures ∙ c.if-not-good_rows.false)
    (sym c.all_different.ensures ∙ c.if-not-all_different.true)

pub returns : goal.returns
returns c =
    let a = c.args in
    tables_passed a.parents.now a.objects.now
    (sym c.both_whole.ensures ∙ c.if-not-both_whole.false)
    (sym c.good_layouts.ensures ∙ c.if-not-good_layouts.false)
    (sym c.good_rows.ensures ∙ c.if-not-good_rows.false)
    (sym c.all_different.ensures ∙ c.if-not-all_different.false)
