use mathlib.Core.Path.{sym, ◌∙◌}
use Rattle.names.specs.Rows.{parse_children}
use Rattle.names_marks.proofs.MarkLaws.{seen_root, seen_out, seen_row, marked_inside}
use Rattle.names_marks.proofs.marked.seen.Goals as goal

pub returns-then-is_root : goal.returns-then-is_root
returns-then-is_root c =
    let a = c.args in
    seen_root a.marks.now (parse_children a.children.now) a.f (sym c.is_root.ensures ∙ c.if-is_root.true)

pub bounds-marks-r : goal.bounds-marks-r
bounds-marks-r c =
    let a = c.args in
    marked_inside a.children.now a.marks.now a.f _ c.requires.marked (sym c.find.ensures ∙ c.in-Some.is)

pub returns-in-None : goal.returns-in-None
returns-in-None c =
    let a = c.args in
    seen_out a.marks.now (parse_children a.children.now) a.f (sym c.is_root.ensures ∙ c.if-is_root.false)
    (sym c.find.ensures ∙ c.in-None.is)

pub returns-in-Some : goal.returns-in-Some
returns-in-Some c =
    let a = c.args in
    seen_row a.marks.now (parse_children a.children.now) a.f (sym c.is_root.ensures ∙ c.if-is_root.false) _
    (sym c.find.ensures ∙ c.in-Some.is)
