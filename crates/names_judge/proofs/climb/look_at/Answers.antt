use mathlib.Core.Path.{sym, ◌∙◌}
use Rattle.names.specs.Rows.{parse_children}
use Rattle.names_judge.proofs.LookLaws.{look_root, look_out, look_in_lem, row_in_table}
use Rattle.names_judge.proofs.climb.look_at.Goals as goal

pub returns-then-is_root : goal.returns-then-is_root
returns-then-is_root c =
    let a = c.args in
    look_root (parse_children a.children.now) a.room.now a.f (sym c.is_root.ensures ∙ c.if-is_root.true)

pub find-requires : goal.find-requires
find-requires c = let i = c.requires.0 in (i.few, i.room, i.rows)

pub look_row-requires : goal.look_row-requires
look_row-requires c =
    let a = c.args in
    (row_in_table a.children.now a.f _ (sym c.find.ensures ∙ c.in-Some.is), c.requires.1)

pub returns-in-None : goal.returns-in-None
returns-in-None c =
    let a = c.args in
    look_out (parse_children a.children.now) a.room.now a.f (sym c.is_root.ensures ∙ c.if-is_root.false)
    (sym c.find.ensures ∙ c.in-None.is)

pub returns-in-Some : goal.returns-in-Some
returns-in-Some c =
    let a = c.args in
    c.look_row.ensures
    ∙ look_in_lem (parse_children a.children.now) a.room.now a.f (sym c.is_root.ensures ∙ c.if-is_root.false) _
    (sym c.find.ensures ∙ c.in-Some.is)
