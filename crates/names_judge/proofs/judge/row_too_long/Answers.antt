use mathlib.Core.Path.{sym, ◌∙◌}
use native.Mathlib.Omega.{arith}
use Rattle.names.specs.Rows.{parse_children, child_at}
use Rattle.names.specs.Visible.{max_levels}
use Rattle.names_judge.proofs.DirectoryLaws.{its_self}
use Rattle.names_judge.proofs.JudgeLaws.{none_long, some_long, long_is}
use Rattle.names_judge.proofs.judge.row_too_long.Goals as goal

pub returns-then-is_none : goal.returns-then-is_none
returns-then-is_none c =
    let a = c.args in
    let cs = parse_children a.children.now in
    let p = its_self a.children.now a.r _ _ (omega arith) c.row_at.ensures.0 c.self_of-name.ensures in
    (none_long max_levels cs (child_at cs a.r) _ p (sym c.is_none.ensures ∙ c.if-is_none.true), c.requires.2)

pub climb-requires : goal.climb-requires
climb-requires c = (c.requires.0, omega arith, c.requires.2, omega arith)

pub returns : goal.returns
returns c =
    let a = c.args in
    let k = c.climb in
    let cs = parse_children a.children.now in
    let p = its_self a.children.now a.r _ _ (omega arith) c.row_at.ensures.0 c.self_of-name.ensures in
    (some_long max_levels cs (child_at cs a.r) _ p (sym c.is_none.ensures ∙ c.if-is_none.false) _ k.ensures.0 _ (long_is _ _ c.is_none-2.ensures), k.ensures.1)
