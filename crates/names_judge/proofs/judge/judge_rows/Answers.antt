use mathlib.Core.Path.{sym, ◌∙◌}
use native.Mathlib.Omega.{arith}
use Rattle.names.specs.Rows.{parse_children}
use Rattle.names.proofs.SoundLaws.{parsed_children}
use Rattle.names_judge.proofs.NoteLaws.{blank_noted}
use Rattle.names_judge.proofs.JudgeLaws.{judged_long, judged_all}
use Rattle.names_judge.proofs.judge.judge_rows.Goals as goal

pub some_too_long-requires : goal.some_too_long-requires
some_too_long-requires c =
    let a = c.args in
    (c.index_rows-n.ensures, omega arith, blank_noted (parse_children a.children.now) _ _ (omega (arith, parsed_children a.children.now)) c.clear.ensures)

pub returns-then-some_too_long : goal.returns-then-some_too_long
returns-then-some_too_long c = judged_long _ _ _ (sym c.some_too_long.ensures.0 ∙ c.if-some_too_long.true)

pub returns : goal.returns
returns c = judged_all _ _ _ _ (sym c.some_too_long.ensures.0 ∙ c.if-some_too_long.false) c.put_marks.ensures
