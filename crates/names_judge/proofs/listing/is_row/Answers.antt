use Rattle.fid.proofs.SameLaws.{eq_same}
use mathlib.Core.Path.{◌∙◌}
use native.Mathlib.Omega.{arith}
use borrow.Author.Tests.{le-ltb}
use Rattle.names_judge.proofs.DirectoryLaws.{row_past, row_there}
use Rattle.names_judge.proofs.listing.is_row.Goals as goal

pub returns-else-k-children : goal.returns-else-k-children
returns-else-k-children c = let a = c.args in le-ltb a.r _ c.if-k-children.false ∙ row_past a.children.now a.f a.r (omega arith)

pub returns-then-k-children : goal.returns-then-k-children
returns-then-k-children c =
    let a = c.args in
    c.eq.ensures ∙ eq_same _ _
    ∙ row_there a.children.now a.f a.r (omega arith) _ c.self_at.ensures
