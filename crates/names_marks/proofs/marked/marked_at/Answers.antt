use Rattle.names_marks.proofs.MarkLaws.{directory_self}
use Rattle.names_marks.proofs.marked.marked_at.Goals as goal

pub returns : goal.returns
returns c = let a = c.args in directory_self a.children.now a.marks.now c.requires.0 a.r _ _ c.requires.1 c.self_at.ensures c.self_under.ensures
