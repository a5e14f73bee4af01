use Rattle.std.proofs.Common.{rules}
use Rattle.names.specs.Rows.{parse_children}
use Rattle.names_judge.specs.Listed.{Names}
use Rattle.names_marks.specs.Directories.{directories}
use Rattle.names_marks.proofs.MarkLaws.{directories_many}
use Rattle.names_marks.proofs.marked.list.Goals as goal

pub returns : goal.returns
unfolding Names
returns c =
    let a = c.args in
    let m = directories_many a.children.now a.marks.now c.requires.1 in
    (c.list_by.ensures.listed (directories a.marks.now (parse_children a.children.now)) m (λ r f h p. search rules), c.list_by.ensures.few)
