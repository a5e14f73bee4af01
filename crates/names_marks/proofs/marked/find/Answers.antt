use Rattle.std.proofs.Common.{rules, sym, ap, ◌∙◌, List, ℕ, arith}
use Rattle.index.specs.Search.{key_of, lowest_of, Tells}
use Rattle.names.specs.Rows.{parse_children}
use Rattle.names_marks.specs.Directories.{directories}
use Rattle.names_marks.proofs.MarkLaws.{directories_many}
use Rattle.names_judge.specs.Listed.{is_row}
use Rattle.names_judge.proofs.DirectoryLaws.{directory_none, directory_found, listed_ordered}
use Rattle.names_marks.proofs.marked.find.Goals as goal

pub returns-then-is_none : goal.returns-then-is_none
returns-then-is_none c =
    let a = c.args in
    directory_none (directories a.marks.now (parse_children a.children.now)) a.f (sym c.is_none.ensures ∙ c.if-is_none.true)

pub find_by-requires-clause-ordered : goal.find_by-requires-clause-ordered
find_by-requires-clause-ordered c =
    (omega arith, listed_ordered (directories c.args.marks.now (parse_children c.args.children.now)) c.args.n c.args.index.now c.requires.rows)

pub find_by-requires-clause-callable : goal.find_by-requires-clause-callable
find_by-requires-clause-callable c = search rules

pub returns : goal.returns
unfolding Tells
returns c =
    let a = c.args in
    let cs = directories a.marks.now (parse_children a.children.now) in
    c.find_by.ensures (is_row cs a.f) (λ v b h p. search rules)
    ∙ sym (ap (λ (l : List ℕ). lowest_of (is_row cs a.f) (key_of a.f.0.seq a.f.0.oid) l) (sym c.requires.rows))
    ∙ sym (directory_found cs a.f (sym c.is_none.ensures ∙ c.if-is_none.false) (omega (arith, directories_many a.children.now a.marks.now c.requires.marked)))
