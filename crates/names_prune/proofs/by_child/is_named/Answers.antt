use Rattle.fid.proofs.SameLaws.{alike, differs}
use mathlib.Core.Path.{◌∙◌}
use native.Mathlib.Omega.{arith}
use Rattle.names_check.specs.Asked.{asked}
use Rattle.names_prune.proofs.ByChildLaws.{row_name, named_past, named_elsewhere, named_there_by}
use Rattle.names_prune.proofs.by_child.is_named.Goals as goal

pub returns-then-entries-k : goal.returns-then-entries-k
returns-then-entries-k c = let a = c.args in named_past a.entries.now (asked a.parent a.name.now) a.i (omega arith)

pub returns-then-ne : goal.returns-then-ne
returns-then-ne c =
    let a = c.args in
    named_elsewhere a.entries.now a.parent a.name.now a.i (omega arith) _ c.row_at-row.ensures.0 _ c.parent_of.ensures
    (differs _ _ c.ne.ensures c.if-ne.true)

pub name_of-requires : goal.name_of-requires
name_of-requires c =
    (c.row_at-row.ensures.1, row_name c.args.entries.now c.args.i _ c.requires (omega arith) c.row_at-row.ensures.0)

pub returns : goal.returns
returns c =
    let a = c.args in
    c.same_name.ensures
    ∙ named_there_by a.entries.now a.parent a.name.now a.i (omega arith) _ c.row_at-row.ensures.0 _
    c.parent_of.ensures (alike _ _ c.ne.ensures c.if-ne.false) _
    c.name_of.ensures.0
