use mathlib.Core.Path.{ap, ◌∙◌}
use mathlib.Core.List.{List}
use Prim.Native.Nat.{ℕ}
use Rattle.names.specs.Rows.{parse_children, decode_entry}
use Rattle.names.specs.Visible.{seen_by}
use Rattle.names_check.specs.Asked.{entry_at}
use Rattle.names_fids.proofs.notes.entry_seen.Goals as goal

pub returns : goal.returns
unfolding entry_at
returns c =
    let a = c.args in
    let p = c.parent_of.ensures ∙ ap (λ (l : List ℕ). (decode_entry l).parent) c.row_at-row.ensures.0 in
    c.seen.ensures ∙ ap (seen_by a.marks.now (parse_children a.children.now)) p
