use mathlib.Core.Path.{sym, ap, ◌∙◌}
use native.Mathlib.Omega.{arith}
use Rattle.fid.specs.declared.MdtFid.{MdtFid}
use Rattle.names.specs.Rows.{is_none}
use Rattle.names_judge.specs.Levels.{note_at, ended_of}
use Rattle.names_judge.specs.declared.Looked.TheVariants.{Told, Above}
use Rattle.names_judge.proofs.LookLaws.{look_noted, look_linked, look_none, look_up}
use Rattle.names_judge.proofs.climb.look_row.Goals as goal

pub returns-then-note-ne0 : goal.returns-then-note-ne0
unfolding note_at
returns-then-note-ne0 c =
    let a = c.args in
    let e = c.get-note.ensures in
    ap Told (c.told.ensures ∙ ap ended_of e) ∙ look_noted a.children.now a.room.now a.r (λ z. c.if-note-ne0.true (e ∙ z))

pub returns-then-link_len-ne0 : goal.returns-then-link_len-ne0
unfolding note_at
returns-then-link_len-ne0 c =
    let a = c.args in
    let n = sym c.get-note.ensures ∙ c.if-note-ne0.false in
    look_linked a.children.now a.room.now a.r _ n (omega arith) c.row_at-row.ensures.0
    (λ z. c.if-link_len-ne0.true (c.link_len.ensures ∙ z))

pub returns-then-is_none : goal.returns-then-is_none
unfolding note_at
returns-then-is_none c =
    let a = c.args in
    let n = sym c.get-note.ensures ∙ c.if-note-ne0.false in
    look_none a.children.now a.room.now a.r _ n (omega arith) c.row_at-row.ensures.0
    (sym c.link_len.ensures ∙ c.if-link_len-ne0.false) (ap is_none (sym c.up_of-up.ensures) ∙ sym c.is_none.ensures ∙ c.if-is_none.true)

pub returns : goal.returns
unfolding note_at
returns c =
    let a = c.args in
    let n = sym c.get-note.ensures ∙ c.if-note-ne0.false in
    ap (λ (g : MdtFid). Above a.r g) c.up_of-up.ensures
    ∙ look_up a.children.now a.room.now a.r _ n (omega arith) c.row_at-row.ensures.0
    (sym c.link_len.ensures ∙ c.if-link_len-ne0.false) (ap is_none (sym c.up_of-up.ensures) ∙ sym c.is_none.ensures ∙ c.if-is_none.false)
