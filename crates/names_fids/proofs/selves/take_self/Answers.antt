use mathlib.Core.Path.{sym, ap, ◌∙◌}
use native.Mathlib.Omega.{arith}
use lib.ListN.{length}
use Rattle.tables.proofs.AllLaws.{row_fits}
use Rattle.names.specs.Rows.{Child, child_size, is_none, parse_children}
use Rattle.names_check.specs.Asked.{entry_at}
use Rattle.names_check.proofs.FindingLaws.{child_in}
use Rattle.names_fids.proofs.NotedLaws.{hidden_note, visible_note}
use Rattle.names_fids.proofs.SelvesLaws.{not_visible, no_fid, has_self_lem, takes, its_fid, its_row, its_child, self_stored, self_of_entry}
use Rattle.names_fids.proofs.selves.take_self.Goals as goal

pub returns-then-note-eq0 : goal.returns-then-note-eq0
returns-then-note-eq0 c =
    let a = c.args in
    (c.requires.0, λ seen q. not_visible seen (parse_children a.children.now) (entry_at a.entries.now a.i) (hidden_note seen (entry_at a.entries.now a.i) _ c.if-note-eq0.true q))

pub returns-then-is_none : goal.returns-then-is_none
returns-then-is_none c =
    let a = c.args in
    let f = its_fid a.entries.now a.children.now a.i _ c.row_at-row.ensures.0 _ c.fid_of-f.ensures in
    (c.requires.0, λ seen q. no_fid seen (parse_children a.children.now) (entry_at a.entries.now a.i) (ap is_none (sym f) ∙ sym c.is_none.ensures ∙ c.if-is_none.true))

pub row_at-child-requires : goal.row_at-child-requires
row_at-child-requires c =
    let a = c.args in
    row_fits child_size _ (length a.children.now) (omega arith)
    (child_in a.entries.now a.children.now c.requires.0 a.i c.requires.1 _ c.row_at-row.ensures.0 _ c.child_of-r.ensures)

pub returns-then-not-is_none : goal.returns-then-not-is_none
returns-then-not-is_none c =
    let a = c.args in
    let w = c.row_at-row.ensures.0 in
    let k = child_in a.entries.now a.children.now c.requires.0 a.i c.requires.1 _ w _ c.child_of-r.ensures in
    let d = its_child a.entries.now a.children.now a.i _ w _ _ c.child_of-r.ensures k c.row_at-child.ensures.0 in
    let h = ap (λ (x : Child). is_none x.self) (sym d) ∙ ap is_none (sym c.self_of.ensures) ∙ sym c.is_none-2.ensures ∙ c.if-not-is_none.true in
    (c.requires.0, λ seen q. has_self_lem seen (parse_children a.children.now) (entry_at a.entries.now a.i) h)

pub slice_bounds-put_self-end : goal.slice_bounds-put_self-end
slice_bounds-put_self-end c =
    let a = c.args in
    row_fits child_size _ (length a.children.now) (omega arith)
    (child_in a.entries.now a.children.now c.requires.0 a.i c.requires.1 _ c.row_at-row.ensures.0 _ c.child_of-r.ensures)

pub returns : goal.returns
returns c =
    let a = c.args in
    let cs = parse_children a.children.now in
    let x = entry_at a.entries.now a.i in
    let w = c.row_at-row.ensures.0 in
    let o = c.child_of-r.ensures in
    let k = child_in a.entries.now a.children.now c.requires.0 a.i c.requires.1 _ w _ o in
    let d = its_child a.entries.now a.children.now a.i _ w _ _ o k c.row_at-child.ensures.0 in
    let f = its_fid a.entries.now a.children.now a.i _ w _ c.fid_of-f.ensures in
    let n = ap is_none (sym f) ∙ sym c.is_none.ensures ∙ c.if-is_none.false in
    let h = ap (λ (y : Child). is_none y.self) (sym d) ∙ ap is_none (sym c.self_of.ensures) ∙ sym c.is_none-2.ensures ∙ c.if-not-is_none.false in
    let t = self_stored a.entries.now a.children.now c.requires.0 _ k c.fid_of-f.result (record { seq = omega (arith, c.fid_of-f.type_inv); oid = omega (arith, c.fid_of-f.type_inv); ver = omega (arith, c.fid_of-f.type_inv) }) _ c.put_self.ensures in (
      t.1,
      λ seen q.
          let v = takes seen cs x (visible_note seen x _ c.if-note-eq0.false q) n h in
          (t.0 ∙ self_of_entry cs x _ _ (its_row a.entries.now a.children.now a.i _ w _ o) f ∙ v.0, v.1),
    )
