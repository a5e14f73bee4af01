use Rattle.fid.proofs.SameLaws.{eq_same}
use mathlib.Core.Path.{sym, ap, ap₂, ◌∙◌}
use native.Mathlib.Omega.{arith}
use lib.ListN.{length, set}
use Rattle.tables.proofs.AllLaws.{row_fits}
use Rattle.names.specs.Rows.{Child, child_size, is_none, parse_entries, parse_children}
use Rattle.names.specs.Findings.{same}
use Rattle.names.specs.Sweeps.{written}
use Rattle.names_check.specs.Asked.{entry_at}
use Rattle.names_check.proofs.FindingLaws.{child_in}
use Rattle.names_fids.proofs.NotedLaws.{hidden_note, visible_note}
use Rattle.names_fids.proofs.SelvesLaws.{its_fid, its_child}
use Rattle.names_fids.proofs.DirentLaws.{not_visible, no_self, agrees, wins, entry_stays, fid_stored, fid_wins}
use Rattle.names_fids.proofs.dirents.write_fid.Goals as goal

pub returns-then-note-eq0 : goal.returns-then-note-eq0
returns-then-note-eq0 c =
    let a = c.args in
    let cs = parse_children a.children.now in
    let x = entry_at a.entries.now a.i in (
      c.requires.0,
      λ seen q.
          let v = not_visible seen cs x (hidden_note seen x _ c.if-note-eq0.true q) in
          (entry_stays a.entries.now a.i (written seen cs x) c.requires.1 v.0, v.1),
    )

pub row_at-requires : goal.row_at-requires
row_at-requires c =
    let a = c.args in
    row_fits child_size _ (length a.children.now) (omega arith)
    (child_in a.entries.now a.children.now c.requires.0 a.i c.requires.1 _ c.row_at-row.ensures.0 _ c.child_of-r.ensures)

pub returns-then-is_none : goal.returns-then-is_none
returns-then-is_none c =
    let a = c.args in
    let cs = parse_children a.children.now in
    let x = entry_at a.entries.now a.i in
    let w = c.row_at-row.ensures.0 in
    let o = c.child_of-r.ensures in
    let k = child_in a.entries.now a.children.now c.requires.0 a.i c.requires.1 _ w _ o in
    let d = its_child a.entries.now a.children.now a.i _ w _ _ o k c.row_at.ensures.0 in
    let h = ap (λ (y : Child). is_none y.self) (sym d) ∙ ap is_none (sym c.self_of-own.ensures) ∙ sym c.is_none.ensures ∙ c.if-is_none.true in (
      c.requires.0,
      λ seen q.
          let v = no_self seen cs x h in
          (entry_stays a.entries.now a.i (written seen cs x) c.requires.1 v.0, v.1),
    )

pub returns-then-eq : goal.returns-then-eq
unfolding same
returns-then-eq c =
    let a = c.args in
    let cs = parse_children a.children.now in
    let x = entry_at a.entries.now a.i in
    let w = c.row_at-row.ensures.0 in
    let o = c.child_of-r.ensures in
    let k = child_in a.entries.now a.children.now c.requires.0 a.i c.requires.1 _ w _ o in
    let d = its_child a.entries.now a.children.now a.i _ w _ _ o k c.row_at.ensures.0 in
    let g = c.self_of-own.ensures ∙ ap (λ (y : Child). y.self) d in
    let f = its_fid a.entries.now a.children.now a.i _ w _ c.fid_of.ensures in
    let h = ap₂ same (sym f) (sym g) ∙ sym (c.eq.ensures ∙ eq_same _ _) ∙ c.if-eq.true in (
      c.requires.0,
      λ seen q.
          let v = agrees seen cs x h in
          (entry_stays a.entries.now a.i (written seen cs x) c.requires.1 v.0, v.1),
    )

pub returns : goal.returns
unfolding same
returns c =
    let a = c.args in
    let cs = parse_children a.children.now in
    let x = entry_at a.entries.now a.i in
    let w = c.row_at-row.ensures.0 in
    let o = c.child_of-r.ensures in
    let k = child_in a.entries.now a.children.now c.requires.0 a.i c.requires.1 _ w _ o in
    let d = its_child a.entries.now a.children.now a.i _ w _ _ o k c.row_at.ensures.0 in
    let g = c.self_of-own.ensures ∙ ap (λ (y : Child). y.self) d in
    let f = its_fid a.entries.now a.children.now a.i _ w _ c.fid_of.ensures in
    let n = ap is_none (sym g) ∙ sym c.is_none.ensures ∙ c.if-is_none.false in
    let h = ap₂ same (sym f) (sym g) ∙ sym (c.eq.ensures ∙ eq_same _ _) ∙ c.if-eq.false in
    let r = c.self_of-own.type_inv in
    let t = fid_stored a.entries.now a.children.now c.requires.0 a.i c.requires.1 c.self_of-own.result (record { seq = omega (arith, r); oid = omega (arith, r); ver = omega (arith, r) }) _ c.put_fid.ensures in (
      t.1,
      λ seen q.
          let v = wins seen cs x (visible_note seen x _ c.if-note-eq0.false q) n h in
          (t.0 ∙ fid_wins a.entries.now a.i x _ _ g ∙ ap (set (parse_entries a.entries.now) a.i) v.0, v.1),
    )
