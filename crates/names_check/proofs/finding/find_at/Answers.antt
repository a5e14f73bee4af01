use mathlib.Core.Path.{ap, ap₂, ◌∙◌}
use mathlib.Core.List.{List}
use Prim.Native.Nat.{ℕ, ◌*◌}
use native.Mathlib.Omega.{arith}
use lib.ListN.{length, length-set}
use Rattle.tables.proofs.AllLaws.{row_fits}
use Rattle.names.proofs.SoundLaws.{name_at_lem, link_at}
use Rattle.names.specs.Rows.{child_size, decode_entry, decode_child}
use Rattle.names.specs.Check.{good_name, good_link_ea}
use Rattle.names.specs.Findings.{fids_finding, link_finding}
use Rattle.names_check.specs.Asked.{entry_at}
use Rattle.names_check.proofs.FindingLaws.{child_in, two_stores}
use Rattle.names_check.proofs.finding.find_at.Goals as goal

pub row_at-child-requires : goal.row_at-child-requires
row_at-child-requires c =
    let b = c in
    let a = b.args in
    row_fits child_size _ (length a.children.now) (omega arith)
    (child_in a.entries.now a.children.now b.requires.0 a.i b.requires.1 _ c.row_at-row.ensures.0 _ c.child_of.ensures)

pub link_finding-link-requires : goal.link_finding-link-requires
link_finding-link-requires c =
    let d = c in
    let b = d in
    let a = b.args in
    let r = c.row_at-child in
    let k = child_in a.entries.now a.children.now b.requires.0 a.i b.requires.1 _ d.row_at-row.ensures.0 _ c.child_of.ensures in (
      d.row_at-row.ensures.1,
      r.ensures.1,
      ap good_name d.row_at-row.ensures.0 ∙ name_at_lem a.entries.now a.children.now b.requires.0 a.i b.requires.1,
      ap good_link_ea r.ensures.0 ∙ link_at a.entries.now a.children.now b.requires.0 _ k,
    )

pub bounds-out-i-2 : goal.bounds-out-i-2
bounds-out-i-2 c = let a = c.args in omega (arith, length-set a.out.now (2 * a.i) c.number.result)

pub returns : goal.returns
unfolding entry_at
returns c =
    let d = c in
    let b = d in
    let a = b.args in
    let w = d.row_at-row.ensures.0 in
    let k = child_in a.entries.now a.children.now b.requires.0 a.i b.requires.1 _ w _ c.child_of.ensures in
    two_stores a.entries.now a.children.now a.out.now a.i _ _ _ _ _ _ c.number.ensures c.number-2.ensures
    (c.fids_finding-fid.ensures ∙ ap₂ fids_finding (c.fid_of.ensures ∙ ap (λ (l : List ℕ). (decode_entry l).fid) w) c.self_of.ensures)
    (c.link_finding-link.ensures ∙ ap (λ (l : List ℕ). link_finding (decode_entry l) (decode_child c.row_at-child.result.now)) w)
    (c.child_of.ensures ∙ ap (λ (l : List ℕ). (decode_entry l).child) w) k c.row_at-child.ensures.0
