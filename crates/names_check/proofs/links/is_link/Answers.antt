use Rattle.fid.proofs.SameLaws.{eq_same}
use mathlib.Core.Path.{sym, ◌∙◌}
use native.Mathlib.Omega.{arith}
use Rattle.linkea.proofs.PlaceLaws.{good_record}
use Rattle.linkea.proofs.RecordLaws.{length_read}
use Rattle.names_check.proofs.LinkLaws.{link_differs, link_named}
use Rattle.names_check.proofs.links.is_link.Goals as goal

pub get-n-requires : goal.get-n-requires
get-n-requires c = let b = c in omega (arith, good_record b.args.l.now b.args.p b.requires.1)

pub read_in-requires : goal.read_in-requires
read_in-requires c = let b = c in omega (arith, good_record b.args.l.now b.args.p b.requires.1)

pub returns-else-eq : goal.returns-else-eq
returns-else-eq c =
    let a = c.args in
    c.if-eq.false ∙ link_differs a.parent a.name.now a.l.now a.p _ c.read_in.ensures
    (sym (c.eq.ensures ∙ eq_same _ _) ∙ c.if-eq.false)

pub slice_bounds-same_name-count : goal.slice_bounds-same_name-count
slice_bounds-same_name-count c =
    let d = c in
    let b = d in
    omega (arith, good_record b.args.l.now b.args.p b.requires.1, d.get-n.ensures, length_read b.args.l.now b.args.p)

pub slice_bounds-same_name-start : goal.slice_bounds-same_name-start
slice_bounds-same_name-start c =
    let d = c in
    let b = d in
    omega (arith, good_record b.args.l.now b.args.p b.requires.1, d.get-n.ensures, length_read b.args.l.now b.args.p)

pub slice_bounds-same_name-end : goal.slice_bounds-same_name-end
slice_bounds-same_name-end c =
    let d = c in
    let b = d in
    omega (arith, good_record b.args.l.now b.args.p b.requires.1, d.get-n.ensures, length_read b.args.l.now b.args.p)

pub returns-then-eq : goal.returns-then-eq
returns-then-eq c =
    let d = c in
    let a = d.args in
    c.same_name.ensures
    ∙ link_named a.parent a.name.now a.l.now a.p _ c.read_in.ensures _ d.get-n.ensures
    (sym (c.eq.ensures ∙ eq_same _ _) ∙ c.if-eq.true)
