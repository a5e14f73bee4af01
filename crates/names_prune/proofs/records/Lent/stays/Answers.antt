use mathlib.Core.Path.{ap, ◌∙◌}
use mathlib.Core.Bool.{not}
use native.Mathlib.Omega.{arith}
use lib.ListN.{take}
use Rattle.linkea.specs.Link.{decode_link_ea}
use Rattle.linkea.proofs.PlaceLaws.{good_record}
use Rattle.linkea.proofs.RecordLaws.{length_read}
use Rattle.names.specs.Rows.{parse_entries, parse_children}
use Rattle.names.specs.Visible.{seen_by}
use Rattle.names.specs.Sweeps.{goes}
use Rattle.names_prune.proofs.RecordLaws.{read_link_lem}
use Rattle.names_prune.proofs.records.Lent.stays.Goals as goal

pub get-size-requires : goal.get-size-requires
get-size-requires c = omega (arith, good_record c.args.l.now c.args.p c.requires.2)

pub read_in-requires : goal.read_in-requires
read_in-requires c = omega (arith, good_record c.args.l.now c.args.p c.requires.2)

pub slice_bounds-must_go-count : goal.slice_bounds-must_go-count
slice_bounds-must_go-count c =
    let a = c.args in
    omega (arith, good_record a.l.now a.p c.requires.2, c.get-size.ensures, length_read a.l.now a.p)

pub slice_bounds-must_go-start : goal.slice_bounds-must_go-start
slice_bounds-must_go-start c =
    let a = c.args in
    omega (arith, good_record a.l.now a.p c.requires.2, c.get-size.ensures, length_read a.l.now a.p)

pub slice_bounds-must_go-end : goal.slice_bounds-must_go-end
slice_bounds-must_go-end c =
    let a = c.args in
    omega (arith, good_record a.l.now a.p c.requires.2, c.get-size.ensures, length_read a.l.now a.p)

pub returns : goal.returns
returns c =
    let a = c.args in
    ap not
    (c.must_go.ensures
    ∙ ap (goes (seen_by a.self.marks.now (parse_children a.self.children.now)) (parse_entries a.self.entries.now) a.r (take a.k (decode_link_ea a.l.now).links))
    (read_link_lem a.l.now a.p _ _ c.read_in.ensures c.get-size.ensures))
