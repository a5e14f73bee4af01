use borrow.Author.Rules.{rules}
use mathlib.Core.Path.{◌≡◌, refl, ◌∙◌}
use Prim.Native.Nat.{◌-◌}
use native.Mathlib.Omega.{arith}
use lib.ListN.{take}
use Rattle.wire.specs.Numbers.{Bytes}
use Rattle.names.specs.Rows.{link_bytes, links_of, decode_child}
use Rattle.names.proofs.BackLaws.{link_room_lem}
use Rattle.names_links.specs.Kept.{kept_by}
use Rattle.names_links.specs.Packing.{PackedIn}
use Rattle.names_links.proofs.KeepLaws.{copied, walkable, packed_as, packed_room, keep_done}
use Rattle.names_links.proofs.keep.keep_flagged.Goals as goal
use Rattle.names_links.proofs.keep.keep_flagged.Goals.{After-keep_all-p, After-put_bytes}

-- the copy of the link_ea
copy : (c : goal.After-put_bytes) →
    take (c.link_len-n.result - 0) c.put_bytes.new.s
    ≡ link_bytes c.args.row.now
copy c =
    copied c.args.row.now _ _ _ c.link_len-n.result c.requires.0 c.requires.1 c.link_len-n.ensures refl c.link_of.ensures.0 c.put_bytes.ensures

-- the records that were kept
packed : (c : goal.After-keep_all-p) →
    take (c.link_len-n.result - 0) c.put_bytes.new.s ≡ link_bytes c.args.row.now →
    let a = c.args in
    PackedIn a.row.now c.keep_all-p.new.row c.keep_all-p.result (kept_by a.flags.now (links_of (decode_child a.row.now)))
packed c e =
    packed_as c.args.row.now _ _ c.args.flags.now _ c.requires.2 e c.keep_all-p.ensures

pub link_of-requires : goal.link_of-requires
link_of-requires c =
    (c.requires.0, link_room_lem c.args.row.now c.requires.1)

pub put_bytes-requires : goal.put_bytes-requires
put_bytes-requires c =
    omega (arith, c.link_of.ensures.1, link_room_lem c.args.row.now c.requires.1)

pub slice_bounds-keep_all-end : goal.slice_bounds-keep_all-end
slice_bounds-keep_all-end c =
    omega (arith, c.link_len-n.ensures, link_room_lem c.args.row.now c.requires.1)

pub keep_all-p-requires : goal.keep_all-p-requires
keep_all-p-requires c =
    let w = walkable c.args.row.now _ c.args.flags.now c.requires.0 c.requires.1 c.requires.2 c.requires.3 (copy (goal.at.keep_all-p-requires c).After-put_bytes) in
    (c.requires.0, w.0, w.1, w.2)

pub close_link-requires : goal.close_link-requires
unfolding Bytes
close_link-requires c =
    let w = packed (goal.at.close_link-requires c).After-keep_all-p (copy (goal.at.close_link-requires c).After-put_bytes) in
    (w.long ∙ c.requires.0, packed_room c.args.row.now _ c.args.flags.now _ (λ j. search rules) c.requires.0 c.requires.1 w)

pub returns : goal.returns
unfolding Bytes
returns c =
    keep_done c.args.row.now _ c.args.flags.now _ (λ j. search rules) c.requires.0 c.requires.1 (packed (goal.at.returns c).After-keep_all-p (copy (goal.at.returns c).After-put_bytes)) _
    c.header_of-h.result c.header_of-h.ensures.0 c.close_link.ensures
