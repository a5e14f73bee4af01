use borrow.Author.Rules.{rules}
use mathlib.Core.Path.{◌≡◌, refl, ◌∙◌}
use Prim.Native.Nat.{◌<◌}
use native.Mathlib.Omega.{arith}
use lib.ListN.{length}
use Rattle.wire.specs.Numbers.{Bytes}
use Rattle.linkea.specs.Link.{length_at}
use Rattle.linkea.proofs.PlaceLaws.{GoodRecord}
use Rattle.linkea.proofs.RecordLaws.{length_read}
use Rattle.linkea_write.proofs.WriteLaws.{part_long}
use Rattle.names_links.proofs.KeepLaws.{going_start, here, flagged, going_next, going_end}
use Rattle.names_links.proofs.keep.keep_all.Goals as goal
use Rattle.names_links.proofs.keep.keep_all.Goals.{After-get, In-loop-at}

-- the record at the loop's place
good : (c : goal.In-loop-at) → GoodRecord c.args.old.now c.loop-at.at
good c =
    let a = c.args in
    here a.old.now a.flags.now a.row.now c.loop-at.row c.loop-at.p c.loop-at.at c.loop-at.k c.loop-at.invariant (omega arith)

-- its length, as it is read
size : (c : goal.After-get) → c.get.result ≡ length_at c.args.old.now c.loop-at.at
size c =
    c.get.ensures ∙ length_read c.args.old.now c.loop-at.at

-- its flag is there
there : (c : goal.In-loop-at) → c.loop-at.k < length c.args.flags.now
there c =
    let a = c.args in
    flagged a.old.now a.flags.now a.row.now c.loop-at.row c.loop-at.p c.loop-at.at c.loop-at.k c.loop-at.invariant (omega arith)

pub loop-at-init : goal.loop-at-init
loop-at-init c =
    going_start c.args.old.now c.args.flags.now c.args.row.now c.requires.1 c.requires.3

pub get-requires : goal.get-requires
get-requires c = omega (arith, good c)

pub overflow_add-end : goal.overflow_add-end
overflow_add-end c = omega (arith, good (goal.at.overflow_add-end c).In-loop-at, size c)

pub slice_bounds-keep_one-end : goal.slice_bounds-keep_one-end
slice_bounds-keep_one-end c = omega (arith, good (goal.at.slice_bounds-keep_one-end c).In-loop-at, size (goal.at.slice_bounds-keep_one-end c).After-get)

pub bounds-flags-k : goal.bounds-flags-k
bounds-flags-k c = there (goal.at.bounds-flags-k c).In-loop-at

pub keep_one-p-requires : goal.keep_one-p-requires
keep_one-p-requires c =
    let v = c.loop-at.invariant in
    let g = good (goal.at.keep_one-p-requires c).In-loop-at in
    let n = part_long c.args.old.now c.loop-at.at c.get.result (omega (arith, g, size (goal.at.keep_one-p-requires c).After-get)) in
    (omega (arith, n, g, size (goal.at.keep_one-p-requires c).After-get, v.room, v.inside, v.long, c.requires.0, c.requires.2), omega (arith, v.room, v.inside, c.requires.2))

pub overflow_add-k : goal.overflow_add-k
overflow_add-k c = omega (arith, there (goal.at.overflow_add-k c).In-loop-at)

pub loop-at-smaller : goal.loop-at-smaller
loop-at-smaller c =
    omega (arith, good (goal.at.loop-at-smaller c).In-loop-at, size (goal.at.loop-at-smaller c).After-get)

pub loop-at-preserved : goal.loop-at-preserved
unfolding Bytes
loop-at-preserved c =
    let a = c.args in
    let v = c.loop-at.invariant in
    let r = c.keep_one-p.ensures in
    going_next a.old.now a.flags.now a.row.now c.loop-at.row c.loop-at.p c.loop-at.at c.loop-at.k v (omega arith) _ _ c.get.result _
    (λ i. search rules) (v.long ∙ c.requires.0) c.requires.2 (size (goal.at.loop-at-preserved c).After-get) refl r.0 r.1 r.2

pub shape_of-row : goal.shape_of-row
shape_of-row c = c.loop-at.invariant.long

pub returns : goal.returns
returns c =
    going_end c.args.old.now c.args.flags.now c.args.row.now c.loop-at.row c.loop-at.p c.loop-at.at c.loop-at.k c.loop-at.invariant (omega arith) c.requires.0 c.requires.2
