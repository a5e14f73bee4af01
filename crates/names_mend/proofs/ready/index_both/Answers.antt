use mathlib.Core.Path.{sym, ◌∙◌}
use native.Mathlib.Omega.{arith}
use lib.Seq.{length-take-le}
use Rattle.names.proofs.SoundLaws.{names_facts}
use Rattle.names_mend.specs.Ready.{entries_at}
use Rattle.names_mend.proofs.ReadyLaws.{front_fits, rest_long, both_made}
use Rattle.names_mend.proofs.ready.index_both.Goals as goal

pub slice_bounds-index_marked-end : goal.slice_bounds-index_marked-end
unfolding entries_at
slice_bounds-index_marked-end c =
    let a = c.args in omega (arith, c.entries_at-at.ensures)

pub slice_bounds-index_marked-end-2 : goal.slice_bounds-index_marked-end-2
unfolding entries_at
slice_bounds-index_marked-end-2 c =
    let a = c.args in sym (length-take-le c.entries_at-at.result a.index.now (omega (arith, c.entries_at-at.ensures)))

pub index_marked-n-requires : goal.index_marked-n-requires
unfolding entries_at
index_marked-n-requires c =
    let a = c.args in
    let f = names_facts a.entries.now a.children.now c.requires.0 in
    (f.children_whole.few, c.requires.1, omega (arith, c.entries_at-at.ensures, length-take-le c.entries_at-at.result a.index.now (omega (arith, c.entries_at-at.ensures))), omega arith)

pub slice_bounds-index_entries-count : goal.slice_bounds-index_entries-count
unfolding entries_at
slice_bounds-index_entries-count c =
    let a = c.args in
    let n = c.entries_at-at in
    let k = c.index_marked-n in
    front_fits n.result a.index.now k.new.index (k.auto.index ∙ length-take-le n.result a.index.now (omega (arith, n.ensures)))

pub slice_bounds-index_entries-start : goal.slice_bounds-index_entries-start
unfolding entries_at
slice_bounds-index_entries-start c =
    let a = c.args in
    let n = c.entries_at-at in
    let k = c.index_marked-n in
    front_fits n.result a.index.now k.new.index (k.auto.index ∙ length-take-le n.result a.index.now (omega (arith, n.ensures)))

pub index_entries-requires : goal.index_entries-requires
unfolding entries_at
index_entries-requires c =
    let a = c.args in
    let f = names_facts a.entries.now a.children.now c.requires.0 in
    let n = c.entries_at-at in
    let k = c.index_marked-n in
    (f.entries_whole.few, omega (arith, n.ensures, rest_long n.result a.index.now k.new.index (k.auto.index ∙ length-take-le n.result a.index.now (omega (arith, n.ensures)))), omega (arith, k.auto.room))

pub returns : goal.returns
unfolding entries_at
returns c =
    let a = c.args in
    let n = c.entries_at-at in
    let k = c.index_marked-n in
    let m = c.index_entries in
    let l = k.auto.index ∙ length-take-le n.result a.index.now (omega (arith, n.ensures)) in
    both_made n.result a.index.now k.new.index l m.new.index m.auto.index a.entries.now a.children.now a.marks.now k.result n.ensures k.ensures m.ensures
