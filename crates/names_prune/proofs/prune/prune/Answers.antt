use mathlib.Core.Path.{refl, ◌∙◌}
use native.Mathlib.Omega.{arith}
use Rattle.names.specs.Rows.{parse_entries, parse_children}
use Rattle.names.specs.Visible.{seen_by}
use Rattle.names.proofs.SoundLaws.{parsed_children}
use Rattle.names_prune.proofs.PruneLaws.{swept_start, swept_next, swept_end, sees_again, ready_again}
use Rattle.names_prune.proofs.prune.prune.Goals as goal

pub loop-r-init : goal.loop-r-init
loop-r-init c =
    let a = c.args in (
      omega arith,
      omega arith,
      omega arith,
      record { sound = c.requires.0; indexed = c.requires.1; listed = c.requires.2; noted = c.requires.3 },
      refl,
      swept_start (seen_by a.marks.now (parse_children a.children.now)) (parse_entries a.entries.now) (parse_children a.children.now),
    )

pub prune_child-total-requires : goal.prune_child-total-requires
prune_child-total-requires c = (c.loop-r.invariant.3, omega arith)

pub overflow_add-total : goal.overflow_add-total
overflow_add-total c = omega (arith, c.loop-r.invariant.3.indexed.few, c.prune_child-total.ensures.2)

pub loop-r-preserved : goal.loop-r-preserved
loop-r-preserved c =
    let p = c.prune_child-total in
    let a = c.args in
    let cs = parse_children a.children.now in
    let s = seen_by a.marks.now cs in
    let i = c.loop-r.invariant in
    let l = p.auto.children in (
      omega arith,
      l ∙ i.1,
      omega (arith, p.ensures.2),
      ready_again a.entries.now c.loop-r.children _ a.marks.now a.index.now a.n a.places.now a.notes.now i.3 c.loop-r.r l p.ensures.0 p.ensures.3,
      sees_again a.entries.now c.loop-r.children _ a.marks.now a.index.now a.n a.places.now a.notes.now i.3 c.loop-r.r l p.ensures.0 p.ensures.3 ∙ i.4,
      swept_next s (parse_entries a.entries.now) cs (parse_children c.loop-r.children) c.loop-r.r c.loop-r.total i.5 _ i.4 _ _
          (omega (arith, parsed_children c.loop-r.children)) p.ensures.0 p.ensures.1,
    )

pub returns : goal.returns
returns c =
    let a = c.args in
    let cs = parse_children a.children.now in
    let i = c.loop-r.invariant in
    let f = swept_end (seen_by a.marks.now cs) (parse_entries a.entries.now) cs (parse_children c.loop-r.children) c.loop-r.r c.loop-r.total i.5
    (omega (arith, parsed_children c.loop-r.children)) in
    (f.0, f.1, i.3.sound)
