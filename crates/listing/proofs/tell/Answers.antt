use mathlib.Core.Path.{refl, sym, ◌∙◌}
use native.Mathlib.Omega.{arith}
use Rattle.tables.specs.Bytes.{parse}
use Rattle.listing.specs.Listing.{room, told_positions}
use Rattle.rules.proofs.Theorem.Runs.Order.{exists_is, next_exists}
use Rattle.listing.proofs.TellLaws.{leaves_start, leaves_next, ends_there, ends_full}
use Rattle.listing.proofs.tell.Goals as goal

pub loop-done-init : goal.loop-done-init
loop-done-init c =
    let w = c in
    let a = w.args in
    (omega arith, refl, w.requires.1, leaves_start (parse a.parents.now a.objects.now) _ a.at a.out.now)

pub returns-then-is_end : goal.returns-then-is_end
unfolding room told_positions
returns-then-is_end c =
    let l = c.loop-done in
    let a = c.args in
    let whole = ends_there (parse a.parents.now a.objects.now) _ a.at a.out.now l.done l.position l.out l.invariant.3 (sym c.is_end.ensures ∙ c.if-is_end.true) in
    record { done = whole.0; position = whole.1.0; out = whole.1.1 }

pub class_of-class-requires : goal.class_of-class-requires
class_of-class-requires c =
    (c.requires.0, c.loop-done.invariant.2, sym c.is_end.ensures ∙ c.if-is_end.false)

pub next_position-position-requires : goal.next_position-position-requires
next_position-position-requires c = (c.requires.0, c.loop-done.invariant.2)

pub loop-done-preserved : goal.loop-done-preserved
loop-done-preserved c =
    let l = c.loop-done in
    let a = c.args in
    let T = parse a.parents.now a.objects.now in
    let y = c.next_position-position.ensures in (
      omega arith,
      omega (arith, c.put_class.auto, l.invariant.1),
      rw y (exists_is T _ (next_exists T _)),
      leaves_next T _ a.at a.out.now l.done l.position l.out l.invariant.3 (omega arith) (sym c.is_end.ensures ∙ c.if-is_end.false) _ c.class_of-class.ensures _ c.put_class.ensures _ y,
    )

pub returns : goal.returns
unfolding room told_positions
returns c =
    let l = c.loop-done in
    let a = c.args in
    let whole = ends_full (parse a.parents.now a.objects.now) _ a.at a.out.now l.done l.position l.out l.invariant.3 (omega arith) in
    record { done = whole.0; position = whole.1.0; out = whole.1.1 }
