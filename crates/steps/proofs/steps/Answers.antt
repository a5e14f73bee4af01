use mathlib.Core.Path.{refl, sym, ◌∙◌}
use native.Mathlib.Omega.{arith}
use Rattle.wire.specs.Numbers.{Bytes}
use Rattle.steps.proofs.Standing.{stands_sound, ready_stands}
use Rattle.steps.proofs.RunLaws.{told, none_within, room, within_next, here_start, here_end, here_used, here_stuck, here_next, stands_still, stands_next}
use Rattle.steps.proofs.steps.Goals as goal

pub loop-done-init : goal.loop-done-init
unfolding Bytes
loop-done-init c =
    let w = c in
    let a = w.args in
    let p : Bytes a.parents.now = λ i. omega (arith, c.slice_known-1.given i) in
    let o : Bytes a.objects.now = λ i. omega (arith, c.slice_known-2-1.given i) in
    let e = c.none-counts.ensures in (
      omega arith,
      refl,
      refl,
      none_within _ e,
      ready_stands a.parents.now a.objects.now a.reserve.now a.at w.requires p o,
      here_start a.parents.now a.objects.now a.reserve.now a.policy a.most _ a.at e,
    )

pub returns-then-is_end : goal.returns-then-is_end
returns-then-is_end c =
    let d = c in
    let l = d.loop-done in
    let a = d.args in
    let whole = told _ c.report.ensures (l.invariant.5 ∙ here_end l.parents l.objects a.reserve.now a.policy a.most l.counts l.position l.done l.invariant.3 l.invariant.4 (sym c.if-is_end.true ∙ c.is_end.ensures)) in
    record { report = whole.0; parents = whole.1.0; objects = whole.1.1 }

pub step-outcome-requires : goal.step-outcome-requires
step-outcome-requires c =
    let l = c.loop-done in
    let v = c.requires in
    record {
      tables = stands_sound l.parents l.objects l.position l.invariant.4;
      reserve = v.reserve;
      position = l.invariant.4.position;
      before_end = sym c.is_end.ensures ∙ c.if-is_end.false;
    }

pub returns-in-Err : goal.returns-in-Err
returns-in-Err c =
    let b = c in
    let w = b in
    let l = w.loop-done in
    let v = w in
    let a = v.args in
    let n = sym w.if-is_end.false ∙ w.is_end.ensures in
    let whole = told _ (c.report-in-Err.ensures ∙ (λ i. record { answer = c.number.ensures i; steps = l.done; counts = l.counts; position = l.position })) (l.invariant.5 ∙ here_stuck l.parents l.objects a.reserve.now a.policy a.most l.counts l.position l.done l.invariant.3 l.invariant.4 w.step-outcome.result _ _ w.loop-done-test.true n w.step-outcome.ensures.outcome w.step-outcome.ensures.parents w.step-outcome.ensures.objects b.in-Err.stop b.in-Err.is) in
    record { report = whole.0; parents = whole.1.0; objects = whole.1.1 }

pub tallied-counts-requires : goal.tallied-counts-requires
tallied-counts-requires c =
    let w = c in
    let l = w.loop-done in
    room l.counts l.done l.invariant.3 (omega (arith, w.loop-done-test.true, w.ranges.most))

pub next_position-position-requires : goal.next_position-position-requires
unfolding Bytes
next_position-position-requires c =
    let w = c in
    let l = w.loop-done in
    let v = w in
    let a = v.args in
    let n = sym w.if-is_end.false ∙ w.is_end.ensures in
    let s : Bytes a.reserve.now = λ i. omega (arith, w.shared_slice_known-1.given i) in
    let t = stands_still l.parents l.objects a.reserve.now a.policy a.most l.counts l.position l.done l.invariant.3 l.invariant.4 w.step-outcome.result _ _ w.loop-done-test.true n w.step-outcome.ensures.outcome w.step-outcome.ensures.parents w.step-outcome.ensures.objects s v.requires.reserve in
    (stands_sound _ _ _ t, t.position)

pub overflow_add-done : goal.overflow_add-done
overflow_add-done c = omega (arith, c.loop-done-test.true, c.ranges.most)

pub loop-done-smaller : goal.loop-done-smaller
loop-done-smaller c = omega (arith, c.loop-done-test.true)

pub loop-done-preserved : goal.loop-done-preserved
unfolding Bytes
loop-done-preserved c =
    let w = c in
    let l = w.loop-done in
    let v = w in
    let a = v.args in
    let n = sym w.if-is_end.false ∙ w.is_end.ensures in
    let s : Bytes a.reserve.now = λ i. omega (arith, w.shared_slice_known-1.given i) in
    let k = w.step-outcome.auto in
    let x = c.tallied-counts.ensures in
    let y = c.next_position-position.ensures in (
      omega (arith, c.loop-done-test.true),
      k.parents ∙ l.invariant.1,
      k.objects ∙ l.invariant.2,
      within_next l.counts l.done l.invariant.3 w.step-outcome.result _ x,
      stands_next l.parents l.objects a.reserve.now a.policy a.most l.counts l.position l.done l.invariant.3 l.invariant.4 w.step-outcome.result _ _ w.loop-done-test.true n w.step-outcome.ensures.outcome w.step-outcome.ensures.parents w.step-outcome.ensures.objects s v.requires.reserve _ y,
      l.invariant.5 ∙ here_next l.parents l.objects a.reserve.now a.policy a.most l.counts l.position l.done l.invariant.3 l.invariant.4 w.step-outcome.result _ _ w.loop-done-test.true n w.step-outcome.ensures.outcome w.step-outcome.ensures.parents w.step-outcome.ensures.objects s v.requires.reserve _ _ c.in_default.not-Err x y,
    )

pub returns : goal.returns
returns c =
    let d = c in
    let l = d.loop-done in
    let a = d.args in
    let whole = told _ c.report-2.ensures (l.invariant.5 ∙ here_used l.parents l.objects a.reserve.now a.policy a.most l.counts l.position l.done l.invariant.3 l.invariant.4 (omega arith) _ c.last_answer.ensures) in
    record { report = whole.0; parents = whole.1.0; objects = whole.1.1 }
