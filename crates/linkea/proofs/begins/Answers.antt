use native.Mathlib.Omega.{arith}
use mathlib.Core.Path.{sym, ap, subst, ◌∙◌}
use mathlib.Core.List.{List}
use Prim.Native.Nat.{ℕ, ◌+◌}
use lib.Dec.{eqb}
use Rattle.linkea.specs.Conditions.{some}
use Rattle.linkea.proofs.PlaceLaws.{from, places_from_lem, no_place, AllGood, GoodRecord, good_record, good_here, good_on, pass_by, arrive}
use Rattle.linkea.proofs.RecordLaws.{length_read, good_link}
use Rattle.linkea.proofs.begins.Goals as goal
use Rattle.linkea.proofs.begins.Goals.{In-loop-at}

-- the record at the loop's place
good : (c : goal.In-loop-at) → GoodRecord c.args.l.now c.loop-at.at
good c =
    let w = c in
    let l = w.args.l.now in
    good_record l w.loop-at.at (good_here l w.loop-at.at (omega arith) w.loop-at.invariant.0)

pub returns-then-end-p : goal.returns-then-end-p
returns-then-end-p c = let a = c.args in sym (no_place a.l.now a.p (omega arith))

pub loop-at-init : goal.loop-at-init
loop-at-init c =
    let b = c in
    ((good_link b.args.l.now b.requires).records, ap (λ (ps : List ℕ). some (eqb b.args.p) ps) (places_from_lem b.args.l.now))

pub loop-at-smaller : goal.loop-at-smaller
loop-at-smaller c =
    let w = c in
    omega (arith, good (goal.at.loop-at-smaller c).In-loop-at, c.get.ensures, length_read w.args.l.now w.loop-at.at)

pub loop-at-preserved : goal.loop-at-preserved
loop-at-preserved c =
    let w = c in
    let l = w.args.l.now in
    let p = w.args.p in
    let e = sym (c.get.ensures ∙ length_read l w.loop-at.at) in (
      subst (λ (n : ℕ). AllGood l (w.loop-at.at + n)) e (good_on l w.loop-at.at (omega arith) w.loop-at.invariant.0),
      w.loop-at.invariant.1 ∙ pass_by l p w.loop-at.at (omega arith) w.loop-at.invariant.0 (omega arith)
          ∙ ap (λ (n : ℕ). some (eqb p) (from l (w.loop-at.at + n))) e,
    )

pub returns : goal.returns
returns c =
    let w = c in
    let l = w.args.l.now in
    arrive l w.args.p w.loop-at.at (omega arith) (omega arith) ∙ sym w.loop-at.invariant.1
