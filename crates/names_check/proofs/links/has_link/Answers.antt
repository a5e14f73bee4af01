use mathlib.Core.Path.{sym, ap, subst, ◌∙◌}
use Prim.Native.Nat.{ℕ, ◌+◌}
use native.Mathlib.Omega.{arith}
use Rattle.linkea.proofs.PlaceLaws.{AllGood, GoodRecord, good_record, good_here, good_on}
use Rattle.linkea.proofs.RecordLaws.{length_read, good_link}
use Rattle.names.specs.Findings.{same_link}
use Rattle.names_check.specs.Asked.{asked}
use Rattle.names_check.proofs.LinkLaws.{any_from, any_start, any_end, any_hit, any_pass}
use Rattle.names_check.proofs.links.has_link.Goals as goal
use Rattle.names_check.proofs.links.has_link.Goals.{In-loop-at}

-- the record at the loop's place
good : (c : goal.In-loop-at) → GoodRecord c.args.l.now c.loop-at.at
good c =
    let w = c in
    let l = w.args.l.now in
    good_record l w.loop-at.at (good_here l w.loop-at.at (omega arith) w.loop-at.invariant.0)

pub loop-at-init : goal.loop-at-init
loop-at-init c =
    let b = c in
    ((good_link b.args.l.now b.requires).records, any_start (same_link (asked b.args.parent b.args.name.now)) b.args.l.now)

pub is_link-requires : goal.is_link-requires
is_link-requires c =
    let w = c in
    (omega arith, good_here w.args.l.now w.loop-at.at (omega arith) w.loop-at.invariant.0)

pub returns-then-is_link : goal.returns-then-is_link
returns-then-is_link c =
    let w = c in
    let a = w.args in
    sym (w.loop-at.invariant.1 ∙ any_hit (same_link (asked a.parent a.name.now)) a.l.now w.loop-at.at (omega arith) w.loop-at.invariant.0 (sym c.is_link.ensures ∙ c.if-is_link.true))

pub get-requires : goal.get-requires
get-requires c = omega (arith, good (goal.at.get-requires c).In-loop-at)

pub overflow_add-at : goal.overflow_add-at
overflow_add-at c =
    let w = c in
    omega (arith, good (goal.at.overflow_add-at c).In-loop-at, c.get.ensures, length_read w.args.l.now w.loop-at.at)

pub loop-at-smaller : goal.loop-at-smaller
loop-at-smaller c =
    let w = c in
    omega (arith, good (goal.at.loop-at-smaller c).In-loop-at, c.get.ensures, length_read w.args.l.now w.loop-at.at)

pub loop-at-preserved : goal.loop-at-preserved
loop-at-preserved c =
    let w = c in
    let a = w.args in
    let t = same_link (asked a.parent a.name.now) in
    let e = sym (c.get.ensures ∙ length_read a.l.now w.loop-at.at) in (
      subst (λ (n : ℕ). AllGood a.l.now (w.loop-at.at + n)) e (good_on a.l.now w.loop-at.at (omega arith) w.loop-at.invariant.0),
      w.loop-at.invariant.1 ∙ any_pass t a.l.now w.loop-at.at (omega arith) w.loop-at.invariant.0 (sym c.is_link.ensures ∙ c.if-is_link.false)
          ∙ ap (λ (n : ℕ). any_from t a.l.now (w.loop-at.at + n)) e,
    )

pub returns : goal.returns
returns c =
    let w = c in
    let a = w.args in
    sym (w.loop-at.invariant.1 ∙ any_end (same_link (asked a.parent a.name.now)) a.l.now w.loop-at.at (omega arith))
