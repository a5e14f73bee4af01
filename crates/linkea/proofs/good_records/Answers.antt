use native.Mathlib.Omega.{arith}
use mathlib.Core.Path.{sym, ap, ◌∙◌}
use Prim.Native.Nat.{ℕ, ◌+◌}
use Rattle.linkea.proofs.PlaceLaws.{GoodRecord, good_record, good_from, good_start, good_stop_lem, good_next, good_end}
use Rattle.linkea.proofs.RecordLaws.{length_read}
use Rattle.linkea.proofs.good_records.Goals as goal
use Rattle.linkea.proofs.good_records.Goals.{Else-bad_record}

-- the record at the loop's place
good : (c : goal.Else-bad_record) → GoodRecord c.args.l.now c.loop-at.at
good c =
    let w = c in
    good_record w.args.l.now w.loop-at.at (sym c.bad_record.ensures ∙ c.if-bad_record.false)

pub returns-then-bad_record : goal.returns-then-bad_record
returns-then-bad_record c =
    let w = c in
    let a = w.args in
    sym (good_start a.l.now a.count ∙ w.loop-at.invariant.1 ∙ sym (good_stop_lem a.l.now a.count w.loop-at.k w.loop-at.at (omega arith) (sym c.bad_record.ensures ∙ c.if-bad_record.true)))

pub get-requires : goal.get-requires
get-requires c = omega (arith, good c)

pub loop-at-smaller : goal.loop-at-smaller
loop-at-smaller c =
    let w = c in
    omega (arith, good (goal.at.loop-at-smaller c).Else-bad_record, c.get.ensures, length_read w.args.l.now w.loop-at.at)

pub loop-at-preserved : goal.loop-at-preserved
loop-at-preserved c =
    let w = c in
    let a = w.args in
    let e = c.get.ensures ∙ length_read a.l.now w.loop-at.at in (
      omega (arith, good (goal.at.loop-at-preserved c).Else-bad_record, e),
      w.loop-at.invariant.1 ∙ good_next a.l.now a.count w.loop-at.k w.loop-at.at (omega arith) (sym c.bad_record.ensures ∙ c.if-bad_record.false)
          ∙ ap (λ (n : ℕ). good_from a.l.now a.count (w.loop-at.k + 1) (w.loop-at.at + n)) (sym e),
    )

pub returns : goal.returns
returns c =
    let w = c in
    let a = w.args in
    good_end a.l.now a.count w.loop-at.k w.loop-at.at (omega arith) ∙ sym (good_start a.l.now a.count ∙ w.loop-at.invariant.1)
