use mathlib.Core.Path.{sym, ap, ◌∙◌}
use Prim.Native.Nat.{ℕ, ◌+◌, ◌<◌}
use native.Mathlib.Omega.{arith}
use lib.ListN.{length}
use Rattle.linkea.specs.Link.{decode_link_ea, link_at}
use Rattle.linkea.proofs.PlaceLaws.{GoodRecord, good_record, good_here}
use Rattle.linkea.proofs.RecordLaws.{length_read}
use Rattle.names.specs.Findings.{same_link}
use Rattle.names_check.specs.Asked.{asked}
use Rattle.names_prune.proofs.RecordLaws.{to_start, to_end, to_hit, to_pass, walked_start, walked_on, walked_here, walked_next}
use Rattle.names_prune.proofs.records.stands_before.Goals as goal
use Rattle.names_prune.proofs.records.stands_before.Goals.{In-loop-j}

-- the loop's place has a record
place : (c : goal.In-loop-j) → c.loop-j.at < length c.args.l.now
place c =
    walked_on c.args.l.now c.loop-j.j c.loop-j.at c.loop-j.invariant.1 (omega arith)

good : (c : goal.In-loop-j) → GoodRecord c.args.l.now c.loop-j.at
good c =
    let l = c.args.l.now in
    good_record l c.loop-j.at (good_here l c.loop-j.at (place c) c.loop-j.invariant.1.good)

pub loop-j-init : goal.loop-j-init
loop-j-init c =
    let a = c.args in
    (omega arith, walked_start a.l.now c.requires.0, to_start (same_link (asked a.parent a.name.now)) (decode_link_ea a.l.now).links a.k)

pub is_link-requires : goal.is_link-requires
is_link-requires c =
    (place c, good_here c.args.l.now c.loop-j.at (place c) c.loop-j.invariant.1.good)

pub returns-then-is_link : goal.returns-then-is_link
returns-then-is_link c =
    let a = c.args in
    sym (c.loop-j.invariant.2
    ∙ to_hit (same_link (asked a.parent a.name.now)) (decode_link_ea a.l.now).links c.loop-j.j a.k (link_at a.l.now c.loop-j.at)
    (walked_here a.l.now c.loop-j.j c.loop-j.at c.loop-j.invariant.1 (place (goal.at.returns-then-is_link c).In-loop-j)) (omega arith) (sym c.is_link.ensures ∙ c.if-is_link.true))

pub get-requires : goal.get-requires
get-requires c = omega (arith, good (goal.at.get-requires c).In-loop-j)

pub overflow_add-at : goal.overflow_add-at
overflow_add-at c =
    omega (arith, good (goal.at.overflow_add-at c).In-loop-j, c.get.ensures, length_read c.args.l.now c.loop-j.at)

pub loop-j-preserved : goal.loop-j-preserved
loop-j-preserved c =
    let a = c.args in
    let e = walked_here a.l.now c.loop-j.j c.loop-j.at c.loop-j.invariant.1 (place (goal.at.loop-j-preserved c).In-loop-j) in (
      omega arith,
      walked_next a.l.now c.loop-j.j c.loop-j.at c.loop-j.invariant.1 (place (goal.at.loop-j-preserved c).In-loop-j) _ (ap (λ (n : ℕ). c.loop-j.at + n) (c.get.ensures ∙ length_read a.l.now c.loop-j.at)),
      c.loop-j.invariant.2
          ∙ to_pass (same_link (asked a.parent a.name.now)) (decode_link_ea a.l.now).links c.loop-j.j a.k (link_at a.l.now c.loop-j.at) e (omega arith)
          (sym c.is_link.ensures ∙ c.if-is_link.false),
    )

pub returns : goal.returns
returns c =
    let a = c.args in
    sym (c.loop-j.invariant.2 ∙ to_end (same_link (asked a.parent a.name.now)) (decode_link_ea a.l.now).links c.loop-j.j a.k (omega arith))
