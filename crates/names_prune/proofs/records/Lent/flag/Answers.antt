use mathlib.Core.Path.{ap, ◌∙◌}
use Prim.Native.Nat.{ℕ, ◌+◌}
use native.Mathlib.Omega.{arith}
use lib.ListN.{length-set}
use Rattle.linkea.specs.Link.{decode_link_ea, link_at}
use Rattle.linkea.proofs.PlaceLaws.{GoodRecord, good_record, good_here}
use Rattle.linkea.proofs.RecordLaws.{length_read}
use Rattle.names.specs.Rows.{parse_entries, parse_children}
use Rattle.names.specs.Visible.{seen_by}
use Rattle.names_prune.proofs.RecordLaws.{walked_start, walked_end, walked_here, walked_next}
use Rattle.names_prune.proofs.FlagLaws.{flag_byte, gone_most, gone_byte, flagged_start, flagged_next, flagged_end}
use Rattle.names_prune.proofs.records.Lent.flag.Goals as goal
use Rattle.names_prune.proofs.records.Lent.flag.Goals.{In-loop-at}

-- the record at the loop's place
good : (c : goal.In-loop-at) → GoodRecord c.args.l.now c.loop-at.at
good c =
    let l = c.args.l.now in
    good_record l c.loop-at.at (good_here l c.loop-at.at (omega arith) c.loop-at.invariant.0.good)

pub loop-at-init : goal.loop-at-init
loop-at-init c =
    let a = c.args in (
      walked_start a.l.now c.requires.0,
      flagged_start (seen_by a.self.marks.now (parse_children a.self.children.now)) (parse_entries a.self.entries.now) a.r (decode_link_ea a.l.now).links a.flags.now,
      omega arith,
    )

pub stays-stays-requires : goal.stays-stays-requires
stays-stays-requires c =
    let l = c.args.l.now in
    (c.requires.0, omega arith, good_here l c.loop-at.at (omega arith) c.loop-at.invariant.0.good, c.loop-at.invariant.0.count)

pub bounds-flags-k : goal.bounds-flags-k
bounds-flags-k c = omega (arith, c.loop-at.invariant.0)

pub overflow_add-gone : goal.overflow_add-gone
overflow_add-gone c = omega (arith, c.loop-at.invariant.0, c.loop-at.invariant.1.count, gone_most _ _ c.from-gone.ensures)

pub overflow_add-k : goal.overflow_add-k
overflow_add-k c = omega (arith, c.loop-at.invariant.0)

pub get-requires : goal.get-requires
get-requires c = omega (arith, good (goal.at.get-requires c).In-loop-at)

pub overflow_add-at : goal.overflow_add-at
overflow_add-at c =
    omega (arith, good (goal.at.overflow_add-at c).In-loop-at, c.get.ensures, length_read c.args.l.now c.loop-at.at)

pub loop-at-smaller : goal.loop-at-smaller
loop-at-smaller c =
    omega (arith, good (goal.at.loop-at-smaller c).In-loop-at, c.get.ensures, length_read c.args.l.now c.loop-at.at)

pub loop-at-preserved : goal.loop-at-preserved
loop-at-preserved c =
    let a = c.args in
    let l = a.l.now in (
      walked_next l c.loop-at.k c.loop-at.at c.loop-at.invariant.0 (omega arith) _ (ap (λ (n : ℕ). c.loop-at.at + n) (c.get.ensures ∙ length_read l c.loop-at.at)),
      rw (← gone_byte _ _ _ c.from.ensures c.from-gone.ensures)
          (flagged_next (seen_by a.self.marks.now (parse_children a.self.children.now)) (parse_entries a.self.entries.now) a.r (decode_link_ea l).links c.loop-at.k c.loop-at.gone _
          c.loop-at.flags (link_at l c.loop-at.at) c.loop-at.invariant.1 (walked_here l c.loop-at.k c.loop-at.at c.loop-at.invariant.0 (omega arith))
          (omega (arith, c.loop-at.invariant.0)) (flag_byte _ _ _ c.from.ensures c.stays-stays.ensures)),
      length-set c.loop-at.flags c.loop-at.k _ ∙ c.loop-at.invariant.2,
    )

pub returns : goal.returns
returns c =
    let a = c.args in
    let l = a.l.now in
    let e = walked_end l c.loop-at.k c.loop-at.at c.loop-at.invariant.0 (omega arith) in
    let f = flagged_end (seen_by a.self.marks.now (parse_children a.self.children.now)) (parse_entries a.self.entries.now) a.r (decode_link_ea l).links c.loop-at.k c.loop-at.gone
    c.loop-at.flags e c.loop-at.invariant.1 in
    record { stay = f.0; count = f.1; few = omega (arith, e, c.loop-at.invariant.0) }
