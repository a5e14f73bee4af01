use Rattle.std.proofs.Common.{◌≡◌, ◌∷◌, ap, ◌∙◌, arith, length}
use Rattle.std.specs.Slice.Iter.{chunks_exact_rest, chunks_exact_size}
use Rattle.wire.proofs.ChunkLaws.{left, left_first, left_some, left_none}
use Rattle.tables.specs.Bytes.{parent_size, parent_rows}
use Rattle.tables.specs.Check.{when_used, good_layout, good_layouts}
use Rattle.tables.proofs.AllLaws.{all_first, all_rest}
use Rattle.tables.proofs.PositionLaws.{parents_many, steps_start, steps_step, steps_end}
use Rattle.positions.proofs.row_steps.Goals as goal
use Rattle.positions.proofs.row_steps.Goals.{In-Some}

pub loop-row-init : goal.loop-row-init
unfolding good_layouts parent_rows
loop-row-init c =
    let p = c.args.parents.now in
    let s = c.into_iter-row-iterator.result in
    let e = c.into_iter-row-iterator.ensures.into_iter_gives in
    let z : chunks_exact_size s ≡ parent_size = ap chunks_exact_size e ∙ c.chunks_exact-row-items.ensures.size in
    let k : left s ≡ parent_rows p = left_first s parent_size p (ap chunks_exact_rest e ∙ c.chunks_exact-row-items.ensures.rest) z in
    record {
      size = z;
      layouts = rw k c.requires.0;
      bound = rw k (omega (arith, parents_many p));
      steps = rw k (omega (arith, steps_start p));
    }

taken : (c : goal.In-Some) → left c.loop-row.row-iterator ≡ c.in-Some.row.now ∷ left c.next.new.self
taken c = left_some c.loop-row.row-iterator c.next.new.self (omega (arith, c.loop-row.invariant.size)) c.in-Some.row c.in-Some.ensures.steps

pub row_width-requires : goal.row_width-requires
row_width-requires c = (
  c.in-Some.ensures.steps.1.1 ∙ c.loop-row.invariant.size,
  all_first (when_used good_layout) _ _ _ (taken c) c.loop-row.invariant.layouts,
)

pub loop-row-preserved : goal.loop-row-preserved
loop-row-preserved c =
    let i = c.loop-row.invariant in
    let k : left c.loop-row.row-iterator ≡ c.in-Some.row.now ∷ left c.next.new.self = taken (goal.at.loop-row-preserved c).In-Some in
    record {
      size = c.in-Some.ensures.steps.0 ∙ i.size;
      layouts = all_rest (when_used good_layout) _ _ _ k i.layouts;
      bound = omega (arith, ap length k);
      steps = omega (arith, steps_step _ _ _ _ k c.row_width.ensures);
    }

pub returns : goal.returns
returns c =
    let k = left_none c.loop-row.row-iterator c.next.new.self (omega (arith, c.loop-row.invariant.size)) c.in-None.ensures.steps in
    omega (arith, c.loop-row.invariant.steps, steps_end _ k)
