use Rattle.std.proofs.Common.{◌≡◌, ◌+◌, ◌*◌, ◌≤◌, true, length}
use Rattle.std.specs.Slice.Iter.{chunks_exact_size}
use Rattle.wire.proofs.ChunkLaws.{left}
use Rattle.tables.specs.Bytes.{parent_size, parse_parents}
use Rattle.tables.specs.Check.{all, when_used, good_layout, max_parents}
use Rattle.tables.specs.Positions.{row_steps}
use Rattle.tables.proofs.PositionLaws.{steps_of}
use Rattle.positions.proofs.row_steps.Given as goal

abbrev pub invariant-loop-row : goal.invariant-loop-row
invariant-loop-row l = record {
  size : chunks_exact_size l.row-iterator ≡ parent_size;
  layouts : all (when_used good_layout) (left l.row-iterator) ≡ true;
  bound : l.steps + 65536 * length (left l.row-iterator) ≤ 65536 * max_parents;
  steps : row_steps (parse_parents l.parents) ≡ l.steps + steps_of (left l.row-iterator);
}
