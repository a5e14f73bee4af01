use Rattle.std.proofs.Common.{rules, arith, ◌/◌, ◌∙◌, length}
use Rattle.wire.proofs.ChunkLaws.{chunks_all}
use Rattle.layout.specs.Slot.{slot_size, slot_of, allowed_slot}
use Rattle.layout.proofs.SlotLaws.{allowed_parts}
use Rattle.layout.proofs.allowed_slots.Goals as goal

pub returns : goal.returns
returns c =
    let a = c.args in
    chunks_all (λ part. allowed_slot a.holes (slot_of part 0)) _ _ _ c.all.ensures.ran (omega arith) c.chunks_exact.ensures.rest c.chunks_exact.ensures.size (λ x b q k. search rules)
    ∙ allowed_parts a.holes (length a.area.now / slot_size) a.area.now
