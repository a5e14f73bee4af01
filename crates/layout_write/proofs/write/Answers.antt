use native.Mathlib.Omega.{arith}
use mathlib.Core.Path.{sym, ◌∙◌}
use Rattle.layout.proofs.HeaderLaws.{size_known}
use Rattle.layout_write.proofs.WriteLaws.{write_facts, write_bad, write_short, write_done}
use Rattle.layout_write.proofs.write.Goals as goal

pub returns-then-not-may_write : goal.returns-then-not-may_write
returns-then-not-may_write c = let whole = write_bad _ _ _ _ _ (sym c.may_write.ensures ∙ c.if-not-may_write.true) in
    record { answer = whole.0; bytes = whole.1 }

pub overflow_mul-size : goal.overflow_mul-size
overflow_mul-size c = omega (arith, write_facts _ _ _ _ (sym c.may_write.ensures ∙ c.if-not-may_write.false), size_known _ _ c.header_size-start.ensures)

pub overflow_add-size : goal.overflow_add-size
overflow_add-size c = omega (arith, write_facts _ _ _ _ (sym c.may_write.ensures ∙ c.if-not-may_write.false), size_known _ _ c.header_size-start.ensures)

pub returns-then-dest-size : goal.returns-then-dest-size
returns-then-dest-size c = let whole = write_short _ _ _ _ _ _ (sym c.may_write.ensures ∙ c.if-not-may_write.false) c.header_size-start.ensures (omega arith) in
    record { answer = whole.0; bytes = whole.1 }

pub overflow_cast-count : goal.overflow_cast-count
overflow_cast-count c = omega (arith, write_facts _ _ _ _ (sym c.may_write.ensures ∙ c.if-not-may_write.false), size_known _ _ c.header_size-start.ensures)

pub write_header-requires : goal.write_header-requires
write_header-requires c = omega (arith, write_facts _ _ _ _ (sym c.may_write.ensures ∙ c.if-not-may_write.false), size_known _ _ c.header_size-start.ensures)

pub put_bytes-requires : goal.put_bytes-requires
put_bytes-requires c = omega (arith, write_facts _ _ _ _ (sym c.may_write.ensures ∙ c.if-not-may_write.false), size_known _ _ c.header_size-start.ensures)

pub write_slots-requires : goal.write_slots-requires
write_slots-requires c =
    let f = write_facts _ _ _ _ (sym c.may_write.ensures ∙ c.if-not-may_write.false) in
    (omega (arith, f, size_known _ _ c.header_size-start.ensures), f.even)

pub returns : goal.returns
returns c = let whole = write_done _ _ _ _ _ _ _ _ _ (sym c.may_write.ensures ∙ c.if-not-may_write.false) c.header_size-start.ensures (omega arith) c.write_header.ensures c.put_bytes.ensures c.write_slots.ensures in
    record { answer = whole.0; bytes = whole.1 }
