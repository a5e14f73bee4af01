use native.Mathlib.Omega.{arith}
use Rattle.layout.proofs.HeaderLaws.{size_least}
use Rattle.layout_write.proofs.WriteLaws.{writable_rules}
use Rattle.layout_write.proofs.may_write.Goals as goal

pub overflow_sub-header_size : goal.overflow_sub-header_size
overflow_sub-header_size c = omega (arith, size_least c.args.h.magic, c.header_size.ensures)

pub returns-then-good_header : goal.returns-then-good_header
returns-then-good_header c =
    let a = c.args in
    grind (arith, writable_rules a.h a.count a.pool.now a.numbers.now)

pub returns-else-good_header : goal.returns-else-good_header
returns-else-good_header c =
    let a = c.args in
    grind (arith, writable_rules a.h a.count a.pool.now a.numbers.now)
