use native.Mathlib.Omega.{arith}
use Rattle.layout.proofs.LayoutLaws.{exact_short, exact_is, start_most}
use Rattle.layout.proofs.exact_length.Goals as goal

pub returns-then-layout-lt-PLAIN_HEADER : goal.returns-then-layout-lt-PLAIN_HEADER
returns-then-layout-lt-PLAIN_HEADER c = exact_short _ (omega arith)

pub overflow_add-result : goal.overflow_add-result
overflow_add-result c = omega (arith, start_most _ c.slot_start-h.ensures)

pub returns : goal.returns
returns c = exact_is _ _ _ c.slot_start-h.ensures c.stripe_count-n.ensures
