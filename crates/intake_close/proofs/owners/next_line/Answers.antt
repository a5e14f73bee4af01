use native.Mathlib.Omega.{arith}
use Rattle.intake_close.proofs.OwnerLaws.{after_next, after_last}
use Rattle.intake_close.proofs.owners.next_line.Goals as goal

pub returns-then-end-s : goal.returns-then-end-s
returns-then-end-s c = after_next _ _ _ c.line_stop-end.ensures (omega arith)

pub returns : goal.returns
returns c = after_last _ _ _ c.line_stop-end.ensures (omega arith)
