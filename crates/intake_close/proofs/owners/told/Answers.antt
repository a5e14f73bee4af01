use native.Mathlib.Omega.{arith}
use Rattle.intake_close.proofs.OwnerLaws.{told_none, told_some}
use Rattle.intake_close.proofs.owners.told.Goals as goal

pub returns-then-at-from : goal.returns-then-at-from
returns-then-at-from c = told_none _ _ _ c.if-at-from.true

pub returns : goal.returns
returns c = told_some _ _ _ (omega arith) c.if-at-from.false
