use native.Mathlib.Omega.{arith}
use Rattle.intake_close.proofs.OwnerLaws.{space_none, space_other, space_number}
use Rattle.intake_close.proofs.owners.spaced.Goals as goal
use Rattle.intake_close.proofs.owners.spaced.Goals.{then-line-at-via-then-line-at, then-line-at-via-else-line-at+then-line-at-ne32}

pub returns-then-line-at : goal.returns-then-line-at
returns-then-line-at c =
    let a = c.args in
    elim c.then-line-at.branch [
      | then-line-at-via-then-line-at w ↦ space_none a.line.now a.at (omega (arith, w.if-line-at.true))
      | then-line-at-via-else-line-at+then-line-at-ne32 w ↦ space_other a.line.now a.at (omega (arith, w.if-line-at.false)) w.if-line-at-ne32.true
    ]

pub returns : goal.returns
returns c = let a = c.args in space_number a.line.now a.at (omega arith) _ c.if-line-at-ne32.false c.number.ensures
