use mathlib.Core.Path.{ap, sym}
use Rattle.rules.specs.Runs.{repair_number}
use Rattle.steps.proofs.counts.repair_number.Goals as goal

pub returns-in-OfSelf : goal.returns-in-OfSelf
unfolding repair_number
returns-in-OfSelf c = ap repair_number (sym c.in-OfSelf.is)

pub returns-in-OfMultiple : goal.returns-in-OfMultiple
unfolding repair_number
returns-in-OfMultiple c = ap repair_number (sym c.in-OfMultiple.is)

pub returns-in-OfDangling : goal.returns-in-OfDangling
unfolding repair_number
returns-in-OfDangling c = ap repair_number (sym c.in-OfDangling.is)

pub returns-in-OfBlank : goal.returns-in-OfBlank
unfolding repair_number
returns-in-OfBlank c = ap repair_number (sym c.in-OfBlank.is)

pub returns-in-OfUnmatched : goal.returns-in-OfUnmatched
unfolding repair_number
returns-in-OfUnmatched c = ap repair_number (sym c.in-OfUnmatched.is)

pub returns-in-OfOwner : goal.returns-in-OfOwner
unfolding repair_number
returns-in-OfOwner c = ap repair_number (sym c.in-OfOwner.is)

pub returns-in-OfEmpty : goal.returns-in-OfEmpty
unfolding repair_number
returns-in-OfEmpty c = ap repair_number (sym c.in-OfEmpty.is)

pub returns-in-OfOrphan : goal.returns-in-OfOrphan
unfolding repair_number
returns-in-OfOrphan c = ap repair_number (sym c.in-OfOrphan.is)

pub returns-in-OfWrongOst : goal.returns-in-OfWrongOst
unfolding repair_number
returns-in-OfWrongOst c = ap repair_number (sym c.in-OfWrongOst.is)
