use native.Mathlib.Omega.{arith}
use Rattle.tables.specs.Bytes.{parse}
use Rattle.writes.proofs.RowLaws.{decides_same}
use Rattle.decide.proofs.PartLaws.{part_header, part_slot}
use Rattle.rules.specs.Settings.{settings_of}
use Rattle.decide.proofs.part.Goals as goal

pub returns-then-part-eq0 : goal.returns-then-part-eq0
returns-then-part-eq0 c = let a = c.args in let T = parse a.parents.now a.objects.now in decides_same a.parents.now a.objects.now _ _ _ c.header.ensures (part_header T (settings_of a.policy a.reserve.now) a.r a.part c.if-part-eq0.true)

pub returns : goal.returns
returns c = let a = c.args in let T = parse a.parents.now a.objects.now in decides_same a.parents.now a.objects.now _ _ _ c.slot.ensures (part_slot T (settings_of a.policy a.reserve.now) a.r a.part (omega (arith, c.if-part-eq0.false)))
