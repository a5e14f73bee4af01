use Rattle.tables.specs.Bytes.{parse}
use Rattle.classify.proofs.AnswerLaws.{parent_there, object_there}
use Rattle.writes.proofs.RowLaws.{decides_same}
use Rattle.decide.proofs.PartLaws.{at_part, at_object}
use Rattle.rules.specs.Settings.{settings_of}
use Rattle.decide.proofs.decide.Goals as goal

pub part-requires : goal.part-requires
part-requires c = let d = c in let a = d.args in (d.requires.tables, parent_there a.parents.now a.objects.now a.at d.requires.position c.if-at-eq1.true)

pub returns-then-at-eq1 : goal.returns-then-at-eq1
returns-then-at-eq1 c = let d = c in let a = d.args in let T = parse a.parents.now a.objects.now in decides_same a.parents.now a.objects.now _ _ _ c.part.ensures (at_part T (settings_of a.policy a.reserve.now) a.at c.if-at-eq1.true)

pub object-requires : goal.object-requires
object-requires c = let d = c in let a = d.args in (d.requires.tables, object_there a.parents.now a.objects.now a.at d.requires.position d.requires.before_end c.if-at-eq1.false)

pub returns : goal.returns
returns c = let d = c in let a = d.args in let T = parse a.parents.now a.objects.now in decides_same a.parents.now a.objects.now _ _ _ c.object.ensures (at_object T (settings_of a.policy a.reserve.now) a.at d.requires.position d.requires.before_end c.if-at-eq1.false)
