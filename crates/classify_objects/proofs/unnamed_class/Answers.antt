use mathlib.Core.Path.{sym, ap}
use Rattle.tables.specs.Bytes.{parse}
use Rattle.rules.specs.Classes.{unnamed_class}
use Rattle.classify_objects.proofs.ObjectLaws.{class_empty, class_orphan, class_conflict}
use Rattle.classify_objects.proofs.unnamed_class.Goals as goal

pub returns-then-fresh : goal.returns-then-fresh
returns-then-fresh c =
    let a = c.args in
    class_empty (parse a.parents.now a.objects.now) a.fresh a.claim c.in-Some.place c.in-Some.is c.if-fresh.true

pub returns-in-None : goal.returns-in-None
unfolding unnamed_class
returns-in-None c =
    let a = c.args in
    ap (unnamed_class (parse a.parents.now a.objects.now) a.fresh) (sym c.in-None.is)

pub returns-then-is_way : goal.returns-then-is_way
returns-then-is_way c =
    let a = c.args in
    class_orphan (parse a.parents.now a.objects.now) a.fresh a.claim c.in-Some.place c.in-Some.is c.if-fresh.false _ c.way.ensures _ c.is_way.ensures c.if-is_way.true

pub returns-else-is_way : goal.returns-else-is_way
returns-else-is_way c =
    let a = c.args in
    class_conflict (parse a.parents.now a.objects.now) a.fresh a.claim c.in-Some.place c.in-Some.is c.if-fresh.false _ c.way.ensures _ c.is_way.ensures c.if-is_way.false
