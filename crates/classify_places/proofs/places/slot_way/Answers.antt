use Rattle.tables.specs.Bytes.{parse}
use Rattle.rules.specs.Places.{slot_way}
use Rattle.classify_places.proofs.PlaceLaws.{slot_taken, slot_held}
use Rattle.classify_places.proofs.places.slot_way.Goals as goal

pub returns-in-Hole : goal.returns-in-Hole
unfolding slot_way
returns-in-Hole c = cc

pub returns-then-takeable : goal.returns-then-takeable
returns-then-takeable c =
    let a = c.args in
    slot_taken (parse a.parents.now a.objects.now) a.place a.r a.j a.s c.in-Names.g c.in-Names.field-1 c.in-Names.field-2 c.in-Names.is _ c.takeable.ensures c.if-takeable.true

pub returns-else-takeable : goal.returns-else-takeable
returns-else-takeable c =
    let a = c.args in
    slot_held (parse a.parents.now a.objects.now) a.place a.r a.j a.s c.in-Names.g c.in-Names.field-1 c.in-Names.field-2 c.in-Names.is _ c.takeable.ensures c.if-takeable.false
