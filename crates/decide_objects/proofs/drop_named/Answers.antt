use Rattle.decide_objects.proofs.ObjectLaws.{drop_hole, drop_none, drop_row}
use Rattle.decide_objects.proofs.drop_named.Goals as goal

pub returns-in-Hole : goal.returns-in-Hole
returns-in-Hole c = drop_hole _ _ c.in-Hole.is

pub returns-in-None : goal.returns-in-None
returns-in-None c = drop_none _ _ c.in-Names.g c.in-Names.field-1 c.in-Names.field-2 c.in-Names.is _ c.object_row.ensures c.in-None.is

pub returns-in-Some : goal.returns-in-Some
returns-in-Some c = drop_row _ _ c.in-Names.g c.in-Names.field-1 c.in-Names.field-2 c.in-Names.is _ c.object_row.ensures c.in-Some.o c.in-Some.is
