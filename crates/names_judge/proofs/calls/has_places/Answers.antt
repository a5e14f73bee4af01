use Rattle.std.proofs.Common.{◌∙◌}
use Rattle.names_judge.proofs.CallLaws.{no_rooms, their_marks}
use Rattle.names_judge.proofs.calls.has_places.Goals as goal

pub returns-then-has_rooms : goal.returns-then-has_rooms
returns-then-has_rooms c = let a = c.args in their_marks a.entries.now a.children.now a.index.now a.room.now a.marks c.if-has_rooms.ensures

pub returns-else-has_rooms : goal.returns-else-has_rooms
returns-else-has_rooms c =
    let a = c.args in
    c.if-has_rooms.false ∙ no_rooms a.entries.now a.children.now a.index.now a.room.now a.marks c.if-has_rooms.ensures
