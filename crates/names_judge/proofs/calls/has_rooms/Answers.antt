use Rattle.std.proofs.Common.{sym}
use Rattle.names_judge.proofs.calls.has_rooms.Goals as goal

pub returns-then-has_room : goal.returns-then-has_room
returns-then-has_room c = rw (sym c.if-has_room.ensures) c.has_room-then-has_room.ensures

pub returns-else-has_room : goal.returns-else-has_room
returns-else-has_room c = rw (sym c.if-has_room.ensures) c.if-has_room.false
