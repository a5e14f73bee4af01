use Rattle.names_judge.proofs.CallLaws.{room_is}
use Rattle.names_judge.proofs.calls.has_room.Goals as goal

pub returns : goal.returns
returns c = let a = c.args in room_is a.entries.now a.children.now a.room.now
