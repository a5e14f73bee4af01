use Rattle.std.proofs.Common.{rules, arith}
use Rattle.names_links.proofs.RoomLaws.{zero_done}
use Rattle.names_links.proofs.room.zero_from.Goals as goal

pub returns : goal.returns
returns c = zero_done c.args.row.now _ c.args.at (omega arith) (c.fill.ensures.after (λ y e. search rules))
