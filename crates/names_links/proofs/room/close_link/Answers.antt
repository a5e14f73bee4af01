use mathlib.Core.Path.{refl}
use Rattle.names_links.proofs.RoomLaws.{closed_by}
use Rattle.names_links.proofs.room.close_link.Goals as goal

pub returns : goal.returns
returns c =
    closed_by c.args.row.now _ _ _ _ c.args.h c.requires.0 c.requires.1 c.put.ensures c.write_header.ensures refl c.zero_from.ensures
