-- The row of a child after the header of its link_ea is written anew: its length, and the room past it.
use Rattle.std.specs.Prelude.{ℕ, ◌+◌, ◌-◌, List, ◌++◌, replicate}
use Rattle.std.proofs.lemmas.List.Edits.{sets}
use Rattle.wire.specs.Numbers.{bytes}
use Rattle.linkea.specs.Link.{encode_link_header}
use Rattle.linkea.specs.declared.LinkHeader.{LinkHeader}
use Rattle.names.specs.Rows.{link_length_at, link_room_at, link_room}

-- length and header in front of the records, zeros behind them: "the room past a changed linkEA zeroed"
unfoldable pub closed : List ℕ → LinkHeader → List ℕ
closed row h =
    sets (sets row link_length_at (bytes 2 h.total ++ encode_link_header h)) (link_room_at + h.total) (replicate (link_room - h.total) 0)
