-- What the code of sweep 3 says, as the definitions say it.
use Rattle.std.specs.Prelude.{List}
use Rattle.names.specs.Rows.{Entry, Child}
use Rattle.names.specs.Sweeps.{Asks, nothing, room, more, appending, Appends}
use Rattle.names_append.specs.declared.Asked.{Asked}
use Rattle.names_append.specs.declared.Asked.TheVariants.{Nothing, Room, More}
use Rattle.names_append.specs.declared.Swept.{Swept}

unfoldable pub asked_by : Asked → Asks
asked_by Nothing = nothing
asked_by Room = room
asked_by More = more

-- the children after what an entry asks
unfoldable pub children_after : Asks → List Child → Entry → List Child
children_after nothing cs e = cs
children_after room cs e = appending cs e
children_after more cs e = cs

unfoldable pub appends_of : List Child → Swept → Appends
appends_of cs x = record { children = cs; count = x.count; reached = x.reached; full = x.full }
