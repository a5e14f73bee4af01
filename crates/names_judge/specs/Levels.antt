-- A climb with its levels counted, so that what was found of a directory serves every climb through it.
use Rattle.std.specs.Prelude.{ℕ, zero, suc, ◌+◌, ◌-◌, ◌*◌, ◌/◌, ◌%◌, ◌≤◌, ◌<◌, ◌≡◌, Bool, true, false, cond, List, ltb, eqb, length, drop, Option, None, Some}
use Rattle.std.proofs.lemmas.List.Edits.{sets}
use Rattle.wire.specs.Numbers.{le, bytes}
use Rattle.fid.specs.declared.MdtFid.{MdtFid}
use Rattle.index.specs.Entries.{place_size}
use Rattle.names.specs.Rows.{Child, is_none, is_linked, child_at}
use Rattle.names.specs.Visible.{is_root, directory}
use Rattle.names.specs.declared.Climbed.{Climbed}
use Rattle.names.specs.declared.Climbed.TheVariants.{TooLong, Hidden, Visible}
use Rattle.names_judge.specs.declared.Looked.{Looked}
use Rattle.names_judge.specs.declared.Looked.TheVariants.{Told, Above}

-- how a climb ends: not within its levels, or after some levels, in sight or not
abbrev pub Ended : Type 0
Ended = Option (ℕ × Bool)

unfoldable pub one_more : Ended → Ended
one_more None = None
one_more (Some (d, v)) = Some (suc d, v)

unfoldable pub end_row : (MdtFid → Ended) → Child → Ended
end_row above c = cond (is_linked c.link) (Some (0, true)) (cond (is_none c.up) (Some (0, false)) (one_more (above c.up)))

unfoldable pub end_directory : (MdtFid → Ended) → List Child → Option ℕ → Ended
end_directory above cs None = Some (0, false)
end_directory above cs (Some r) = end_row above (child_at cs r)

unfoldable pub end_at : (MdtFid → Ended) → List Child → MdtFid → Ended
end_at above cs f = cond (is_root f) (Some (0, true)) (end_directory above cs (directory cs f))

unfoldable pub endless : MdtFid → Ended
endless f = None

-- as `climb`, with the levels that it took
unfoldable pub ended : ℕ → List Child → MdtFid → Ended
ended zero cs f = end_at endless cs f
ended (suc left) cs f = end_at (ended left cs) cs f

unfoldable pub climbed_of : Ended → Climbed
climbed_of None = TooLong
climbed_of (Some (d, v)) = cond v Visible Hidden

-- ## What is known of a directory

-- an end that takes d levels, within a number of them
unfoldable pub within : ℕ → Ended → Ended
within left None = None
within left (Some (d, v)) = cond (ltb left d) None (Some (d, v))

-- how every climb from f ends
unfoldable pub Known : List Child → MdtFid → Ended → Type 0
Known cs f e = (left : ℕ) → ended left cs f ≡ within left e

-- what a look at f says: how every climb ends, or that it goes on from row r by `..`
unfoldable pub Says : List Child → MdtFid → Looked → Type 0
Says cs f (Told e) = Known cs f e
Says cs f (Above r up) = (directory cs f ≡ Some r) × ((above : MdtFid → Ended) → end_at above cs f ≡ one_more (above up))

-- ## Notes, one for each child row in the lent room: 0 for nothing, else the levels and whether it is visible

unfoldable pub note_at : ℕ → List ℕ → ℕ
note_at r room = le 4 (drop (place_size * r) room)

unfoldable pub visible_bit : Bool → ℕ
visible_bit v = cond v 1 0

unfoldable pub note_of : Ended → ℕ
note_of None = 0
note_of (Some (d, v)) = 1 + 2 * d + visible_bit v

-- and the end that a note tells
unfoldable pub ended_of : ℕ → Ended
ended_of note = Some ((note - 1) / 2, eqb ((note - 1) % 2) 1)

-- a note of a row is nothing, or says how every climb from its FID ends
pub data Right (cs : List Child) (f : MdtFid) (note : ℕ) : Type 0 where
  blank : note ≡ 0 → Right cs f note
  told : (e : Ended) → note ≡ note_of e → Known cs f e → Right cs f note

unfoldable pub Noted : List Child → List ℕ → Type 0
Noted cs room = (r : ℕ) → r < length cs → Right cs (child_at cs r).self (note_at r room)

-- ## A look at a directory

unfoldable pub look_child : ℕ → Child → Looked
look_child r c = cond (is_linked c.link) (Told (Some (0, true))) (cond (is_none c.up) (Told (Some (0, false))) (Above r c.up))

unfoldable pub look_row : List Child → List ℕ → ℕ → Looked
look_row cs room r = cond (eqb (note_at r room) 0) (look_child r (child_at cs r)) (Told (ended_of (note_at r room)))

unfoldable pub look_directory : List Child → List ℕ → Option ℕ → Looked
look_directory cs room None = Told (Some (0, false))
look_directory cs room (Some r) = look_row cs room r

-- ROOT, what leads out of the table, what is noted, and what the row says
unfoldable pub look : List Child → List ℕ → MdtFid → Looked
look cs room f = cond (is_root f) (Told (Some (0, true))) (look_directory cs room (directory cs f))

-- an end noted of row r
unfoldable pub noted : ℕ → Ended → List ℕ → List ℕ
noted r None room = room
noted r (Some (d, v)) room = sets room (place_size * r) (bytes 4 (note_of (Some (d, v))))

-- an end that takes at most so many levels
unfoldable pub Few : ℕ → Ended → Type 0
Few most None = Unit {0}
Few most (Some (d, v)) = d ≤ most

-- the first n notes are blank
unfoldable pub Blank : ℕ → List ℕ → Type 0
Blank n room = (r : ℕ) → r < n → note_at r room ≡ 0
