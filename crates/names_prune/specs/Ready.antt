-- What the sweep is lent: tables that pass the check, both indexes and the notes; and the flags of the records of a child.
use Rattle.std.specs.Prelude.{ℕ, ◌-◌, ◌*◌, ◌≤◌, ◌<◌, ◌≡◌, Bool, List, [], length, take, drop}
use Rattle.fid.specs.declared.MdtFid.{MdtFid}
use Rattle.linkea.specs.Link.{Link}
use Rattle.names.specs.Rows.{Entry, child_size, link_length, links_of, decode_child, parse_children}
use Rattle.names.specs.Check.{SoundNames}
use Rattle.names.specs.Visible.{seen_by}
use Rattle.names.specs.Sweeps.{kept, left_links}
use Rattle.names_links.specs.Kept.{kept_by}
use Rattle.names_marks.specs.Directories.{IndexedUnder}
use Rattle.names_store.specs.Notes.{Noted}
use Rattle.names_prune.specs.ByChild.{ByChild}

pub record Ready (entries children marks index : List ℕ) (n : ℕ) (places notes : List ℕ) : Type 0 where
  pub sound : SoundNames entries children
  pub indexed : IndexedUnder children marks index n
  pub listed : ByChild entries places
  pub noted : Noted (seen_by marks (parse_children children)) entries notes

-- places for the flags of a linkEA: one for each record, and more than fit in the room
abbrev pub flag_room : ℕ
flag_room = 256

-- flags that say of each of the records of child r whether it stays, and how many go
pub record Told (seen : MdtFid → Bool) (es : List Entry) (r : ℕ) (links : List Link) (flags : List ℕ) (g : ℕ) : Type 0 where
  pub stay : kept_by flags links ≡ kept seen es r [] links
  pub count : g ≡ length links - length (kept seen es r [] links)
  pub few : length links ≤ flag_room

-- the bytes of child row r
unfoldable pub child_bytes : List ℕ → ℕ → List ℕ
child_bytes children r = take child_size (drop (child_size * r) children)

-- flags that say of each record of a child row whether it stays; the row has a link_ea
pub record Flags (seen : MdtFid → Bool) (es : List Entry) (r : ℕ) (row flags : List ℕ) : Type 0 where
  pub linked : 0 < link_length row
  pub stay : kept_by flags (links_of (decode_child row)) ≡ left_links seen es r (decode_child row)
  pub few : length (links_of (decode_child row)) ≤ flag_room
