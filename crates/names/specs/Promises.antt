-- What is promised of findings and of a mending. Document 02, 2026-06.
use Rattle.std.specs.Prelude.{ℕ, ◌<◌, ◌≡◌, Bool, true, false, cond, List, [], ◌∷◌, ◌++◌, length, take, get_or}
use Rattle.wire.specs.Numbers.{Bytes}
use Rattle.fid.specs.declared.MdtFid.{MdtFid}
use Rattle.linkea.specs.Link.{Link}
use Rattle.names.specs.Rows.{Entry, Child, is_none, links_of, child_at, child_of, parse_entries, parse_children, decode_entry}
use Rattle.names.specs.Check.{SoundNames}
use Rattle.names.specs.Findings.{same, has_link, link_for, fid_finding, link_finding}
use Rattle.names.specs.Visible.{seen_by, good_marks}
use Rattle.names.specs.Sweeps.{sweep3}
use Rattle.names.specs.Mend.{Mended, Report, link_full, mended, first, second}
use Rattle.names.specs.Calls.{Left, mended_bytes}
use Rattle.names.specs.declared.FidFinding.{FidFinding}
use Rattle.names.specs.declared.FidFinding.TheVariants.{FidAgrees, NoDirentFid, FidDiffers, NoSelfFid, NeitherFid}
use Rattle.names.specs.declared.LinkFinding.{LinkFinding}
use Rattle.names.specs.declared.LinkFinding.TheVariants.{RecordThere, NoRecord}

-- ## Findings

-- what each FID finding says of the FID-in-dirent and of the self FID: "missing or differing FID-in-dirent, missing self FID, neither present,
-- consistent"
pub data SaysFid (e : Entry) (c : Child) : FidFinding → Type 0 where
  agree : is_none c.self ≡ false → is_none e.fid ≡ false → same e.fid c.self ≡ true → SaysFid e c FidAgrees
  no_dirent : is_none c.self ≡ false → is_none e.fid ≡ true → SaysFid e c NoDirentFid
  differ : is_none c.self ≡ false → is_none e.fid ≡ false → same e.fid c.self ≡ false → SaysFid e c FidDiffers
  no_self : is_none c.self ≡ true → is_none e.fid ≡ false → SaysFid e c NoSelfFid
  neither : is_none c.self ≡ true → is_none e.fid ≡ true → SaysFid e c NeitherFid

-- and each link finding: "missing record, consistent"
pub data SaysLink (e : Entry) (c : Child) : LinkFinding → Type 0 where
  there : has_link (link_for e) c ≡ true → SaysLink e c RecordThere
  missing : has_link (link_for e) c ≡ false → SaysLink e c NoRecord

-- exactly one of each
pub record OneFinding (e : Entry) (c : Child) : Type 0 where
  pub fid : SaysFid e c (fid_finding e c)
  pub fid_alone : (x : FidFinding) → SaysFid e c x → x ≡ fid_finding e c
  pub link : SaysLink e c (link_finding e c)
  pub link_alone : (x : LinkFinding) → SaysLink e c x → x ≡ link_finding e c

unfoldable pub EveryFinding : Type 0
EveryFinding = (e : Entry) (c : Child) → OneFinding e c

-- ## A mending, under a visibility

-- an entry is consistent in both: or, "where no entry has one either", it and its child have no FID
pub data Settled (e : Entry) (c : Child) : Type 0 where
  consistent : fid_finding e c ≡ FidAgrees → link_finding e c ≡ RecordThere → Settled e c
  bare : fid_finding e c ≡ NeitherFid → Settled e c

unfoldable pub no_entry : Entry
no_entry = decode_entry []

unfoldable pub entry_at : List Entry → ℕ → Entry
entry_at es i = get_or es i no_entry

-- the records of a child that name hidden directories
unfoldable pub hidden_links : (MdtFid → Bool) → List Link → List Link
hidden_links seen [] = []
hidden_links seen (x ∷ xs) = cond (seen x.parent) [] (x ∷ []) ++ hidden_links seen xs

-- nothing but the FID-in-dirent changes in an entry
pub record SameEntry (e f : Entry) : Type 0 where
  pub parent : f.parent ≡ e.parent
  pub child : f.child ≡ e.child
  pub name : f.name ≡ e.name
  pub rest : f.rest ≡ e.rest

-- nothing but self FID and link_ea with its room changes in a child, and a self FID stays
pub record SameChild (c d : Child) : Type 0 where
  pub up : d.up ≡ c.up
  pub self : is_none c.self ≡ false → d.self ≡ c.self
  pub room : d.link ≡ c.link → d.rest ≡ c.rest

unfoldable pub quiet : ℕ → Report
quiet n = record { taken = 0; written = 0; appended = 0; removed = 0; reached = n }

-- of entries es and children cs, mended to m
pub record EveryMending (seen : MdtFid → Bool) (es : List Entry) (cs : List Child) (m : Mended) : Type 0 where
  -- a finished pass leaves every entry of a visible directory consistent in both
  pub settled : m.answer ≡ 0 → (i : ℕ) → i < length es → seen (entry_at m.entries i).parent ≡ true →
      Settled (entry_at m.entries i) (child_of m.children (entry_at m.entries i))
  -- "a second pass under it, after a finished one, changes nothing"
  pub again : m.answer ≡ 0 →
      mended seen m.entries m.children ≡ record { answer = 0; entries = m.entries; children = m.children; report = quiet (length es) }
  -- "entries of hidden directories are left out of the mending"
  pub hidden : (i : ℕ) → seen (entry_at es i).parent ≡ false → entry_at m.entries i ≡ entry_at es i
  -- "and records naming one stay"
  pub hidden_links_lem : (r : ℕ) → hidden_links seen (links_of (child_at m.children r)) ≡ hidden_links seen (links_of (child_at cs r))
  -- nothing else changes
  pub entries : (i : ℕ) → SameEntry (entry_at es i) (entry_at m.entries i)
  pub children : (r : ℕ) → SameChild (child_at cs r) (child_at m.children r)
  pub entries_length : length m.entries ≡ length es
  pub children_length : length m.children ≡ length cs
  -- with 38 exactly the sweeps and appends before it stand: sweep 3 over the entries before it is finished, and leaves the same
  pub stopped : m.answer ≡ link_full →
      (m.entries ≡ second seen es cs)
      × (sweep3 seen (take m.report.reached m.entries) (first seen es cs) 0 0
      ≡ record { children = m.children; count = m.report.appended; reached = m.report.reached; full = false })

-- every child's row is in the table
unfoldable pub Belong : List Entry → List Child → Type 0
Belong es cs = (i : ℕ) → i < length es → (entry_at es i).child < length cs

unfoldable pub EveryMend : Type 0
EveryMend = (seen : MdtFid → Bool) (es : List Entry) (cs : List Child) → Belong es cs → EveryMending seen es cs (mended seen es cs)

-- ## Over the lent bytes

-- of entries and children with marks, mended to l
pub record EveryMendOfBytes (entries children marks : List ℕ) (l : Left) : Type 0 where
  -- tables that were accepted are accepted again, and so are the marks
  pub sound : SoundNames l.entries l.children
  pub marked : good_marks marks (parse_children l.children) ≡ true
  -- the bytes say what the mending leaves
  pub entries_say : parse_entries l.entries ≡ (mended (seen_by marks (parse_children children)) (parse_entries entries) (parse_children children)).entries
  pub children_say : parse_children l.children ≡ (mended (seen_by marks (parse_children children)) (parse_entries entries) (parse_children children)).children
  -- under the marks the same directories are visible after it
  pub same_seen : (f : MdtFid) → seen_by marks (parse_children l.children) f ≡ seen_by marks (parse_children children) f

-- of tables that pass the check, and marks that fit them
unfoldable pub EveryNamesMend : Type 0
EveryNamesMend =
    (entries children marks report : List ℕ) → Bytes entries → Bytes children → SoundNames entries children →
    good_marks marks (parse_children children) ≡ true →
    EveryMendOfBytes entries children marks (mended_bytes (seen_by marks (parse_children children)) entries children marks report)
