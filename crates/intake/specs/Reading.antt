-- What a reading holds, and what each line does to it. Document 02, 2026-03: the numbers 33 to 37 "stop the reading and name the first such line, counted
-- from 1 (an unclosed entry's first); earlier rows stand".
use Rattle.std.specs.Prelude.{ℕ, suc, ◌+◌, List, [], ◌∷◌, ◌++◌, Bool, true, false, cond, ◌&&◌, length, drop, set, get_or, leb, ltb}
use Rattle.wire.specs.Numbers.{bytes}
use Rattle.refusals.specs.Numbers.{number}
use Rattle.refusals.specs.declared.Refusal.TheVariants.{BadDump, AttributeTwice, NoSelf, NoKind, NoFit}
use Rattle.tables.specs.Bytes.{is_used, room_at}
use Rattle.intake.specs.Lines.{lines}
use Rattle.intake.specs.Says.{Line, opens, closes, skipped, bad, takes, line_says, lma_self_at, is_empty}
use Rattle.intake.specs.declared.Kind.{Kind}
use Rattle.intake.specs.declared.Kind.TheVariants.{Lov, Fid, Lma, Other}
use Rattle.intake.specs.Owners.{Owning, no_owner, owning, next_owner}

-- ## The numbers that stop a reading

-- "A bad line, hex .. or length or an unclosed last entry (33)", and no good owners line
abbrev pub bad_dump : ℕ
bad_dump = number BadDump

-- "one of the three twice (34)"
abbrev pub attribute_twice : ℕ
attribute_twice = number AttributeTwice

-- "no self FID (35)"
abbrev pub no_self : ℕ
no_self = number NoSelf

-- "a file of neither kind or both (36)"
abbrev pub no_kind : ℕ
no_kind = number NoKind

-- "a row that doesn't fit (37)"
abbrev pub no_fit : ℕ
no_fit = number NoFit

-- ## What a reading holds

-- an attribute of the open entry: its length and what is kept of it
pub data Attribute : Type 0 where
  none : Attribute
  had : ℕ → List ℕ → Attribute

pub record Entry : Type 0 where
  pub from : ℕ
  pub lov : Attribute
  pub fid : Attribute
  pub lma : Attribute

pub data Open : Type 0 where
  outside : Open
  inside : Entry → Open

-- no stop yet, or the number and the line that it names
pub data Stop : Type 0 where
  going : Stop
  stopped : ℕ → ℕ → Stop

-- rows of both tables, the owners not yet taken, the lines read, the entry that is open
pub record Reading : Type 0 where
  pub parents : List (List ℕ)
  pub objects : List (List ℕ)
  pub owners : List ℕ
  pub count : ℕ
  pub entry : Open
  pub stop : Stop

-- ## What a line leaves

unfoldable pub stops_at : Reading → ℕ → ℕ → Reading
stops_at R n line = record { parents = R.parents; objects = R.objects; owners = R.owners; count = line; entry = R.entry; stop = stopped n line }

unfoldable pub goes_on : Reading → ℕ → Open → Reading
goes_on R line e = record { parents = R.parents; objects = R.objects; owners = R.owners; count = line; entry = e; stop = going }

-- ## An attribute

unfoldable pub has : Attribute → Bool
has none = false
has (had n v) = true

unfoldable pub attribute_of : Kind → Entry → Attribute
attribute_of Lov e = e.lov
attribute_of Fid e = e.fid
attribute_of Lma e = e.lma
attribute_of Other e = none

unfoldable pub with_attribute : Kind → Attribute → Entry → Entry
with_attribute Lov a e = record { from = e.from; lov = a; fid = e.fid; lma = e.lma }
with_attribute Fid a e = record { from = e.from; lov = e.lov; fid = a; lma = e.lma }
with_attribute Lma a e = record { from = e.from; lov = e.lov; fid = e.fid; lma = a }
with_attribute Other a e = e

-- ## The closing line

-- the first unused row of a table; past the last where there is none
unfoldable pub first_unused : List (List ℕ) → ℕ
first_unused [] = 0
first_unused (row ∷ rows) = cond (is_used row) (suc (first_unused rows)) 0

-- a parent row of these bytes; the room past the layout stays
unfoldable pub parent_from : List ℕ → List ℕ → ℕ → ℕ → List ℕ → List ℕ
parent_from self layout uid gid row =
    1 ∷ self ++ bytes 4 uid ++ bytes 4 gid ++ bytes 2 (length layout) ++ layout ++ drop (room_at + length layout) row

-- an object row of these bytes: "nothing is fresh"
unfoldable pub object_from : List ℕ → List ℕ → ℕ → ℕ → ℕ → List ℕ
object_from self claim uid gid index = 1 ∷ self ++ bytes 4 index ++ bytes 4 uid ++ bytes 4 gid ++ claim ++ 0 ∷ []

-- the reading after a row went in
unfoldable pub filled : Reading → ℕ → List ℕ → List (List ℕ) → List (List ℕ) → Reading
filled R line owners parents objects =
    record { parents = parents; objects = objects; owners = owners; count = line; entry = outside; stop = going }

-- "a file of neither kind or both (36) and a row that doesn't fit (37)": a layout longer than the room, or no unused row
unfoldable pub fills : ℕ → Reading → ℕ → List ℕ → ℕ → ℕ → ℕ → List ℕ → Attribute → Attribute → Reading
fills room R line self u g i owners none none = stops_at R no_kind line
fills room R line self u g i owners (had n v) (had m w) = stops_at R no_kind line
fills room R line self u g i owners (had n v) none =
    let r : ℕ = first_unused R.parents in
    cond (leb n room && ltb r (length R.parents))
    (filled R line owners (set R.parents r (parent_from self v u g (get_or R.parents r []))) R.objects) (stops_at R no_fit line)
fills room R line self u g i owners none (had m w) =
    let r : ℕ = first_unused R.objects in
    cond (ltb r (length R.objects)) (filled R line owners R.parents (set R.objects r (object_from self w u g i))) (stops_at R no_fit line)

-- "its next line as each entry closes (else 33 at the closing line)", "no self FID (35)"
unfoldable pub with_self : ℕ → Reading → ℕ → Entry → Owning → Attribute → Reading
with_self room R line e no_owner a = stops_at R bad_dump line
with_self room R line e (owning u g i owners) none = stops_at R no_self line
with_self room R line e (owning u g i owners) (had n v) = fills room R line (drop lma_self_at v) u g i owners e.lov e.fid

unfoldable pub closes_entry : ℕ → Reading → ℕ → Entry → Reading
closes_entry room R line e = with_self room R line e (next_owner R.owners) e.lma

-- ## A line

-- "A bad line .. (33), one of the three twice (34)"
unfoldable pub on_line : ℕ → Reading → ℕ → Open → Line → Reading
on_line room R line outside opens = goes_on R line (inside (record { from = line; lov = none; fid = none; lma = none }))
on_line room R line outside closes = stops_at R bad_dump line
on_line room R line outside skipped = stops_at R bad_dump line
on_line room R line outside bad = stops_at R bad_dump line
on_line room R line outside (takes k n v) = stops_at R bad_dump line
on_line room R line (inside e) opens = stops_at R bad_dump line
on_line room R line (inside e) closes = closes_entry room R line e
on_line room R line (inside e) skipped = goes_on R line (inside e)
on_line room R line (inside e) bad = stops_at R bad_dump line
on_line room R line (inside e) (takes k n v) =
    cond (has (attribute_of k e)) (stops_at R attribute_twice line) (goes_on R line (inside (with_attribute k (had n v) e)))

unfoldable pub is_going : Stop → Bool
is_going going = true
is_going (stopped n line) = false

unfoldable pub take_line : ℕ → Reading → Line → Reading
take_line room R x = cond (is_going R.stop) (on_line room R (suc R.count) R.entry x) R

-- ## The dump

unfoldable pub read_line : ℕ → Reading → List ℕ → Reading
read_line room R l = take_line room R (line_says room l)

unfoldable pub read_all : ℕ → Reading → List (List ℕ) → Reading
read_all room R [] = R
read_all room R (l ∷ more) = read_all room (read_line room R l) more

-- "an unclosed last entry (33)" names its first line; else an unfinished line is 33 at its own number
unfoldable pub at_end : Open → ℕ → List ℕ → Stop
at_end (inside e) count rest = stopped bad_dump e.from
at_end outside count rest = cond (is_empty rest) going (stopped bad_dump (suc count))

unfoldable pub ended : Reading → List ℕ → Stop
ended R rest = cond (is_going R.stop) (at_end R.entry R.count rest) R.stop

-- what a whole dump comes to: the reading after its lines, and the answer at its end
unfoldable pub dump_reading : ℕ → Reading → List ℕ → Reading
dump_reading room R l = read_all room R (lines l).complete

unfoldable pub dump_ends : ℕ → Reading → List ℕ → Stop
dump_ends room R l = ended (dump_reading room R l) (lines l).rest
