-- Small cases of what the definitions say, by computation: one table under one claim.
use Prim.Native.Nat.{ℕ, ◌-◌}
use mathlib.Core.Path.{◌≡◌, refl}
use mathlib.Core.Bool.{Bool, true, not, ◌&&◌}
use mathlib.Core.List.{List, [], ◌∷◌}
use lib.ListN.{length, get_or, take, replicate, set}
use lib.Dec.{eqb}
use Rattle.wire.specs.Numbers.{le, bytes, number, number_bytes}
use Rattle.wire.specs.Rows.{rows}
use Rattle.fid.specs.Fid.{decode_fid, encode_fid, decode_fid_in, encode_fid_in, same_fid, zero_fid}
use Rattle.fid.specs.declared.MdtFid.{MdtFid}
use Rattle.linkea.specs.Link.{Link, LinkEA, decode_link_header, encode_link_header, header_of, link_length as record_length, decode_link, encode_link, encode_links, length_at, short_record, places_from, places, link_at, decode_link_ea, encode_link_ea}
use Rattle.linkea.specs.Conditions.{some, short_header, other_magic, past_end, count_disagrees, total_disagrees, bad_byte, bad_name, refused_link}
use Rattle.linkea_write.specs.Change.{appended}
use Rattle.tables.specs.Check.{all, whole_rows, first_failing}
use Rattle.tables.specs.Bytes.{join}
use Rattle.names.specs.Rows.{Entry, Child, Linked, unlinked, linked, link_room, name_room, mdt_fid, child_row, name_length, name_bytes, decode_entry, encode_entry, is_none, link_length, link_bytes, decode_linked, encode_linked, decode_child, encode_child, links_in, links_of, is_linked, entry_rows, child_rows, parse_entries, parse_children, render_entries, render_children, no_child, child_at, child_of, with_fid, with_self, with_link_ea}
use Rattle.names.specs.Check.{names_whole, child_there, children_there, good_name, good_link_ea, names_good, names_tests, names_number}
use Rattle.names.specs.Findings.{any, same, fids_finding, fid_finding, fid_number, same_name, same_link, link_for, has_link, link_finding, link_number, findings}
use Rattle.names.specs.Visible.{root, is_root, first_row, directory, at_row, at_directory, arrive, none_left, climb, is_too_long, climbs_too_long, too_long, climb_mark, mark_of, judged, first_marked, seen_by, good_mark, good_marks}
use Rattle.names.specs.Sweeps.{one, gives, taking, sweep1, taken, mends, written, sweep2, differs, writes, start_of, grown_link, outgrows, appending, onward, lacks, asks, sweep3, named, goes, kept, left_links, gone, pruned, sweep4, removals}
use Rattle.names.specs.Mend.{Mended, first, second, third, report_of, finish, mended}
use Rattle.names.specs.Calls.{Left, index_places, roomy, report_numbers, left, mended_bytes, pass_tests, pass_call}

-- ## Tables

unfoldable pub fid : ℕ → MdtFid
fid n = record { 0 = record { seq = 0x200000401; oid = n; ver = 0 } }

unfoldable pub none : MdtFid
none = record { 0 = zero_fid }

unfoldable pub entry : MdtFid → ℕ → MdtFid → List ℕ → Entry
entry p c f name = record { parent = p; child = c; fid = f; name = name; rest = replicate (name_room - length name) 0 }

unfoldable pub link : MdtFid → List ℕ → Link
link p name = record { parent = p; name = name }

-- a link_ea with time 5 and padding 6
unfoldable pub ea : List Link → LinkEA
ea links = record { time = 5; padding = 6; links = links }

-- a child with its room past the link_ea all 9
unfoldable pub child : MdtFid → MdtFid → Linked → Child
child f up l = record { self = f; up = up; link = l; rest = replicate (link_room - length (encode_linked l)) 9 }

-- and with its room all zero
unfoldable pub zeroed : MdtFid → MdtFid → Linked → Child
zeroed f up l = record { self = f; up = up; link = l; rest = replicate (link_room - length (encode_linked l)) 0 }

-- names: "d", "x", "y"
unfoldable pub d : List ℕ
d = 0x64 ∷ []

unfoldable pub x : List ℕ
x = 0x78 ∷ []

unfoldable pub y : List ℕ
y = 0x79 ∷ []

-- ## Tests

unfoldable pub equal : List ℕ → List ℕ → Bool
equal l m = same_name l m

unfoldable pub same_tables : List Entry → List Child → Mended → Bool
same_tables es cs m = equal (render_entries m.entries) (render_entries es) && equal (render_children m.children) (render_children cs)

unfoldable pub pass : ℕ → List Entry → List Child → Mended
pass levels es cs = mended (seen_by (judged levels cs) cs) es cs

-- a second pass under the same marks changes nothing and reports nothing
unfoldable pub again : ℕ → List Entry → List Child → Bool
again levels es cs =
    let m : Mended = pass levels es cs in
    let n : Mended = mended (seen_by (judged levels cs) m.children) m.entries m.children in
    eqb n.answer 0 && same_tables m.entries m.children n && equal (report_numbers n.report) (0 ∷ 0 ∷ 0 ∷ 0 ∷ length es ∷ [])

unfoldable pub reports : ℕ → List ℕ → Mended → Bool
reports answer numbers m = eqb m.answer answer && equal (report_numbers m.report) numbers

unfoldable pub climbs : ℕ → List Child → MdtFid → ℕ
climbs n cs f = climb_mark (climb n cs f)

-- ## Findings

unfoldable pub bare : Child
bare = child none none unlinked

unfoldable pub file : Child
file = child (fid 7) none (linked (ea (link root d ∷ [])))

unfoldable pub found : List ℕ
found =
    findings (bare ∷ file ∷ [])
    (entry root 1 (fid 7) d ∷ entry root 1 none x ∷ entry (fid 1) 1 (fid 8) d ∷ entry root 0 (fid 7) d ∷ entry root 0 none d ∷ [])

-- ## The climb

-- a directory without link_ea, and one with a link_ea that has no records
unfoldable pub dir : ℕ → MdtFid → Child
dir n up = child (fid n) up unlinked

unfoldable pub held : ℕ → Child
held n = child (fid n) none (linked (ea []))

-- three levels to ROOT, to a directory with link_ea, and out of the table; a circle; a twin whose first row counts
unfoldable pub chain : MdtFid → List Child
chain top = dir 1 (fid 2) ∷ dir 2 (fid 3) ∷ dir 3 top ∷ held 4 ∷ []

unfoldable pub circle : List Child
circle = dir 1 (fid 2) ∷ dir 2 (fid 1) ∷ dir 3 none ∷ []

unfoldable pub twins : List Child
twins = dir 1 (fid 9) ∷ held 1 ∷ dir 2 (fid 1) ∷ []

-- ROOT's own row is not examined
unfoldable pub rooted : List Child
rooted = child root (fid 9) unlinked ∷ dir 1 root ∷ []

-- ## The mending

-- the first trap: a row that gets its FID in the pass is no directory under the marks, so that a second pass changes nothing
unfoldable pub trap_entries : List Entry
trap_entries = entry root 0 (fid 1) d ∷ entry (fid 1) 1 (fid 2) x ∷ []

unfoldable pub trap_children : List Child
trap_children = child none root unlinked ∷ child (fid 2) none unlinked ∷ []

-- judged anew after the pass, the directory is visible
unfoldable pub trap_anew : List ℕ
trap_anew = judged 4 (pass 4 trap_entries trap_children).children

-- of a visible child: a record without an entry goes, a repeat goes, one of a hidden directory stays with its repeat, a missing one is appended
unfoldable pub mixed_entries : List Entry
mixed_entries = entry root 0 (fid 8) d ∷ entry root 0 none x ∷ entry (fid 9) 0 (fid 8) y ∷ []

unfoldable pub hidden_link : Link
hidden_link = link (fid 9) d

unfoldable pub mixed_children : List Child
mixed_children =
    child (fid 7) none (linked (ea (link root y ∷ link root d ∷ hidden_link ∷ link root d ∷ hidden_link ∷ []))) ∷ []

unfoldable pub mixed : Mended
mixed = pass 4 mixed_entries mixed_children

unfoldable pub mixed_links : List Link
mixed_links = link root d ∷ hidden_link ∷ hidden_link ∷ link root x ∷ []

unfoldable pub mixed_after : List Child
mixed_after = zeroed (fid 7) none (linked (ea mixed_links)) ∷ []

-- an entry of a hidden directory gives no self FID, and a child without one stays as it is
unfoldable pub hidden_entries : List Entry
hidden_entries = entry (fid 9) 0 (fid 7) d ∷ entry root 0 none x ∷ []

unfoldable pub hidden_children : List Child
hidden_children = child none none (linked (ea (link root y ∷ []))) ∷ []

-- the first entry of a visible directory that has a FID gives it
unfoldable pub giving_entries : List Entry
giving_entries = entry (fid 9) 0 (fid 5) d ∷ entry root 0 none d ∷ entry root 0 (fid 6) x ∷ entry root 0 (fid 7) y ∷ []

-- a child with no entries loses its visible records: the link_ea stays, of 24 bytes, with time and padding
unfoldable pub lone_children : List Child
lone_children = child (fid 7) none (linked (ea (link root d ∷ []))) ∷ []

unfoldable pub lone_after : List Child
lone_after = zeroed (fid 7) none (linked (ea [])) ∷ []

-- a link_ea of 4,042 bytes has room for a record of 54, and not for one of 55; the appends before it stand
unfoldable pub long : ℕ → List ℕ
long n = replicate n 0x61

unfoldable pub full_children : List Child
full_children = child (fid 7) none unlinked ∷ child (fid 8) none (linked (ea (link root (long 4000) ∷ []))) ∷ []

unfoldable pub full_entries : ℕ → List Entry
full_entries n = entry root 0 (fid 6) d ∷ entry root 1 (fid 8) (long n) ∷ entry root 0 (fid 7) x ∷ []

unfoldable pub full : Mended
full = pass 4 (full_entries 37) full_children

-- "Missing records are then appended", before any is removed: the record that fills the second child has no entry, and yet there is no room
unfoldable pub appends_first : Bool
appends_first = reports 38 (0 ∷ 1 ∷ 1 ∷ 0 ∷ 1 ∷ []) full

-- ## Bytes

-- the trap, by the call
unfoldable pub trap_call : Left
trap_call = pass_call (render_entries trap_entries) (render_children trap_children) (replicate 64 0) (replicate 64 0) (replicate 2 0) (replicate 5 0)

-- "Visibility is judged once, as lent": the row without self FID is no directory, so that the entry in it is left out
unfoldable pub judged_as_lent : Bool
judged_as_lent = equal trap_call.marks (2 ∷ 0 ∷ []) && equal trap_call.out (1 ∷ 0 ∷ 1 ∷ 0 ∷ 2 ∷ [])

unfoldable pub entry_row : List ℕ
entry_row = encode_entry (entry root 0 (fid 7) d)

unfoldable pub child_row_lem : List ℕ
child_row_lem = encode_child (child (fid 7) root (linked (ea (link root d ∷ []))))

unfoldable pub slashed : List ℕ
slashed = encode_entry (entry root 0 (fid 7) (0x2f ∷ []))

unfoldable pub nameless : List ℕ
nameless = encode_entry (entry root 0 (fid 7) [])

unfoldable pub every : List Bool → Bool
every [] = true
every (b ∷ bs) = b && every bs

unfoldable pub cases : List Bool
cases =
    -- consistent; FID-in-dirent and record missing; differing FID, record of another directory missing; no self FID; neither
    equal found (0 ∷ 0 ∷ 1 ∷ 1 ∷ 2 ∷ 1 ∷ 3 ∷ 1 ∷ 4 ∷ 1 ∷ [])
    -- three levels, and one too few; where they end in ROOT, in a link_ea without records, outside, or at no `..`
    ∷ eqb (climbs 3 (chain root) (fid 1)) 1 ∷ is_too_long (climb 2 (chain root) (fid 1)) ∷ eqb (climbs 3 (chain (fid 4)) (fid 1)) 1
    ∷ eqb (climbs 3 (chain (fid 9)) (fid 1)) 0 ∷ not (is_too_long (climb 3 (chain (fid 9)) (fid 1))) ∷ is_too_long (climb 2 (chain (fid 9)) (fid 1))
    ∷ not (is_too_long (climb 2 (chain none) (fid 1))) ∷ not (too_long 3 (chain root)) ∷ too_long 2 (chain root)
    ∷ is_too_long (climb 40 circle (fid 1)) ∷ too_long 40 circle ∷ equal (judged 4 twins) (0 ∷ 0 ∷ 0 ∷ []) ∷ equal (judged 4 rooted) (1 ∷ 1 ∷ [])
    -- ROOT is visible, row or not; zero is no directory, though rows have no self FID
    ∷ seen_by (0 ∷ []) (dir 1 root ∷ []) root ∷ not (seen_by (2 ∷ []) (bare ∷ []) none) ∷ good_marks (2 ∷ 1 ∷ []) trap_children
    ∷ not (good_marks (1 ∷ 1 ∷ []) trap_children) ∷ not (good_marks (2 ∷ []) trap_children) ∷ good_marks (2 ∷ 2 ∷ []) trap_children
    -- the trap
    ∷ equal (judged 4 trap_children) (2 ∷ 0 ∷ []) ∷ reports 0 (1 ∷ 0 ∷ 1 ∷ 0 ∷ 2 ∷ []) (pass 4 trap_entries trap_children)
    ∷ again 4 trap_entries trap_children ∷ equal trap_anew (1 ∷ 0 ∷ [])
    -- the sweeps
    ∷ reports 0 (0 ∷ 2 ∷ 1 ∷ 2 ∷ 3 ∷ []) mixed ∷ equal (render_children mixed.children) (render_children mixed_after)
    ∷ again 4 mixed_entries mixed_children ∷ reports 0 (0 ∷ 0 ∷ 0 ∷ 0 ∷ 2 ∷ []) (pass 4 hidden_entries hidden_children)
    ∷ same_tables hidden_entries hidden_children (pass 4 hidden_entries hidden_children)
    ∷ reports 0 (1 ∷ 2 ∷ 3 ∷ 0 ∷ 4 ∷ []) (pass 4 giving_entries (bare ∷ [])) ∷ again 4 giving_entries (bare ∷ [])
    ∷ same (get_or (pass 4 giving_entries (bare ∷ [])).children 0 bare).self (fid 6)
    ∷ same_tables [] lone_after (pass 4 [] lone_children) ∷ reports 0 (0 ∷ 0 ∷ 0 ∷ 1 ∷ 0 ∷ []) (pass 4 [] lone_children)
    -- 38 in front of the second entry: the FID of the first is written, and its record appended
    ∷ eqb (length (links_of (get_or full.children 1 bare))) 1
    ∷ eqb (length (links_of (get_or full.children 0 bare))) 1 ∷ reports 0 (0 ∷ 1 ∷ 3 ∷ 1 ∷ 3 ∷ []) (pass 4 (full_entries 36) full_children)
    -- rows there and back, and the check
    ∷ equal (encode_entry (decode_entry entry_row)) entry_row ∷ equal (encode_child (decode_child child_row_lem)) child_row_lem
    ∷ eqb (length entry_row) 293 ∷ eqb (length child_row_lem) 4130
    ∷ eqb (names_number entry_row child_row_lem) 0 ∷ eqb (names_number (take 292 entry_row) child_row_lem) 11 ∷ eqb (names_number entry_row []) 16
    ∷ eqb (names_number slashed child_row_lem) 31 ∷ eqb (names_number nameless child_row_lem) 31 ∷ eqb (names_number entry_row (set child_row_lem 34 0)) 31
    ∷ []

pub cases_hold : (appends_first ≡ true) × (judged_as_lent ≡ true) × (every cases ≡ true)
unfolding fid none entry link ea child zeroed d x y equal same_tables pass again reports climbs bare file found dir held chain circle twins rooted trap_entries trap_children trap_anew mixed_entries hidden_link mixed_children mixed mixed_links mixed_after hidden_entries hidden_children giving_entries lone_children lone_after long full_children full_entries full entry_row child_row_lem slashed nameless appends_first trap_call judged_as_lent every cases le bytes number number_bytes rows decode_fid encode_fid decode_fid_in encode_fid_in same_fid zero_fid decode_link_header encode_link_header header_of record_length decode_link encode_link encode_links length_at short_record places_from places link_at decode_link_ea encode_link_ea some short_header other_magic past_end count_disagrees total_disagrees bad_byte bad_name refused_link appended all whole_rows first_failing join mdt_fid child_row name_length name_bytes decode_entry encode_entry is_none link_length link_bytes decode_linked encode_linked decode_child encode_child links_in links_of is_linked entry_rows child_rows parse_entries parse_children render_entries render_children no_child child_at child_of with_fid with_self with_link_ea names_whole child_there children_there good_name good_link_ea names_good names_tests names_number any same fids_finding fid_finding fid_number same_name same_link link_for has_link link_finding link_number findings root is_root first_row directory at_row at_directory arrive none_left climb is_too_long climbs_too_long too_long climb_mark mark_of judged first_marked seen_by good_mark good_marks one gives taking sweep1 taken mends written sweep2 differs writes start_of grown_link outgrows appending onward lacks asks sweep3 named goes kept left_links gone pruned sweep4 removals first second third report_of finish mended index_places roomy report_numbers left mended_bytes pass_tests pass_call
cases_hold = (refl, refl, refl)
