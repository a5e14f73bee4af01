-- Tables that pass the check are written back as the same bytes. Assumes nothing.
use mathlib.Core.Path.{◌≡◌, sym}
use mathlib.Core.List.{List}
use Prim.Native.Nat.{ℕ, ◌*◌, ◌/◌}
use native.Mathlib.Omega.{arith}
use lib.ListN.{length, take, drop}
use Rattle.wire.proofs.NumberLaws.{Bytes, bytes_drop, bytes_take}
use Rattle.tables.proofs.AllLaws.{row_fits, part_length}
use Rattle.tables.proofs.RenderLaws.{join_back}
use Rattle.names.specs.Rows.{entry_size, child_size, decode_entry, encode_entry, decode_child, encode_child, entry_rows, child_rows, parse_entries, parse_children, render_entries, render_children}
use Rattle.names.specs.Check.{SoundNames}
use Rattle.names.proofs.BackLaws.{entry_again, child_again}
use Rattle.names.proofs.SoundLaws.{names_facts, name_at_lem, link_at}
use Rattle.names_check.proofs.TestLaws.{name_room_lem}

-- row r of a table
pub row_bytes_lem : (size r : ℕ) (l : List ℕ) → Bytes l → Bytes (take size (drop (size * r) l))
row_bytes_lem size r l b = bytes_take size (drop (size * r) l) (bytes_drop (size * r) l b)

pub entries_back : (e c : List ℕ) → SoundNames e c → Bytes e → render_entries (parse_entries e) ≡ e
unfolding render_entries parse_entries entry_rows
entries_back e c h b =
    join_back decode_entry encode_entry entry_size (length e / entry_size) e (sym (names_facts e c h).entries_whole.exact)
    (λ r k. let row : List ℕ = take entry_size (drop (entry_size * r) e) in
    entry_again row (row_bytes_lem entry_size r e b) (part_length entry_size r e (row_fits entry_size r (length e) (omega arith) k)) (name_room_lem row (name_at_lem e c h r k)))

pub children_back : (e c : List ℕ) → SoundNames e c → Bytes c → render_children (parse_children c) ≡ c
unfolding render_children parse_children child_rows
children_back e c h b =
    join_back decode_child encode_child child_size (length c / child_size) c (sym (names_facts e c h).children_whole.exact)
    (λ r k. let row : List ℕ = take child_size (drop (child_size * r) c) in
    child_again row (row_bytes_lem child_size r c b) (part_length child_size r c (row_fits child_size r (length c) (omega arith) k)) (link_at e c h r k))
