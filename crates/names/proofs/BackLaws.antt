-- Rows that pass the check are written back as the same bytes, and rows that can be written are read back as they were. Assumes nothing.
use mathlib.Core.Path.{◌≡◌, refl, sym}
use mathlib.Core.Bool.{Bool, true, false, cond, not, ◌&&◌}
use mathlib.Core.List.{List, [], ◌++◌}
use Prim.Native.Nat.{ℕ, ◌+◌, ◌-◌, ◌≤◌}
use native.Mathlib.Omega.{arith}
use borrow.Author.Tests.{eqb-true, eqb-false, ne_eqb, leb-true, not-true}
use lib.Dec.{eqb, leb}
use lib.ListN.{length, take, drop, length-drop, take-append-drop}
use lib.Seq.{take-add, length-take-le}
use Rattle.wire.proofs.NumberLaws.{Bytes, bytes_drop, bytes_take, bytes_le}
use Rattle.wire.proofs.Both.{and_first, and_second}
use Rattle.fid.specs.Fid.{fid_size}
use Rattle.fid.proofs.FidLaws.{encode_decode}
use Rattle.linkea.specs.Link.{decode_link_ea}
use Rattle.linkea.specs.Conditions.{refused_link}
use Rattle.linkea_write.proofs.StandLaws.{written_again}
use Rattle.names.specs.Rows.{unlinked, linked, entry_name_at, link_room_at, child_row_at, child_fid_at, name_length_at, up_at, link_length_at, entry_size, child_size, name_room, link_room, mdt_fid, child_row, name_length, name_bytes, decode_entry, encode_entry, link_length, link_bytes, decode_linked, encode_linked, decode_child, encode_child}
use Rattle.names.specs.Check.{good_link_ea}

-- the first m bytes and the next n
parts : (row : List ℕ) (m n : ℕ) → take m row ++ take n (drop m row) ≡ take (m + n) row
parts row m n = sym (take-add m n row)

-- ## Parts of a row, as the code takes them

part_is : (row : List ℕ) (at m n : ℕ) → m ≡ n → take (at + m - at) (drop at row) ≡ take n (drop at row)
part_is row at m n e = let z : at + m - at ≡ n = omega arith in rw z

pub name_part : (row : List ℕ) (n : ℕ) → n ≡ name_length row → take (entry_name_at + n - entry_name_at) (drop entry_name_at row) ≡ (decode_entry row).name
unfolding decode_entry name_bytes
name_part row n e = part_is row entry_name_at n (name_length row) e

pub link_part : (row : List ℕ) (n : ℕ) → n ≡ link_length row → take (link_room_at + n - link_room_at) (drop link_room_at row) ≡ link_bytes row
unfolding link_bytes
link_part row n e = part_is row link_room_at n (link_length row) e

-- ## Entries, written back

pub name_length_lem : (row : List ℕ) → length row ≡ entry_size → name_length row ≤ name_room → length (name_bytes row) ≡ name_length row
unfolding name_bytes
name_length_lem row h k = length-take-le (name_length row) (drop entry_name_at row) (rw length-drop (omega arith))

pub entry_again : (row : List ℕ) → Bytes row → length row ≡ entry_size → name_length row ≤ name_room → encode_entry (decode_entry row) ≡ row
unfolding encode_entry decode_entry mdt_fid child_row name_length name_bytes
entry_again row b h k =
    let n : ℕ = name_length row in
    rw (
      encode_decode row b (omega arith),
      bytes_le 4 (drop child_row_at row) (bytes_drop child_row_at row b) (rw length-drop (omega arith)),
      encode_decode (drop child_fid_at row) (bytes_drop child_fid_at row b) (rw length-drop (omega arith)),
      name_length_lem row h k,
      bytes_le 2 (drop name_length_at row) (bytes_drop name_length_at row b) (rw length-drop (omega arith)),
      parts row child_row_at 4,
      parts row child_fid_at fid_size,
      parts row name_length_at 2,
      parts row entry_name_at n,
    )
    (take-append-drop (entry_name_at + n) row)

-- ## Children, written back

-- what the check says of a link_ea
module _ (row : List ℕ) (g : good_link_ea row ≡ true) where
  some_link : (link_length row ≡ 0 → ⊥) → (leb (link_length row) link_room && not (refused_link (link_bytes row))) ≡ true
  unfolding good_link_ea
  some_link n = rw (ne_eqb (link_length row) 0 n) at g

  pub link_room_lem : link_length row ≤ link_room
  link_room_lem = go (eqb (link_length row) 0) refl
    where
      go : (b : Bool) → eqb (link_length row) 0 ≡ b → link_length row ≤ link_room
      go true e = omega (arith, eqb-true (link_length row) 0 e)
      go false e =
          leb-true (link_length row) link_room
          (and_first (leb (link_length row) link_room) (not (refused_link (link_bytes row))) (some_link (eqb-false (link_length row) 0 e)))

  pub link_accepted : (link_length row ≡ 0 → ⊥) → refused_link (link_bytes row) ≡ false
  link_accepted n = not-true _ (and_second (leb (link_length row) link_room) (not (refused_link (link_bytes row))) (some_link n))

pub link_length_lem : (row : List ℕ) → length row ≡ child_size → link_length row ≤ link_room → length (link_bytes row) ≡ link_length row
unfolding link_bytes
link_length_lem row h k = length-take-le (link_length row) (drop link_room_at row) (rw length-drop (omega arith))

pub link_bytes_lem : (row : List ℕ) → Bytes row → Bytes (link_bytes row)
unfolding link_bytes
link_bytes_lem row b = bytes_take (link_length row) (drop link_room_at row) (bytes_drop link_room_at row b)

no_bytes : (row : List ℕ) → link_length row ≡ 0 → link_bytes row ≡ []
unfolding link_bytes
no_bytes row e = rw e

pub linked_again : (row : List ℕ) → Bytes row → good_link_ea row ≡ true → encode_linked (decode_linked row) ≡ link_bytes row
unfolding decode_linked encode_linked
linked_again row b g = go (eqb (link_length row) 0) refl
  where
    go : (t : Bool) → eqb (link_length row) 0 ≡ t → encode_linked (cond t unlinked (linked (decode_link_ea (link_bytes row)))) ≡ link_bytes row
    go true e = sym (no_bytes row (eqb-true (link_length row) 0 e))
    go false e = written_again (link_bytes row) (link_bytes_lem row b) (link_accepted row g (eqb-false (link_length row) 0 e))

pub child_again : (row : List ℕ) → Bytes row → length row ≡ child_size → good_link_ea row ≡ true → encode_child (decode_child row) ≡ row
unfolding encode_child decode_child mdt_fid link_bytes link_length
child_again row b h g =
    let n : ℕ = link_length row in
    rw (
      encode_decode row b (omega arith),
      encode_decode (drop up_at row) (bytes_drop up_at row b) (rw length-drop (omega arith)),
      linked_again row b g,
      link_length_lem row h (link_room_lem row g),
      bytes_le 2 (drop link_length_at row) (bytes_drop link_length_at row b) (rw length-drop (omega arith)),
      parts row up_at fid_size,
      parts row link_length_at 2,
      parts row link_room_at n,
    )
    (take-append-drop (link_room_at + n) row)
