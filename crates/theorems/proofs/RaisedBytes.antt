-- The generation of a row as it stands in the lent bytes, beside the row's record. Assumes nothing.
use Prim.Native.Nat.{ℕ, ◌+◌, ◌*◌, ◌/◌, ◌%◌, ◌<◌}
use native.Mathlib.Omega.{arith}
use mathlib.Core.Path.{◌≡◌, refl, sym, ap, ◌∙◌}
use mathlib.Core.Bool.{Bool, true, false}
use mathlib.Core.List.{List}
use lib.ListN.{length, take, drop}
use Rattle.wire.specs.Numbers.{Bytes}
use Rattle.wire.proofs.NumberLaws.{bytes_drop, bytes_take, le_small_at}
use Rattle.layout.specs.Layout.{generation_at, generations, decode_header, decode_layout}
use Rattle.tables.specs.Records.{Parent, ParentRow, unused, used}
use Rattle.tables.specs.Bytes.{parent_size, room_at, is_used, layout_length, layout_bytes, decode_parent, parse_row, parse_parent, parse_parents}
use Rattle.tables.specs.Positions.{row_at}
use Rattle.tables.proofs.PositionLaws.{parsed_row}
use Rattle.search.proofs.ParsedRows.{parent_used}
use Rattle.rules.specs.Rows.{generation_in}
use Rattle.stores.specs.UsedRow.{row_bytes}
use Rattle.theorems.specs.Promises.{generation_of}

module _ (p : List ℕ) (r : ℕ) (h : r < length p / parent_size) where
  -- a row that is used in the bytes is so in the records
  pub row_used : is_used (row_bytes p r) ≡ true → row_at (parse_parents p) r ≡ used (decode_parent (row_bytes p r))
  unfolding row_bytes
  row_used u = parsed_row p r h ∙ parent_used (row_bytes p r) u

  -- and back, with the generation of the record
  pub used_row_lem : (q : Parent) → row_at (parse_parents p) r ≡ used q → (is_used (row_bytes p r) ≡ true) × (generation_of p r ≡ q.layout.header.generation)
  unfolding row_bytes parse_parent parse_row generation_of generation_in decode_parent decode_layout decode_header
  used_row_lem q e = go (is_used (row_bytes p r)) refl
    where
      read : parse_parent (row_bytes p r) ≡ used q
      read = sym (parsed_row p r h) ∙ e

      bytes : (v : ParentRow) → v ≡ used (decode_parent (row_bytes p r)) → v ≡ used q → generation_of p r ≡ q.layout.header.generation
      bytes v d k = ap generation_in (sym d ∙ k)

      go : (b : Bool) → is_used (row_bytes p r) ≡ b → (is_used (row_bytes p r) ≡ true) × (generation_of p r ≡ q.layout.header.generation)
      go true u = (u, bytes (parse_parent (row_bytes p r)) (parent_used (row_bytes p r) u) read)
      go false u =
          let w : ◌≡◌ {A = ParentRow} (unused (drop 1 (row_bytes p r))) (used q) = rw u at read in
          let z : ◌≡◌ {A = ℕ} 0 1 = cc in absurd (omega arith)

-- it fits its two bytes
pub generation_least : (p : List ℕ) (r : ℕ) → Bytes p → generation_of p r ≡ (generation_of p r + 0) % generations
unfolding generation_of layout_bytes row_bytes
generation_least p r b =
    let row : List ℕ = take parent_size (drop (parent_size * r) p) in
    let f : Bytes (take (layout_length row) (drop room_at row)) =
    bytes_take (layout_length row) (drop room_at row) (bytes_drop room_at row (bytes_take parent_size (drop (parent_size * r) p) (bytes_drop (parent_size * r) p b))) in
    let z = le_small_at 2 generation_at (take (layout_length row) (drop room_at row)) f in
    omega arith
