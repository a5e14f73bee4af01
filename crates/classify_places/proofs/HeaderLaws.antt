-- The header of a parent row, read off the bytes, and its class case by case. Assumes nothing.
use mathlib.Core.Path.{◌≡◌, sym, ap, ◌∙◌}
use mathlib.Core.List.{List}
use mathlib.Core.Bool.{Bool, true, false, ◌&&◌}
use Prim.Native.Nat.{ℕ, ◌*◌, ◌/◌, ◌<◌}
use borrow.Author.Tests.{eq-eqb, ne_eqb}
use lib.Dec.{eqb}
use lib.ListN.{length, take, drop}
use Rattle.fid.specs.declared.MdtFid.{MdtFid}
use Rattle.layout.specs.Layout.{decode_header, decode_layout, with_holes}
use Rattle.layout.specs.declared.Header.{Header}
use Rattle.tables.specs.Records.{ParentRow, unused, used}
use Rattle.tables.specs.Bytes.{parent_size, is_used, layout_bytes, decode_parent, parse_parent, parse_parents}
use Rattle.tables.specs.Positions.{row_at}
use Rattle.tables.proofs.PositionLaws.{parsed_row}
use Rattle.rules.specs.Rows.{holes_in}
use Rattle.rules.specs.Classes.{own_right, header_class}
use Rattle.rules.specs.declared.HeaderClass.TheVariants.{UNUSED, SELF, CLEAN}
use Rattle.search.proofs.ParsedRows.{parent_used, parent_unused}

-- ## Own id and own sequence

module _ (h : Header) (f : MdtFid) where
  pub own_id : (h.oid ≡ f.0.oid → ⊥) → false ≡ (eqb h.oid f.0.oid && eqb h.seq f.0.seq)
  own_id d = rw (ne_eqb h.oid f.0.oid d)

  pub own_sequence : h.oid ≡ f.0.oid → eqb h.seq f.0.seq ≡ (eqb h.oid f.0.oid && eqb h.seq f.0.seq)
  own_sequence e = rw (eq-eqb h.oid f.0.oid e)

-- ## Row r of the bytes

module _ (p : List ℕ) (r : ℕ) (row : List ℕ) (h : r < length p / parent_size) (at : row ≡ take parent_size (drop (parent_size * r) p)) where
  row_is : (x : ParentRow) → parse_parent row ≡ x → row_at (parse_parents p) r ≡ x
  row_is x e = parsed_row p r h ∙ ap parse_parent (sym at) ∙ e

  pub header_unused : is_used row ≡ false → UNUSED ≡ header_class (row_at (parse_parents p) r)
  unfolding header_class
  header_unused u = rw (row_is (unused (drop 1 row)) (parent_unused row u))

  pub holes_unused : is_used row ≡ false → false ≡ holes_in (row_at (parse_parents p) r)
  unfolding holes_in
  holes_unused u = rw (row_is (unused (drop 1 row)) (parent_unused row u))

  module _ (u : is_used row ≡ true) (l : List ℕ) (e : l ≡ layout_bytes row) (hd : Header) (q : hd ≡ decode_header l) where
    header_read : hd ≡ (decode_parent row).layout.header
    unfolding decode_parent decode_layout
    header_read = q ∙ ap decode_header e

    pub holes_used : (b : Bool) → b ≡ with_holes hd → b ≡ holes_in (row_at (parse_parents p) r)
    unfolding holes_in
    holes_used b t = rw (row_is (used (decode_parent row)) (parent_used row u)) (t ∙ ap with_holes header_read)

    module _ (f : MdtFid) (s : f ≡ (decode_parent row).self) (b : Bool) (t : b ≡ (eqb hd.oid f.0.oid && eqb hd.seq f.0.seq)) where
      own : b ≡ own_right (decode_parent row)
      unfolding own_right
      own = rw (← header_read, ← s) t

      pub header_clean : b ≡ true → CLEAN ≡ header_class (row_at (parse_parents p) r)
      unfolding header_class
      header_clean k = rw (row_is (used (decode_parent row)) (parent_used row u), ← own, k)

      pub header_self : b ≡ false → SELF ≡ header_class (row_at (parse_parents p) r)
      unfolding header_class
      header_self k = rw (row_is (used (decode_parent row)) (parent_used row u), ← own, k)
