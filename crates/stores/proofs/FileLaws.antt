-- A parent row written as a part of its table. Assumes nothing.
use mathlib.Core.Path.{◌≡◌, sym, ap, ◌∙◌, subst}
use mathlib.Core.List.{List}
use Prim.Native.Nat.{ℕ, ◌+◌, ◌-◌, ◌*◌, ◌≤◌, ◌<◌}
use native.Mathlib.Omega.{arith}
use borrow.Rule.Slice.PartMut.{put_mid}
use lib.ListN.{length, take, drop, length-drop}
use lib.Seq.{sets, length-take-le}
use Rattle.wire.specs.Numbers.{Bytes}
use Rattle.wire.proofs.NumberLaws.{bytes_drop, bytes_take}
use Rattle.fid.specs.declared.MdtFid.{MdtFid}
use Rattle.layout.specs.Layout.{max_slots, stripe_count}
use Rattle.layout.specs.declared.Slot.{Slot}
use Rattle.tables.specs.Bytes.{parent_size, layout_bytes, parse_parent, render_parent}
use Rattle.tables.specs.declared.Owner.{Owner}
use Rattle.rules.specs.Repairs.{with_own, with_slot, grown, made}
use Rattle.stores.specs.UsedRow.{UsedRow, row_bytes, UsedAt}
use Rattle.stores.proofs.StoreLaws.{part_whole}
use Rattle.stores.proofs.RowStores.{own_length, slot_length, grow_length, made_length}

pub row_bytes_lem : (p : List ℕ) (r : ℕ) → Bytes p → Bytes (row_bytes p r)
unfolding row_bytes
row_bytes_lem p r b = bytes_take parent_size (drop (parent_size * r) p) (bytes_drop (parent_size * r) p b)

module _ (p : List ℕ) (r : ℕ) where
  -- the part that is lent is the row
  pub part_row : take (parent_size * r + parent_size - parent_size * r) (drop (parent_size * r) p) ≡ row_bytes p r
  unfolding row_bytes
  part_row = let q : parent_size * r + parent_size - parent_size * r ≡ parent_size = omega arith in rw q

  pub part_used : UsedAt p r → UsedRow (take (parent_size * r + parent_size - parent_size * r) (drop (parent_size * r) p))
  part_used u = subst UsedRow (sym part_row) u.row

  pub part_inside : (j : ℕ) → j < stripe_count (layout_bytes (row_bytes p r)) →
      j < stripe_count (layout_bytes (take (parent_size * r + parent_size - parent_size * r) (drop (parent_size * r) p)))
  part_inside j h = subst (λ (l : List ℕ). j < stripe_count (layout_bytes l)) (sym part_row) h

  pub part_past : (i : ℕ) → stripe_count (layout_bytes (row_bytes p r)) ≤ i →
      stripe_count (layout_bytes (take (parent_size * r + parent_size - parent_size * r) (drop (parent_size * r) p))) ≤ i
  part_past i h = subst (λ (l : List ℕ). stripe_count (layout_bytes l) ≤ i) (sym part_row) h

  -- what comes back
  back : (f : List ℕ → List ℕ) (z : List ℕ) → parent_size * r + parent_size ≤ length p → length (f (row_bytes p r)) ≡ parent_size →
      z ≡ f (take (parent_size * r + parent_size - parent_size * r) (drop (parent_size * r) p)) →
      put_mid (parent_size * r) (parent_size * r + parent_size - parent_size * r) p z ≡ sets p (parent_size * r) (f (row_bytes p r))
  back f z h n e = part_whole (parent_size * r) parent_size p (f (row_bytes p r)) z (e ∙ ap f part_row) n h

  pub own_part : (z : List ℕ) → Bytes p → UsedAt p r →
      z ≡ render_parent (with_own (parse_parent (take (parent_size * r + parent_size - parent_size * r) (drop (parent_size * r) p)))) →
      put_mid (parent_size * r) (parent_size * r + parent_size - parent_size * r) p z ≡ sets p (parent_size * r) (render_parent (with_own (parse_parent (row_bytes p r))))
  own_part z b u e = back (λ l. render_parent (with_own (parse_parent l))) z u.inside (own_length (row_bytes p r) (row_bytes_lem p r b) u.row) e

  pub slot_part : (j : ℕ) (s : Slot) (z : List ℕ) → Bytes p → UsedAt p r → j < stripe_count (layout_bytes (row_bytes p r)) →
      z ≡ render_parent (with_slot (parse_parent (take (parent_size * r + parent_size - parent_size * r) (drop (parent_size * r) p))) j s) →
      put_mid (parent_size * r) (parent_size * r + parent_size - parent_size * r) p z ≡ sets p (parent_size * r) (render_parent (with_slot (parse_parent (row_bytes p r)) j s))
  slot_part j s z b u h e = back (λ l. render_parent (with_slot (parse_parent l) j s)) z u.inside (slot_length (row_bytes p r) (row_bytes_lem p r b) u.row j s h) e

  pub grow_part : (i : ℕ) (s : Slot) (z : List ℕ) → Bytes p → UsedAt p r → stripe_count (layout_bytes (row_bytes p r)) ≤ i → i < max_slots →
      z ≡ render_parent (grown (parse_parent (take (parent_size * r + parent_size - parent_size * r) (drop (parent_size * r) p))) i s) →
      put_mid (parent_size * r) (parent_size * r + parent_size - parent_size * r) p z ≡ sets p (parent_size * r) (render_parent (grown (parse_parent (row_bytes p r)) i s))
  grow_part i s z b u h m e = back (λ l. render_parent (grown (parse_parent l) i s)) z u.inside (grow_length (row_bytes p r) (row_bytes_lem p r b) u.row i s h m) e

  row_size : parent_size * r + parent_size ≤ length p → length (row_bytes p r) ≡ parent_size
  unfolding row_bytes
  row_size h = let d : length (drop (parent_size * r) p) ≡ length p - parent_size * r = length-drop (parent_size * r) p in length-take-le parent_size (drop (parent_size * r) p) (omega arith)

  pub make_part : (f : MdtFid) (i : ℕ) (w : Owner) (s : Slot) (z : List ℕ) → parent_size * r + parent_size ≤ length p → i < max_slots →
      z ≡ render_parent (made f i w s (drop 1 (take (parent_size * r + parent_size - parent_size * r) (drop (parent_size * r) p)))) →
      put_mid (parent_size * r) (parent_size * r + parent_size - parent_size * r) p z ≡ sets p (parent_size * r) (render_parent (made f i w s (drop 1 (row_bytes p r))))
  make_part f i w s z h m e = back (λ l. render_parent (made f i w s (drop 1 l))) z h (made_length (row_bytes p r) f i w s (row_size h) m) e
