-- Tables that pass are written back as the same bytes. Assumes nothing.
use mathlib.Core.Path.{◌≡◌, refl, sym, ap, ◌∙◌}
use Rattle.std.specs.Prelude.{Some, None}
use mathlib.Core.List.{List, [], ◌∷◌, ◌++◌, map}
use mathlib.Core.Bool.{Bool, true, false, cond}
use Prim.Native.Nat.{ℕ, zero, suc, ◌+◌, ◌*◌, ◌/◌, ◌≤◌, ◌<◌}
use native.Mathlib.Nat.{mul-zero, mul-suc}
use native.Mathlib.Omega.{arith}
use borrow.Author.Tests.{eqb-true, eqb-false}
use lib.Dec.{eqb}
use lib.ListN.{length, get_or, take, drop, length-drop, take-append-drop, drop_of_length-le}
use lib.Seq.{drop-drop, take-add, drop-cons}
use Rattle.wire.specs.Rows.{rows}
use Rattle.wire.proofs.NumberLaws.{Bytes, bytes_drop, bytes_take, bytes_le}
use Rattle.fid.specs.Fid.{decode_fid, same_fid, zero_fid}
use Rattle.fid.specs.declared.Fid.{Fid}
use Rattle.fid.proofs.FidLaws.{encode_decode}
use Rattle.layout.specs.Layout.{decode_layout, encode_layout}
use Rattle.layout.proofs.LayoutLaws.{written_back}
use Rattle.tables.specs.Bytes.{parent_size, object_size, is_used, decode_owner, encode_owner, layout_length, layout_bytes, decode_parent, encode_parent, parse_parent, render_parent, claim_from, claim_fid, decode_object, mark, encode_object, parse_object, render_object, parent_rows, object_rows, parse, join, render_parents, render_objects, self_fid, claimed_fid, parse_parents, parse_objects}
use Rattle.tables.specs.Check.{Sound}
use Rattle.fid.proofs.SameLaws.{same_is}
use Rattle.tables.proofs.SoundLaws.{sound_facts, ParentFacts, ObjectFacts, parent_size_lem, parent_mark, parent_facts, object_size_lem, object_mark, object_facts}
use Rattle.tables.proofs.EitherRow.{row_back}

-- ## Bytes

pub owner_written_back : (l : List ℕ) → Bytes l → 8 ≤ length l → encode_owner (decode_owner l) ≡ take 8 l
unfolding encode_owner decode_owner
owner_written_back l h k =
    rw (bytes_le 4 l h (omega arith), bytes_le 4 (drop 4 l) (bytes_drop 4 l h) (rw length-drop (omega arith)), ← take-add 4 4 l)

-- a row after its mark, put together from the parts that were read
module _ (row : List ℕ) where
  parts : (m n : ℕ) → take m (drop 1 row) ++ take n (drop (1 + m) row) ≡ take (m + n) (drop 1 row)
  parts m n = rw (← drop-drop m 1 row, ← take-add m n (drop 1 row))

  with_tail : (n : ℕ) → take (26 + n) (drop 1 row) ++ drop (27 + n) row ≡ drop 1 row
  with_tail n =
      let e : 27 + n ≡ 1 + (26 + n) = omega arith in
      rw (e, ← drop-drop (26 + n) 1 row, take-append-drop (26 + n) (drop 1 row))

  with_last : length row ≡ 46 → take 44 (drop 1 row) ++ (get_or row 45 0 ∷ []) ≡ drop 1 row
  with_last h =
      let e : drop 45 row ≡ get_or row 45 0 ∷ drop 46 row = drop-cons row 45 0 (omega arith) in
      let k : length row ≤ 46 = omega arith in
      let n : drop 46 row ≡ [] = drop_of_length-le row k in
      let d : drop 44 (drop 1 row) ≡ get_or row 45 0 ∷ [] = drop-drop 44 1 row ∙ e ∙ ap (λ (l : List ℕ). get_or row 45 0 ∷ l) n in
      rw (← d, take-append-drop 44 (drop 1 row))

-- ## Rows

pub parent_written_back : (row : List ℕ) → Bytes row → ParentFacts row → encode_parent (decode_parent row) ≡ drop 1 row
unfolding encode_parent decode_parent self_fid layout_length layout_bytes
parent_written_back row b f =
    let n : ℕ = layout_length row in
    let z = f.size in
    let e : encode_layout (decode_layout (layout_bytes row)) ≡ layout_bytes row =
    written_back (layout_bytes row) (bytes_take n (drop 27 row) (bytes_drop 27 row b)) f.accepted in
    rw (
      encode_decode (drop 1 row) (bytes_drop 1 row b) (rw length-drop (omega arith)),
      owner_written_back (drop 17 row) (bytes_drop 17 row b) (rw length-drop (omega arith)),
      e,
      f.bytes,
      bytes_le 2 (drop 25 row) (bytes_drop 25 row b) (rw length-drop (omega arith)),
      parts row 16 8,
      parts row 24 2,
      parts row 26 n,
    )
    (with_tail row n)

-- a claim is written as the FID that it was read from
claim_back : (f : Fid) → claim_fid (claim_from f) ≡ f
unfolding claim_from claim_fid
claim_back f = go (same_fid f zero_fid) refl
  where
    go : (b : Bool) → same_fid f zero_fid ≡ b →
        claim_fid (cond b None (Some (record { file = record { 0 = record { seq = f.seq; oid = f.oid; ver = 0 } }; index = f.ver }))) ≡ f
    go true x = sym (same_is f zero_fid x)
    go false x = refl

mark_back : (b : ℕ) → b ≤ 1 → mark (eqb b 1) ≡ b
unfolding mark
mark_back b h = go (eqb b 1) refl
  where
    go : (t : Bool) → eqb b 1 ≡ t → cond t 1 0 ≡ b
    go true x = sym (eqb-true b 1 x)
    go false x = omega (arith, eqb-false b 1 x)

pub object_written_back : (row : List ℕ) → Bytes row → ObjectFacts row → encode_object (decode_object row) ≡ drop 1 row
unfolding encode_object decode_object self_fid claimed_fid
object_written_back row b f =
    let z = f.size in
    rw (
      encode_decode (drop 1 row) (bytes_drop 1 row b) (rw length-drop (omega arith)),
      bytes_le 4 (drop 17 row) (bytes_drop 17 row b) (rw length-drop (omega arith)),
      owner_written_back (drop 21 row) (bytes_drop 21 row b) (rw length-drop (omega arith)),
      claim_back (decode_fid (drop 29 row)),
      encode_decode (drop 29 row) (bytes_drop 29 row b) (rw length-drop (omega arith)),
      mark_back (get_or row 45 0) f.mark,
      parts row 16 4,
      parts row 20 8,
      parts row 28 16,
    )
    (with_last row z)

pub parent_row_back : (row : List ℕ) → Bytes row → length row ≡ parent_size → get_or row 0 0 ≤ 1 → (is_used row ≡ true → ParentFacts row) →
    render_parent (parse_parent row) ≡ row
unfolding parse_parent render_parent
parent_row_back row b n m f = row_back decode_parent row encode_parent (omega arith) m (λ u. parent_written_back row b (f u))

pub object_row_back : (row : List ℕ) → Bytes row → length row ≡ object_size → get_or row 0 0 ≤ 1 → (is_used row ≡ true → ObjectFacts row) →
    render_object (parse_object row) ≡ row
unfolding parse_object render_object
object_row_back row b n m f = row_back decode_object row encode_object (omega arith) m (λ u. object_written_back row b (f u))

-- ## Tables

-- a table of whole rows that are each written back is written back
module _ {R : Type 0} (read : List ℕ → R) (write : R → List ℕ) (size : ℕ) where
  pub join_back : (n : ℕ) (l : List ℕ) → length l ≡ size * n →
      ((r : ℕ) → r < n → write (read (take size (drop (size * r) l))) ≡ take size (drop (size * r) l)) →
      join (map write (map read (rows size n l))) ≡ l
  unfolding join rows
  join_back zero [] h each = refl
  join_back zero (x ∷ l) h each = absurd (omega (arith, mul-zero size))
  join_back (suc n) l h each =
      let first : write (read (take size l)) ≡ take size l = rw mul-zero at (each 0 (omega arith)) in
      let more : (r : ℕ) → r < n → write (read (take size (drop (size * r) (drop size l)))) ≡ take size (drop (size * r) (drop size l)) =
      λ r k. let e : size * suc r ≡ size + size * r = omega (arith, mul-suc size r) in
      rw (drop-drop (size * r) size l, ← e) (each (suc r) (omega arith)) in
      let rest = join_back n (drop size l) (rw length-drop (omega (arith, mul-suc size n))) more in
      rw (first, rest, take-append-drop size l)

module _ (p o : List ℕ) (h : Sound p o) where
  -- the parent table, written back
  pub parents_back : Bytes p → render_parents (parse p o) ≡ p
  unfolding render_parents parse_parents parent_rows
  parents_back b =
      join_back parse_parent render_parent parent_size (length p / parent_size) p (sym (sound_facts p o h).parents_length)
      (λ r k. let row : List ℕ = take parent_size (drop (parent_size * r) p) in
      parent_row_back row (bytes_take parent_size (drop (parent_size * r) p) (bytes_drop (parent_size * r) p b))
      (parent_size_lem p o h r row k refl) (parent_mark p o h r row k refl) (parent_facts p o h r row k refl))

  -- the object table, written back
  pub objects_back : Bytes o → render_objects (parse p o) ≡ o
  unfolding render_objects parse_objects object_rows
  objects_back b =
      join_back parse_object render_object object_size (length o / object_size) o (sym (sound_facts p o h).objects_length)
      (λ r k. let row : List ℕ = take object_size (drop (object_size * r) o) in
      object_row_back row (bytes_take object_size (drop (object_size * r) o) (bytes_drop (object_size * r) o b))
      (object_size_lem p o h r row k refl) (object_mark p o h r row k refl) (object_facts p o h r row k refl))
