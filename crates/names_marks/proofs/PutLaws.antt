-- One field of a row written: what the row says then. Assumes nothing.
use mathlib.Core.Path.{◌≡◌, ap, ◌∙◌}
use mathlib.Core.List.{List}
use Prim.Native.Nat.{ℕ, ◌+◌, ◌-◌, ◌≤◌}
use native.Mathlib.Omega.{arith}
use lib.ListN.{length, take, drop}
use lib.Seq.{sets, drop-drop}
use Rattle.wire.specs.Numbers.{le}
use Rattle.wire.proofs.RowLaws.{drop_sets_le}
use Rattle.wire.proofs.Splice.{drop_sets_add}
use Rattle.fid.specs.Fid.{fid_size, id_at, version_at, decode_fid, encode_fid}
use Rattle.fid.specs.declared.Fid.{Fid}
use Rattle.fid.specs.declared.MdtFid.{MdtFid}
use Rattle.fid.proofs.FidLaws.{Fits, decode_encode, length_encode}
use Rattle.index.proofs.EntryLaws.{drop_sets}
use Rattle.names.specs.Rows.{entry_size, child_size, child_row_at, child_fid_at, name_length_at, entry_name_at, up_at, link_length_at, link_room_at, mdt_fid, child_row, name_length, name_bytes, decode_entry, link_length, link_bytes, decode_linked, decode_child, with_fid, with_self}
use Rattle.names.specs.Check.{good_name, good_link_ea}
use Rattle.names_judge.proofs.NoteLaws.{le_before}

-- a number before a store
number_before : (n k i : ℕ) (row vs : List ℕ) → k + n ≤ i → le n (drop k (sets row i vs)) ≡ le n (drop k row)
number_before n k i row vs h =
    let z : k + (i - k) ≡ i = omega arith in
    let p : drop k (sets row i vs) ≡ sets (drop k row) (i - k) vs = rw z at (drop_sets_add vs row k (i - k)) in
    ap (le n) p ∙ le_before n (i - k) (drop k row) vs (omega arith)

-- a FID before a store
fid_before : (k i : ℕ) (row vs : List ℕ) → k + fid_size ≤ i → decode_fid (drop k (sets row i vs)) ≡ decode_fid (drop k row)
unfolding decode_fid
fid_before k i row vs h =
    let s : le 8 (drop k (sets row i vs)) ≡ le 8 (drop k row) = number_before 8 k i row vs (omega arith) in
    let o : le 4 (drop id_at (drop k (sets row i vs))) ≡ le 4 (drop id_at (drop k row)) =
    rw (drop-drop id_at k (sets row i vs), drop-drop id_at k row) (number_before 4 (k + id_at) i row vs (omega arith)) in
    let v : le 4 (drop version_at (drop k (sets row i vs))) ≡ le 4 (drop version_at (drop k row)) =
    rw (drop-drop version_at k (sets row i vs), drop-drop version_at k row) (number_before 4 (k + version_at) i row vs (omega arith)) in
    λ j. record { seq = s j; oid = o j; ver = v j }

-- and one that is stored
fid_there : (i : ℕ) (row : List ℕ) (f : Fid) → Fits f → i + fid_size ≤ length row → decode_fid (drop i (sets row i (encode_fid f))) ≡ f
fid_there i row f w h =
    rw (drop_sets (encode_fid f) row i (omega (arith, length_encode f))) (decode_encode f (drop (i + length (encode_fid f)) row) w)

after : (i k : ℕ) (row : List ℕ) (f : Fid) → i + fid_size ≤ k → drop k (sets row i (encode_fid f)) ≡ drop k row
after i k row f h = drop_sets_le (encode_fid f) row k i (omega (arith, length_encode f))

module _ (row : List ℕ) (f : MdtFid) (w : Fits f.0) where
  -- the FID-in-dirent
  pub entry_put : length row ≡ entry_size → decode_entry (sets row child_fid_at (encode_fid f.0)) ≡ with_fid (decode_entry row) f
  unfolding decode_entry with_fid mdt_fid child_row name_length name_bytes
  entry_put h =
      let x : List ℕ = sets row child_fid_at (encode_fid f.0) in
      let p : decode_fid x ≡ decode_fid row = fid_before 0 child_fid_at row (encode_fid f.0) (omega arith) in
      let c : le 4 (drop child_row_at x) ≡ le 4 (drop child_row_at row) = number_before 4 child_row_at child_fid_at row (encode_fid f.0) (omega arith) in
      let g : decode_fid (drop child_fid_at x) ≡ f.0 = fid_there child_fid_at row f.0 w (omega arith) in
      let l : le 2 (drop name_length_at x) ≡ le 2 (drop name_length_at row) = ap (le 2) (after child_fid_at name_length_at row f.0 (omega arith)) in
      let n : take (le 2 (drop name_length_at x)) (drop entry_name_at x) ≡ take (le 2 (drop name_length_at row)) (drop entry_name_at row) =
      rw (l, after child_fid_at entry_name_at row f.0 (omega arith)) in
      let r : drop (entry_name_at + le 2 (drop name_length_at x)) x ≡ drop (entry_name_at + le 2 (drop name_length_at row)) row =
      rw (l, after child_fid_at (entry_name_at + le 2 (drop name_length_at row)) row f.0 (omega arith)) in
      λ i. record { parent = record { 0 = p i }; child = c i; fid = record { 0 = g i }; name = n i; rest = r i }

  -- the self FID
  pub self_put : length row ≡ child_size → decode_child (sets row 0 (encode_fid f.0)) ≡ with_self (decode_child row) f
  unfolding decode_child with_self mdt_fid decode_linked link_length link_bytes
  self_put h =
      let x : List ℕ = sets row 0 (encode_fid f.0) in
      let g : decode_fid x ≡ f.0 = fid_there 0 row f.0 w (omega arith) in
      let u : drop up_at x ≡ drop up_at row = after 0 up_at row f.0 (omega arith) in
      let l : drop link_length_at x ≡ drop link_length_at row = after 0 link_length_at row f.0 (omega arith) in
      let m : drop link_room_at x ≡ drop link_room_at row = after 0 link_room_at row f.0 (omega arith) in
      let r : drop (link_room_at + le 2 (drop link_length_at row)) x ≡ drop (link_room_at + le 2 (drop link_length_at row)) row =
      after 0 (link_room_at + le 2 (drop link_length_at row)) row f.0 (omega arith) in
      rw (u, l, m, r, g)

  -- its link_ea is as good as it was
  pub self_link : good_link_ea (sets row 0 (encode_fid f.0)) ≡ good_link_ea row
  unfolding good_link_ea link_length link_bytes
  self_link =
      let l : drop link_length_at (sets row 0 (encode_fid f.0)) ≡ drop link_length_at row = after 0 link_length_at row f.0 (omega arith) in
      let m : drop link_room_at (sets row 0 (encode_fid f.0)) ≡ drop link_room_at row = after 0 link_room_at row f.0 (omega arith) in
      rw (l, m)

  -- and so is its name, with the row of its child
  pub fid_name : good_name (sets row child_fid_at (encode_fid f.0)) ≡ good_name row
  unfolding good_name name_length name_bytes
  fid_name =
      let l : drop name_length_at (sets row child_fid_at (encode_fid f.0)) ≡ drop name_length_at row = after child_fid_at name_length_at row f.0 (omega arith) in
      let m : drop entry_name_at (sets row child_fid_at (encode_fid f.0)) ≡ drop entry_name_at row = after child_fid_at entry_name_at row f.0 (omega arith) in
      rw (l, m)

  pub fid_child : child_row (sets row child_fid_at (encode_fid f.0)) ≡ child_row row
  unfolding child_row
  fid_child = number_before 4 child_row_at child_fid_at row (encode_fid f.0) (omega arith)
