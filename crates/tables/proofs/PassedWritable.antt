-- Tables that pass the check are tables whose rows can be written. Assumes nothing.
use mathlib.Core.Path.{◌≡◌, refl, ap, ◌∙◌}
use Rattle.std.specs.Prelude.{Some, None}
use mathlib.Core.List.{List}
use mathlib.Core.Bool.{Bool, true, false, cond, ◌||◌}
use Prim.Native.Nat.{ℕ, ◌+◌, ◌*◌, ◌/◌, ◌<◌}
use native.Mathlib.Omega.{arith}
use borrow.Author.Tests.{eqb-true}
use lib.ListN.{length, get_or, take, drop, length-drop}
use Rattle.wire.proofs.Both.{and_both}
use Rattle.wire.proofs.NumberLaws.{Bytes, bytes_drop, bytes_take, le_small, le_small_at}
use Rattle.fid.specs.Fid.{decode_fid, good_fid, good_number, same_fid, zero_fid}
use Rattle.fid.specs.declared.Fid.{Fid}
use Rattle.fid.proofs.FidLaws.{Fits, fid_fits}
use Rattle.layout.specs.Layout.{decode_layout, encode_layout}
use Rattle.layout.proofs.LayoutLaws.{written_back, accepted_writable}
use Rattle.tables.specs.Bytes.{parent_size, object_size, is_used, decode_owner, layout_length, layout_bytes, decode_parent, parse_parent, claim_from, decode_object, parse_object, parse, self_fid, claimed_fid}
use Rattle.tables.specs.Positions.{row_at}
use Rattle.tables.specs.Check.{good_claim, Sound}
use Rattle.tables.proofs.PositionLaws.{parsed_parents, parsed_objects, parsed_row, parsed_object}
use Rattle.tables.proofs.SoundLaws.{ParentFacts, ObjectFacts, parent_size_lem, parent_facts, object_size_lem, object_facts}
use Rattle.tables.proofs.WritableRows.{FitOwner, FitFile, FitParent, FitClaim, has_claim, FitThing, FitObject}
use Rattle.tables.proofs.ParseLaws.{FitTables}
use Rattle.tables.proofs.EitherRow.{parsed_fits}

-- ## What is read from bytes fits its fields

owner_fits : (l : List ℕ) → Bytes l → FitOwner (decode_owner l)
unfolding decode_owner
owner_fits l h = record { uid = le_small 4 l h; gid = le_small_at 4 4 l h }

-- ## Rows

file_fits : (row : List ℕ) → Bytes row → ParentFacts row → FitFile (decode_parent row)
unfolding decode_parent self_fid layout_bytes
file_fits row b f =
    let n : ℕ = layout_length row in
    let lay : Bytes (layout_bytes row) = bytes_take n (drop 27 row) (bytes_drop 27 row b) in
    let z : length (encode_layout (decode_layout (layout_bytes row))) ≡ layout_length row =
    ap (λ (l : List ℕ). length l) (written_back (layout_bytes row) lay f.accepted) ∙ f.bytes in
    record {
      fits = fid_fits (drop 1 row) (bytes_drop 1 row b);
      good = f.self;
      owner = owner_fits (drop 17 row) (bytes_drop 17 row b);
      layout = accepted_writable (layout_bytes row) lay f.accepted;
      room = rw (z, length-drop (27 + n) row, f.size) (omega (arith, f.room));
    }

pub parent_fits : (row : List ℕ) → Bytes row → length row ≡ parent_size → (is_used row ≡ true → ParentFacts row) → FitParent (parse_parent row)
unfolding parse_parent FitParent
parent_fits row b n f = parsed_fits decode_parent row FitFile parent_size (omega arith) n (λ u. file_fits row b (f u))

-- the claim of a FID that is zero, or of a good sequence and id
module _ (g : Fid) (b : Fits g) where
  claim_fits : (same_fid g zero_fid || good_number g) ≡ true → FitClaim (claim_from g)
  unfolding claim_from FitClaim good_fid good_number
  claim_fits h = go (same_fid g zero_fid) h
    where
      go : (t : Bool) → (t || good_number g) ≡ true →
          FitClaim (cond t None (Some (record { file = record { 0 = record { seq = g.seq; oid = g.oid; ver = 0 } }; index = g.ver })))
      go true e = tt
      go false e = (record { seq = b.seq; oid = b.oid; ver = omega arith }, and_both (good_number g) true e refl, b.ver)

  claim_there : same_fid g zero_fid ≡ false → has_claim (claim_from g) ≡ true
  unfolding claim_from has_claim
  claim_there h = rw h

thing_fits : (row : List ℕ) → Bytes row → ObjectFacts row → FitThing (decode_object row)
unfolding decode_object self_fid claimed_fid good_claim
thing_fits row b f =
    let g : Fits (decode_fid (drop 29 row)) = fid_fits (drop 29 row) (bytes_drop 29 row b) in
    record {
      fits = fid_fits (drop 1 row) (bytes_drop 1 row b);
      good = f.self;
      ost = f.index;
      owner = owner_fits (drop 21 row) (bytes_drop 21 row b);
      claim = claim_fits (decode_fid (drop 29 row)) g f.claim;
      fresh = λ e. claim_there (decode_fid (drop 29 row)) g (f.fresh (eqb-true (get_or row 45 0) 1 e));
    }

pub object_fits : (row : List ℕ) → Bytes row → length row ≡ object_size → (is_used row ≡ true → ObjectFacts row) → FitObject (parse_object row)
unfolding parse_object FitObject
object_fits row b n f = parsed_fits decode_object row FitThing object_size (omega arith) n (λ u. thing_fits row b (f u))

-- ## Tables

pub sound_fits : (p o : List ℕ) → Sound p o → Bytes p → Bytes o → FitTables (parse p o)
unfolding row_at
sound_fits p o h b c =
    record {
      parents = λ r k.
          let m : r < length p / parent_size = rw (parsed_parents p) at k in
          let row : List ℕ = take parent_size (drop (parent_size * r) p) in
          let x = parent_fits row (bytes_take parent_size (drop (parent_size * r) p) (bytes_drop (parent_size * r) p b)) (parent_size_lem p o h r row m refl)
          (parent_facts p o h r row m refl) in
          rw (parsed_row p r m) x;
      objects = λ r k.
          let m : r < length o / object_size = rw (parsed_objects o) at k in
          let row : List ℕ = take object_size (drop (object_size * r) o) in
          let x = object_fits row (bytes_take object_size (drop (object_size * r) o) (bytes_drop (object_size * r) o c)) (object_size_lem p o h r row m refl)
          (object_facts p o h r row m refl) in
          rw (parsed_object o r m) x;
    }
