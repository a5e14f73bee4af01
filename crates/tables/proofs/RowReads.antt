-- What a row says, read field by field. Assumes nothing.
use mathlib.Core.Path.{◌≡◌, ap, ◌∙◌}
use Rattle.std.specs.Prelude.{Option, Some, None}
use Rattle.tables.specs.declared.Place.{Place}
use mathlib.Core.List.{List}
use mathlib.Core.Bool.{true, false}
use Prim.Native.Nat.{ℕ, ◌+◌, ◌-◌, ◌≤◌}
use native.Mathlib.Omega.{arith}
use lib.Dec.{eqb}
use lib.ListN.{length, get_or, take, drop, length-drop}
use lib.Seq.{drop-drop, length-take-le}
use Rattle.wire.specs.Numbers.{le}
use Rattle.fid.specs.Fid.{decode_fid, same_fid, zero_fid}
use Rattle.fid.specs.declared.Fid.{Fid}
use Rattle.tables.specs.Bytes.{parent_size, layout_room, layout_length, layout_bytes, decode_owner, claim_from, decode_object, self_fid, claimed_fid}
use Rattle.tables.specs.declared.Owner.{Owner}
use Rattle.tables.specs.declared.Object.{Object}

pub owner_is : (row : List ℕ) (at u g : ℕ) → u ≡ le 4 (drop at row) → g ≡ le 4 (drop (at + 4) row) →
    ◌≡◌ {A = Owner} (record { uid = u; gid = g }) (decode_owner (drop at row))
unfolding decode_owner
owner_is row at u g p q = rw (drop-drop 4 at row) (λ i. record { uid = p i; gid = q i })

module _ (f : Fid) where
  pub claim_none : same_fid f zero_fid ≡ true → None ≡ claim_from f
  unfolding claim_from
  claim_none h = rw h

  pub claim_some : same_fid f zero_fid ≡ false → Some (record { file = record { 0 = record { seq = f.seq; oid = f.oid; ver = 0 } }; index = f.ver }) ≡ claim_from f
  unfolding claim_from
  claim_some h = rw h

pub object_is_lem : (row : List ℕ) (f g : Fid) (o : ℕ) (w : Owner) (k : Option Place) → f ≡ decode_fid (drop 1 row) → o ≡ le 4 (drop 17 row) →
    w ≡ decode_owner (drop 21 row) → g ≡ decode_fid (drop 29 row) → k ≡ claim_from g →
    ◌≡◌ {A = Object} (record { fid = record { 0 = f }; ost = o; owner = w; claim = k; fresh = eqb (get_or row 45 0) 1 }) (decode_object row)
unfolding decode_object decode_fid self_fid claimed_fid
object_is_lem row f g o w k p q r s t =
    let z : k ≡ claim_from (decode_fid (drop 29 row)) = t ∙ ap claim_from s in
    λ i. record { fid = record { 0 = p i }; ost = q i; owner = r i; claim = z i; fresh = eqb (get_or row 45 0) 1 }

-- the layout of a row, as the code takes it
pub layout_part : (row : List ℕ) (n : ℕ) → n ≡ layout_length row → take (27 + n - 27) (drop 27 row) ≡ layout_bytes row
unfolding layout_bytes
layout_part row n e = let z : 27 + n - 27 ≡ n = omega arith in rw (z, e)

pub layout_bytes_lem : (row : List ℕ) → length row ≡ parent_size → layout_length row ≤ layout_room → length (layout_bytes row) ≡ layout_length row
unfolding layout_bytes
layout_bytes_lem row h k = length-take-le (layout_length row) (drop 27 row) (rw length-drop (omega arith))
