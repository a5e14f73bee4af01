-- Rows that can be written: what they say fits its fields and keeps the rules, and is read back as it was written. Assumes nothing.
use mathlib.Core.Path.{◌≡◌, refl, sym, ap, ◌∙◌}
use Rattle.std.specs.Prelude.{Option, Some, None}
use Rattle.tables.specs.declared.Place.{Place}
use mathlib.Core.List.{List, [], ◌∷◌, ◌++◌, append_assoc, append-nil}
use mathlib.Core.Bool.{Bool, true, false}
use Prim.Native.Nat.{ℕ, ◌+◌, ◌≤◌, ◌<◌, ◌^◌}
use native.Mathlib.Nat.{mod-eq_of_lt}
use native.Mathlib.Omega.{arith}
use borrow.Author.Tests.{eqb-true, ne_eqb}
use lib.Dec.{eqb}
use lib.ListN.{length, get_or, drop, length-append}
use lib.Seq.{drop-drop, drop_at, take_at, get_or-drop}
use Rattle.wire.specs.Numbers.{le, bytes}
use Rattle.wire.proofs.Both.{and_second}
use Rattle.wire.proofs.NumberLaws.{field, length_bytes, le_bytes}
use Rattle.fid.specs.Fid.{decode_fid, encode_fid, good_fid, good_number, same_fid, zero_fid}
use Rattle.fid.specs.declared.Fid.{Fid}
use Rattle.fid.proofs.FidLaws.{Fits, length_encode, decode_encode, good_positive}
use Rattle.layout.specs.Slot.{max_index}
use Rattle.layout.specs.Layout.{decode_layout, encode_layout}
use Rattle.layout.proofs.LayoutLaws.{Writable, read_back}
use Rattle.tables.specs.Records.{Parent, ParentRow, ObjectRow}
use Rattle.tables.specs.Bytes.{parent_size, object_size, layout_room, decode_owner, encode_owner, layout_length, layout_bytes, decode_parent, encode_parent, parse_parent, render_parent, claim_from, claim_fid, decode_object, mark, encode_object, parse_object, render_object, self_fid, claimed_fid, ost_at, fresh_at}
use Rattle.tables.specs.declared.Owner.{Owner}
use Rattle.tables.specs.declared.Object.{Object}
use Rattle.tables.proofs.EitherRow.{FitRow, row_read_back, row_length}

-- ## What fits

pub record FitOwner (w : Owner) : Type 0 where
  pub uid : w.uid < 2 ^ 32
  pub gid : w.gid < 2 ^ 32

-- a file: a good FID, an owner, a layout that the writer takes, and the bytes that fill its room
pub record FitFile (a : Parent) : Type 0 where
  pub fits : Fits a.self.0
  pub good : good_fid a.self.0 ≡ true
  pub owner : FitOwner a.owner
  pub layout : Writable a.layout
  pub room : length (encode_layout a.layout) + length a.tail ≡ layout_room

unfoldable pub FitParent : ParentRow → Type 0
FitParent w = FitRow FitFile parent_size w

unfoldable pub FitClaim : Option Place → Type 0
FitClaim None = Unit {0}
FitClaim (Some p) = Fits p.file.0 × (good_fid p.file.0 ≡ true) × (p.index < 2 ^ 32)

unfoldable pub has_claim : Option Place → Bool
has_claim None = false
has_claim (Some p) = true

-- what a used object row says: a good FID, an index, an owner, a claim, and a claim where it is fresh
pub record FitThing (x : Object) : Type 0 where
  pub fits : Fits x.fid.0
  pub good : good_fid x.fid.0 ≡ true
  pub ost : x.ost ≤ max_index
  pub owner : FitOwner x.owner
  pub claim : FitClaim x.claim
  pub fresh : x.fresh ≡ true → has_claim x.claim ≡ true

unfoldable pub FitObject : ObjectRow → Type 0
FitObject w = FitRow FitThing object_size w

-- ## Read back

good_version_zero : (f : Fid) → good_fid f ≡ true → f.ver ≡ 0
unfolding good_fid
good_version_zero f h = eqb-true f.ver 0 (and_second (good_number f) (eqb f.ver 0) h)

length_owner : (w : Owner) → length (encode_owner w) ≡ 8
unfolding encode_owner
length_owner w = simp (length-append, length_bytes)

pub owner_read_back : (w : Owner) (r : List ℕ) → FitOwner w → decode_owner (encode_owner w ++ r) ≡ w
unfolding decode_owner encode_owner
owner_read_back w r f =
    let u : List ℕ = bytes 4 w.uid in
    let g : List ℕ = bytes 4 w.gid in
    let p : le 4 ((u ++ g) ++ r) ≡ w.uid = field 4 w.uid 0 [] (g ++ r) ((u ++ g) ++ r) (append_assoc u g r) refl f.uid in
    let q : le 4 (drop 4 ((u ++ g) ++ r)) ≡ w.gid = field 4 w.gid 4 u r ((u ++ g) ++ r) (append_assoc u g r) (length_bytes 4 w.uid) f.gid in
    λ i. record { uid = p i; gid = q i }

-- ## Parent rows

-- a file's row: what stands from each field on
module _ (a : Parent) where
  F : List ℕ
  F = encode_fid a.self.0

  O : List ℕ
  O = encode_owner a.owner

  L : List ℕ
  L = encode_layout a.layout

  N : List ℕ
  N = bytes 2 (length L)

  row : List ℕ
  row = 1 ∷ encode_parent a

  after_mark : drop 1 row ≡ F ++ (O ++ (N ++ (L ++ a.tail)))
  unfolding row encode_parent F O N L
  after_mark = rw (append_assoc, append_assoc, append_assoc)

  after_fid : drop 17 row ≡ O ++ (N ++ (L ++ a.tail))
  unfolding F
  after_fid =
      sym (drop-drop 16 1 row) ∙ ap (λ (l : List ℕ). drop 16 l) after_mark ∙ drop_at F (O ++ (N ++ (L ++ a.tail))) 16 (length_encode a.self.0)

  after_owner : drop 25 row ≡ N ++ (L ++ a.tail)
  unfolding O
  after_owner =
      sym (drop-drop 8 17 row) ∙ ap (λ (l : List ℕ). drop 8 l) after_fid ∙ drop_at O (N ++ (L ++ a.tail)) 8 (length_owner a.owner)

  after_length : drop 27 row ≡ L ++ a.tail
  unfolding N
  after_length =
      sym (drop-drop 2 25 row) ∙ ap (λ (l : List ℕ). drop 2 l) after_owner ∙ drop_at N (L ++ a.tail) 2 (length_bytes 2 (length L))

  module _ (f : FitFile a) where
    short : length L < 2 ^ 16
    unfolding L
    short = omega (arith, f.room)

    length_back : layout_length row ≡ length L
    unfolding layout_length N
    length_back = rw (after_owner, le_bytes 2 (length L) (L ++ a.tail), mod-eq_of_lt short)

    bytes_back : layout_bytes row ≡ L
    unfolding layout_bytes
    bytes_back = rw (length_back, after_length, take_at L a.tail (length L) refl)

    tail_back : drop (27 + layout_length row) row ≡ a.tail
    tail_back = rw (length_back, ← drop-drop (length L) 27 row, after_length, drop_at L a.tail (length L) refl)

    self_back : self_fid row ≡ a.self.0
    unfolding self_fid F
    self_back = rw (after_mark, decode_encode a.self.0 (O ++ (N ++ (L ++ a.tail))) f.fits)

    owner_back : decode_owner (drop 17 row) ≡ a.owner
    unfolding O
    owner_back = rw (after_fid, owner_read_back a.owner (N ++ (L ++ a.tail)) f.owner)

    layout_back : decode_layout (layout_bytes row) ≡ a.layout
    unfolding L
    layout_back = rw bytes_back (rw (append-nil (encode_layout a.layout)) at (read_back a.layout f.layout []))

    file_back : decode_parent row ≡ a
    unfolding decode_parent
    file_back = λ i. record { self = record { 0 = self_back i }; owner = owner_back i; layout = layout_back i; tail = tail_back i }

    file_length : length row ≡ parent_size
    unfolding row encode_parent L
    file_length =
        simp (length-append, length_bytes, length_encode, length_owner) (omega (arith, f.room))

pub parent_read_back : (w : ParentRow) → FitParent w → parse_parent (render_parent w) ≡ w
unfolding FitParent parse_parent render_parent row
parent_read_back w f = row_read_back encode_parent FitFile parent_size decode_parent file_back w f

pub parent_length : (w : ParentRow) → FitParent w → length (render_parent w) ≡ parent_size
unfolding FitParent render_parent row
parent_length w f = row_length encode_parent FitFile parent_size file_length w f

-- ## Object rows

-- a claim is read back from the FID that it is written as
pub claim_read_back : (k : Option Place) → FitClaim k → claim_from (claim_fid k) ≡ k
unfolding FitClaim claim_from claim_fid same_fid zero_fid
claim_read_back None f = refl
claim_read_back (Some p) f =
    let g : Fid = p.file.0 in
    let s : 0 < g.seq = good_positive g f.1 in
    let v : 0 ≡ g.ver = sym (good_version_zero g f.1) in
    let n : eqb g.seq 0 ≡ false = ne_eqb g.seq 0 (λ e. omega arith) in
    rw n (λ j. Some (record { file = record { 0 = record { seq = g.seq; oid = g.oid; ver = v j } }; index = p.index }))

claim_fits : (k : Option Place) → FitClaim k → Fits (claim_fid k)
unfolding FitClaim claim_fid zero_fid
claim_fits None f = record { seq = omega arith; oid = omega arith; ver = omega arith }
claim_fits (Some p) f = record { seq = f.0.seq; oid = f.0.oid; ver = f.2 }

mark_bit : (b : Bool) → eqb (mark b) 1 ≡ b
unfolding mark
mark_bit true = refl
mark_bit false = refl

-- an object's row: what stands from each field on
module _ (x : Object) where
  A : List ℕ
  A = encode_fid x.fid.0

  I : List ℕ
  I = bytes 4 x.ost

  W : List ℕ
  W = encode_owner x.owner

  C : List ℕ
  C = encode_fid (claim_fid x.claim)

  M : List ℕ
  M = mark x.fresh ∷ []

  line : List ℕ
  line = 1 ∷ encode_object x

  from_fid : drop 1 line ≡ A ++ (I ++ (W ++ (C ++ M)))
  unfolding line encode_object A I W C M
  from_fid = rw (append_assoc, append_assoc, append_assoc)

  from_index : drop 17 line ≡ I ++ (W ++ (C ++ M))
  unfolding A
  from_index = sym (drop-drop 16 1 line) ∙ ap (λ (l : List ℕ). drop 16 l) from_fid ∙ drop_at A (I ++ (W ++ (C ++ M))) 16 (length_encode x.fid.0)

  from_owner : drop 21 line ≡ W ++ (C ++ M)
  unfolding I
  from_owner = sym (drop-drop 4 17 line) ∙ ap (λ (l : List ℕ). drop 4 l) from_index ∙ drop_at I (W ++ (C ++ M)) 4 (length_bytes 4 x.ost)

  from_claim : drop 29 line ≡ C ++ M
  unfolding W
  from_claim = sym (drop-drop 8 21 line) ∙ ap (λ (l : List ℕ). drop 8 l) from_owner ∙ drop_at W (C ++ M) 8 (length_owner x.owner)

  from_fresh : drop 45 line ≡ M
  unfolding C
  from_fresh = sym (drop-drop 16 29 line) ∙ ap (λ (l : List ℕ). drop 16 l) from_claim ∙ drop_at C M 16 (length_encode (claim_fid x.claim))

  fresh_byte : get_or line 45 0 ≡ mark x.fresh
  unfolding M
  fresh_byte = sym (get_or-drop 45 line 0 0) ∙ ap (λ (l : List ℕ). get_or l 0 0) from_fresh

  module _ (f : FitThing x) where
    ost_back : le 4 (drop 17 line) ≡ x.ost
    unfolding I
    ost_back =
        let k : x.ost < 256 ^ 4 = omega (arith, f.ost) in
        rw (from_index, le_bytes 4 x.ost (W ++ (C ++ M)), mod-eq_of_lt k)

    fid_back : self_fid line ≡ x.fid.0
    unfolding self_fid A
    fid_back = rw (from_fid, decode_encode x.fid.0 (I ++ (W ++ (C ++ M))) f.fits)

    possessor_back : decode_owner (drop 21 line) ≡ x.owner
    unfolding W
    possessor_back = rw (from_owner, owner_read_back x.owner (C ++ M) f.owner)

    claim_back : claim_from (decode_fid (drop 29 line)) ≡ x.claim
    unfolding C
    claim_back =
        rw (from_claim, decode_encode (claim_fid x.claim) M (claim_fits x.claim f.claim)) (claim_read_back x.claim f.claim)

    fresh_back : eqb (get_or line 45 0) 1 ≡ x.fresh
    fresh_back = rw fresh_byte (mark_bit x.fresh)

    thing_back : decode_object line ≡ x
    unfolding decode_object claimed_fid
    thing_back =
        λ i. record { fid = record { 0 = fid_back i }; ost = ost_back i; owner = possessor_back i; claim = claim_back i; fresh = fresh_back i }

  thing_length : length line ≡ object_size
  unfolding line encode_object
  thing_length = simp (length-append, length_bytes, length_encode, length_owner)

pub object_read_back : (w : ObjectRow) → FitObject w → parse_object (render_object w) ≡ w
unfolding FitObject parse_object render_object line
object_read_back w f = row_read_back encode_object FitThing object_size decode_object thing_back w f

pub object_length : (w : ObjectRow) → FitObject w → length (render_object w) ≡ object_size
unfolding FitObject render_object line
object_length w f = row_length encode_object FitThing object_size (λ x _. thing_length x) w f

-- ## What a written row says

module _ (a : Parent) (f : FitFile a) where
  pub file_self : self_fid (1 ∷ encode_parent a) ≡ a.self.0
  unfolding row
  file_self = self_back a f

  pub file_long : length (1 ∷ encode_parent a) ≡ parent_size
  unfolding row
  file_long = file_length a f

  pub file_room : layout_length (1 ∷ encode_parent a) ≤ layout_room
  unfolding row L
  file_room = omega (arith, length_back a f, f.room)

  pub file_layout : layout_bytes (1 ∷ encode_parent a) ≡ encode_layout a.layout
  unfolding row L
  file_layout = bytes_back a f

module _ (x : Object) (f : FitThing x) where
  pub thing_self : self_fid (1 ∷ encode_object x) ≡ x.fid.0
  unfolding line
  thing_self = fid_back x f

  pub thing_long : length (1 ∷ encode_object x) ≡ object_size
  unfolding line
  thing_long = thing_length x

  pub thing_index : le 4 (drop ost_at (1 ∷ encode_object x)) ≡ x.ost
  unfolding line
  thing_index = ost_back x f

  pub thing_claim : claimed_fid (1 ∷ encode_object x) ≡ claim_fid x.claim
  unfolding claimed_fid line C
  thing_claim = rw (from_claim x, decode_encode (claim_fid x.claim) (M x) (claim_fits x.claim f.claim))

  pub thing_fresh : get_or (1 ∷ encode_object x) fresh_at 0 ≡ mark x.fresh
  unfolding line
  thing_fresh = fresh_byte x
