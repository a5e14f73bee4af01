-- Laws of FIDs: the round trips between a FID and its 16 bytes. Assumes nothing.
use mathlib.Core.Path.{◌≡◌, ◌∙◌}
use mathlib.Core.List.{List, ◌++◌, append_assoc}
use mathlib.Core.Bool.{Bool, true, ◌&&◌, false}
use Prim.Native.Nat.{ℕ, ◌+◌, ◌≤◌, ◌<◌, ◌^◌}
use borrow.Author.Tests.{leb-true, eqb-true, lt-leb}
use native.Mathlib.Nat.{mod-eq_of_lt}
use native.Mathlib.Omega.{arith}
use lib.Dec.{leb, eqb}
use lib.ListN.{length, take, drop, length-append, length-drop}
use lib.Seq.{sets, drop-drop, take-add, drop_at}
use Rattle.wire.specs.Numbers.{le, bytes, Order, little, number, number_bytes}
use Rattle.fid.specs.Fid.{id_at, version_at, fid_size, least_sequence, greatest_sequence, good_sequence, good_number, good_fid, decode_fid, encode_fid, decode_fid_in, encode_fid_in}
use Rattle.fid.specs.declared.Fid.{Fid}
use Rattle.wire.proofs.Both.{and_first, and_second}
use Rattle.wire.proofs.Splice.{sets_at}
use Rattle.wire.proofs.NumberLaws.{Bytes, bytes_drop}
use Rattle.wire.proofs.OrderLaws.{length_number, number_back, number_again, number_small}

-- ## Bytes, in either byte order

pub length_fid : (o : Order) (f : Fid) → length (encode_fid_in o f) ≡ fid_size
unfolding encode_fid_in
length_fid o f = simp (length-append, length_number)

-- the fields, read one by one from a place on
pub fid_at_lem : (o : Order) (l : List ℕ) (at s i v : ℕ) → s ≡ number o 8 (drop at l) → i ≡ number o 4 (drop (at + id_at) l) →
    v ≡ number o 4 (drop (at + version_at) l) → ◌≡◌ {A = Fid} (record { seq = s; oid = i; ver = v }) (decode_fid_in o (drop at l))
unfolding decode_fid_in
fid_at_lem o l at s i v p q r = rw (drop-drop id_at at l, drop-drop version_at at l) (λ j. record { seq = p j; oid = q j; ver = r j })

-- the fields, stored one by one from a place on
pub fid_stores : (o : Order) (l : List ℕ) (at : ℕ) (f : Fid) →
    sets (sets (sets l at (number_bytes o 8 f.seq)) (at + id_at) (number_bytes o 4 f.oid)) (at + version_at) (number_bytes o 4 f.ver)
    ≡ sets l at (encode_fid_in o f)
unfolding encode_fid_in
fid_stores o l at f =
    let a : List ℕ = number_bytes o 8 f.seq in
    let b : List ℕ = number_bytes o 4 f.oid in
    rw (sets_at a b l at id_at (length_number o 8 f.seq))
    (sets_at (a ++ b) (number_bytes o 4 f.ver) l at version_at (simp (length-append, length_number)))

-- a FID whose fields fit, written and read
pub record Fits (f : Fid) : Type 0 where
  pub seq : f.seq < 2 ^ 64
  pub oid : f.oid < 2 ^ 32
  pub ver : f.ver < 2 ^ 32

-- what is read from bytes fits
pub fid_fits_in : (o : Order) (l : List ℕ) → Bytes l → Fits (decode_fid_in o l)
unfolding decode_fid_in
fid_fits_in o l h =
    record {
      seq = number_small o 8 l h;
      oid = number_small o 4 (drop id_at l) (bytes_drop id_at l h);
      ver = number_small o 4 (drop version_at l) (bytes_drop version_at l h);
    }

pub fid_back : (o : Order) (f : Fid) (r : List ℕ) → Fits f → decode_fid_in o (encode_fid_in o f ++ r) ≡ f
unfolding decode_fid_in encode_fid_in
fid_back o f r h =
    let a : List ℕ = number_bytes o 8 f.seq in
    let b : List ℕ = number_bytes o 4 f.oid in
    let d : List ℕ = number_bytes o 4 f.ver in
    let p : number o 8 (((a ++ b) ++ d) ++ r) ≡ f.seq =
    simp append_assoc (number_back o 8 f.seq (b ++ (d ++ r)) ∙ mod-eq_of_lt h.seq) in
    let q : number o 4 (drop id_at (((a ++ b) ++ d) ++ r)) ≡ f.oid =
    simp (append_assoc, drop_at a (b ++ (d ++ r)) id_at (length_number o 8 f.seq)) (number_back o 4 f.oid (d ++ r) ∙ mod-eq_of_lt h.oid) in
    let s : number o 4 (drop version_at (((a ++ b) ++ d) ++ r)) ≡ f.ver =
    rw (append_assoc (a ++ b) d r, drop_at (a ++ b) (d ++ r) version_at (simp (length-append, length_number)))
    (number_back o 4 f.ver r ∙ mod-eq_of_lt h.ver) in
    λ i. record { seq = p i; oid = q i; ver = s i }

pub fid_again : (o : Order) (l : List ℕ) → Bytes l → fid_size ≤ length l → encode_fid_in o (decode_fid_in o l) ≡ take fid_size l
unfolding decode_fid_in encode_fid_in
fid_again o l h k =
    rw (
      number_again o 8 l h (omega arith),
      number_again o 4 (drop id_at l) (bytes_drop id_at l h) (simp length-drop (omega arith)),
      number_again o 4 (drop version_at l) (bytes_drop version_at l h) (simp length-drop (omega arith)),
      ← take-add id_at 4 l,
      ← take-add version_at 4 l,
    )

-- ## Little-endian, as in every table

pub length_encode : (f : Fid) → length (encode_fid f) ≡ fid_size
unfolding encode_fid encode_fid_in number_bytes
length_encode f = length_fid little f

pub decode_at : (l : List ℕ) (at s i v : ℕ) → s ≡ le 8 (drop at l) → i ≡ le 4 (drop (at + id_at) l) → v ≡ le 4 (drop (at + version_at) l) →
    ◌≡◌ {A = Fid} (record { seq = s; oid = i; ver = v }) (decode_fid (drop at l))
unfolding decode_fid decode_fid_in number
decode_at l at s i v p q r = fid_at_lem little l at s i v p q r

pub encode_at : (l : List ℕ) (at : ℕ) (f : Fid) →
    sets (sets (sets l at (bytes 8 f.seq)) (at + id_at) (bytes 4 f.oid)) (at + version_at) (bytes 4 f.ver) ≡ sets l at (encode_fid f)
unfolding encode_fid encode_fid_in number_bytes
encode_at l at f = fid_stores little l at f

pub fid_fits : (l : List ℕ) → Bytes l → Fits (decode_fid l)
unfolding decode_fid decode_fid_in number
fid_fits l h = fid_fits_in little l h

pub decode_encode : (f : Fid) (r : List ℕ) → Fits f → decode_fid (encode_fid f ++ r) ≡ f
unfolding decode_fid encode_fid decode_fid_in encode_fid_in number number_bytes
decode_encode f r h = fid_back little f r h

pub encode_decode : (l : List ℕ) → Bytes l → fid_size ≤ length l → encode_fid (decode_fid l) ≡ take fid_size l
unfolding decode_fid encode_fid decode_fid_in encode_fid_in number number_bytes
encode_decode l h k = fid_again little l h k

-- what is known of a good FID
pub record GoodFacts (f : Fid) : Type 0 where
  pub least : least_sequence ≤ f.seq
  pub greatest : f.seq ≤ greatest_sequence
  pub version : f.ver ≡ 0

pub good_facts : (f : Fid) → good_fid f ≡ true → GoodFacts f
unfolding good_fid good_number good_sequence
good_facts f h =
    let a : Bool = leb least_sequence f.seq in
    let b : Bool = leb f.seq greatest_sequence in
    let d : Bool = leb 1 f.oid in
    let v : Bool = eqb f.ver 0 in
    let s : (a && b) ≡ true = and_first (a && b) d (and_first (a && b && d) v h) in
    record {
      least = leb-true least_sequence f.seq (and_first a b s);
      greatest = leb-true f.seq greatest_sequence (and_second a b s);
      version = eqb-true f.ver 0 (and_second (a && b && d) v h);
    }

-- the sequence of a good FID is not 0
pub good_positive : (f : Fid) → good_fid f ≡ true → 0 < f.seq
good_positive f h = omega (arith, good_facts f h)

-- ## A sequence below the good ones

pub number_low : (f : Fid) → f.seq < least_sequence → false ≡ good_number f
unfolding good_number good_sequence
number_low f h = simp (lt-leb _ _ h)
