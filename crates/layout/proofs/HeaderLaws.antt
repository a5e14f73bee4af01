-- Laws of headers: their size, their fields read and stored, and the round trip. Assumes nothing.
use mathlib.Core.Path.{◌≡◌, refl}
use mathlib.Core.List.{List, [], ◌++◌, append_assoc}
use mathlib.Core.Bool.{Bool, true, false, cond}
use Prim.Native.Nat.{ℕ, ◌≤◌, ◌<◌, ◌^◌}
use native.Mathlib.Omega.{arith}
use lib.Dec.{eqb}
use lib.ListN.{length, take, drop, length-append, length-drop}
use lib.Seq.{sets, take-add}
use Rattle.wire.specs.Numbers.{le, bytes}
use Rattle.wire.proofs.Splice.{sets_at}
use Rattle.wire.proofs.NumberLaws.{Bytes, field, bytes_drop, bytes_le, length_bytes, le_small, le_small_at}
use Rattle.layout.specs.declared.Header.{Header}
use Rattle.layout.specs.Layout.{pattern_at, own_id_at, own_sequence_at, stripe_size_at, stripe_count_at, generation_at, plain_header, pool_header, header_size, magic_three, decode_header, encode_header, generations, at_generation, stripe_count}

pub size_least : (m : ℕ) → plain_header ≤ header_size m
unfolding header_size
size_least m = go (eqb m magic_three)
  where
    go : (b : Bool) → plain_header ≤ cond b pool_header plain_header
    go true = omega arith
    go false = omega arith

pub size_most : (m : ℕ) → header_size m ≤ pool_header
unfolding header_size
size_most m = go (eqb m magic_three)
  where
    go : (b : Bool) → cond b pool_header plain_header ≤ pool_header
    go true = omega arith
    go false = omega arith

-- a header's size that was computed lies between 32 and 48
pub record SizeFacts (m b : ℕ) : Type 0 where
  pub least : plain_header ≤ b
  pub most : b ≤ pool_header
  pub is : b ≡ header_size m

pub size_known : (m b : ℕ) → b ≡ header_size m → SizeFacts m b
size_known m b e = record { least = rw e (size_least m); most = rw e (size_most m); is = e }

pub length_header : (h : Header) (n : ℕ) → length (encode_header h n) ≡ plain_header
unfolding encode_header
length_header h n = simp (length-append, length_bytes)

-- the fields, stored one by one
pub header_stores : (l a b c d e f x : List ℕ) (h : Header) (n : ℕ) → a ≡ sets l 0 (bytes 4 h.magic) →
    b ≡ sets a pattern_at (bytes 4 h.pattern) → c ≡ sets b own_id_at (bytes 8 h.oid) → d ≡ sets c own_sequence_at (bytes 8 h.seq) →
    e ≡ sets d stripe_size_at (bytes 4 h.stripe) → f ≡ sets e stripe_count_at (bytes 2 n) → x ≡ sets f generation_at (bytes 2 h.generation) → x ≡ sets l 0 (encode_header h n)
unfolding encode_header
header_stores l a b c d e f x h n ea eb ec ed ee ef ex =
    let m : List ℕ = bytes 4 h.magic in
    let p : List ℕ = m ++ bytes 4 h.pattern in
    let o : List ℕ = p ++ bytes 8 h.oid in
    let s : List ℕ = o ++ bytes 8 h.seq in
    let t : List ℕ = s ++ bytes 4 h.stripe in
    let u : List ℕ = t ++ bytes 2 n in
    rw (
      ex,
      ef,
      ee,
      ed,
      ec,
      eb,
      ea,
      sets_at m (bytes 4 h.pattern) l 0 pattern_at (length_bytes 4 h.magic),
      sets_at p (bytes 8 h.oid) l 0 own_id_at (simp (length-append, length_bytes)),
      sets_at o (bytes 8 h.seq) l 0 own_sequence_at (simp (length-append, length_bytes)),
      sets_at s (bytes 4 h.stripe) l 0 stripe_size_at (simp (length-append, length_bytes)),
      sets_at t (bytes 2 n) l 0 stripe_count_at (simp (length-append, length_bytes)),
      sets_at u (bytes 2 h.generation) l 0 generation_at (simp (length-append, length_bytes)),
    )

-- the fields fit their widths
pub record FitHeader (h : Header) : Type 0 where
  pub magic : h.magic < 2 ^ 32
  pub pattern : h.pattern < 2 ^ 32
  pub oid : h.oid < 2 ^ 64
  pub seq : h.seq < 2 ^ 64
  pub stripe : h.stripe < 2 ^ 32
  pub generation : h.generation < 2 ^ 16

pub fit_generation : (h : Header) (g : ℕ) → FitHeader h → g < generations → FitHeader (at_generation h g)
unfolding at_generation
fit_generation h g f e =
    record { magic = f.magic; pattern = f.pattern; oid = f.oid; seq = f.seq; stripe = f.stripe; generation = e }

-- what is read from bytes fits
pub header_fits : (l : List ℕ) → Bytes l → FitHeader (decode_header l)
unfolding decode_header
header_fits l h =
    record {
      magic = le_small 4 l h;
      pattern = le_small_at 4 pattern_at l h;
      oid = le_small_at 8 own_id_at l h;
      seq = le_small_at 8 own_sequence_at l h;
      stripe = le_small_at 4 stripe_size_at l h;
      generation = le_small_at 2 generation_at l h;
    }

module _ (h : Header) (n : ℕ) (r : List ℕ) where
  m : List ℕ
  m = bytes 4 h.magic

  p : List ℕ
  p = bytes 4 h.pattern

  o : List ℕ
  o = bytes 8 h.oid

  s : List ℕ
  s = bytes 8 h.seq

  t : List ℕ
  t = bytes 4 h.stripe

  c : List ℕ
  c = bytes 2 n

  g : List ℕ
  g = bytes 2 h.generation

  pub count_read_back : n < 2 ^ 16 → stripe_count (encode_header h n ++ r) ≡ n
  unfolding stripe_count encode_header m p o s t g
  count_read_back f = field 2 n stripe_count_at (m ++ p ++ o ++ s ++ t) (g ++ r) (encode_header h n ++ r) (simp append_assoc) (simp (length-append, length_bytes)) f

  pub header_read_back : FitHeader h → decode_header (encode_header h n ++ r) ≡ h
  unfolding decode_header encode_header m p o s t c g
  header_read_back f =
      let l : List ℕ = encode_header h n ++ r in
      let em : le 4 (drop 0 l) ≡ h.magic = field 4 h.magic 0 [] (p ++ (o ++ (s ++ (t ++ (c ++ (g ++ r)))))) l (simp append_assoc) refl f.magic in
      let ep : le 4 (drop pattern_at l) ≡ h.pattern = field 4 h.pattern pattern_at m (o ++ (s ++ (t ++ (c ++ (g ++ r))))) l (simp append_assoc) (simp (length-append, length_bytes)) f.pattern in
      let eo : le 8 (drop own_id_at l) ≡ h.oid = field 8 h.oid own_id_at (m ++ p) (s ++ (t ++ (c ++ (g ++ r)))) l (simp append_assoc) (simp (length-append, length_bytes)) f.oid in
      let es : le 8 (drop own_sequence_at l) ≡ h.seq = field 8 h.seq own_sequence_at (m ++ p ++ o) (t ++ (c ++ (g ++ r))) l (simp append_assoc) (simp (length-append, length_bytes)) f.seq in
      let et : le 4 (drop stripe_size_at l) ≡ h.stripe = field 4 h.stripe stripe_size_at (m ++ p ++ o ++ s) (c ++ (g ++ r)) l (simp append_assoc) (simp (length-append, length_bytes)) f.stripe in
      let eg : le 2 (drop generation_at l) ≡ h.generation = field 2 h.generation generation_at (m ++ p ++ o ++ s ++ t ++ c) r l (simp append_assoc) (simp (length-append, length_bytes)) f.generation in
      λ i. record { magic = em i; pattern = ep i; oid = eo i; seq = es i; stripe = et i; generation = eg i }

-- the header's 32 bytes, read and written
pub header_written_back : (l : List ℕ) → Bytes l → plain_header ≤ length l → encode_header (decode_header l) (stripe_count l) ≡ take plain_header l
unfolding encode_header decode_header stripe_count
header_written_back l h k =
    rw (
      bytes_le 4 l h (omega arith),
      bytes_le 4 (drop pattern_at l) (bytes_drop pattern_at l h) (rw length-drop (omega arith)),
      bytes_le 8 (drop own_id_at l) (bytes_drop own_id_at l h) (rw length-drop (omega arith)),
      bytes_le 8 (drop own_sequence_at l) (bytes_drop own_sequence_at l h) (rw length-drop (omega arith)),
      bytes_le 4 (drop stripe_size_at l) (bytes_drop stripe_size_at l h) (rw length-drop (omega arith)),
      bytes_le 2 (drop stripe_count_at l) (bytes_drop stripe_count_at l h) (rw length-drop (omega arith)),
      bytes_le 2 (drop generation_at l) (bytes_drop generation_at l h) (rw length-drop (omega arith)),
      ← take-add pattern_at 4 l,
      ← take-add own_id_at 8 l,
      ← take-add own_sequence_at 8 l,
      ← take-add stripe_size_at 4 l,
      ← take-add stripe_count_at 2 l,
      ← take-add generation_at 2 l,
    )
