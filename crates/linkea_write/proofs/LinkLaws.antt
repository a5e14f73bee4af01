-- Laws of a record and of a header as their bytes and back. Assumes nothing.
use mathlib.Core.Path.{◌≡◌, refl, ◌∙◌}
use mathlib.Core.List.{List, [], ◌∷◌, ◌++◌, append_assoc}
use mathlib.Core.Bool.{false}
use Prim.Native.Nat.{ℕ, ◌+◌, ◌-◌, ◌≤◌, ◌<◌, ◌^◌}
use native.Mathlib.Omega.{arith}
use native.Mathlib.Nat.{mod-eq_of_lt}
use lib.ListN.{length, take, drop, length-append, length-drop}
use lib.Seq.{sets, take-add, take_at, drop_at, length-take-le}
use Rattle.wire.specs.Numbers.{le, bytes, big, number, number_bytes}
use Rattle.wire.proofs.Splice.{sets_at}
use Rattle.wire.proofs.NumberLaws.{Bytes, field, bytes_drop, bytes_le, length_bytes, le_bytes}
use Rattle.wire.proofs.OrderLaws.{length_number, number_back, number_again, number_small}
use Rattle.fid.specs.Fid.{fid_size, decode_fid_in, encode_fid_in}
use Rattle.fid.proofs.FidLaws.{Fits, length_fid, fid_back, fid_again, fid_fits_in}
use Rattle.linkea.specs.Link.{Link, link_magic, count_at, total_at, time_at, padding_at, link_header, parent_at, name_at, link_length, decode_link, encode_link, encode_links, decode_link_header, encode_link_header}
use Rattle.linkea.specs.Conditions.{some, bad_byte}
use Rattle.linkea.specs.declared.LinkHeader.{LinkHeader}
use Rattle.linkea_write.specs.Writer.{longest_record}

-- ## A record

pub length_link : (x : Link) → length (encode_link x) ≡ name_at + length x.name
unfolding encode_link
length_link x = simp (length-append, length_number, length_fid)

pub links_append : (xs ys : List Link) → encode_links (xs ++ ys) ≡ encode_links xs ++ encode_links ys
unfolding encode_links
links_append [] ys = refl
links_append (x ∷ xs) ys = rw (links_append xs ys, append_assoc)

-- a record that can be written and read
pub record FitLink (x : Link) : Type 0 where
  pub fits : Fits x.parent.0
  pub named : 1 ≤ length x.name
  pub short : name_at + length x.name ≤ longest_record
  pub clean : some bad_byte x.name ≡ false

module _ (x : Link) (r : List ℕ) (g : FitLink x) where
  pub link_length_lem : link_length (encode_link x ++ r) ≡ name_at + length x.name
  unfolding link_length encode_link
  link_length_lem =
      let n : ℕ = name_at + length x.name in
      let f : List ℕ = encode_fid_in big x.parent.0 in
      let s = g.short in
      simp append_assoc (number_back big 2 n (f ++ (x.name ++ r)) ∙ mod-eq_of_lt (omega arith))

  pub link_back : decode_link (encode_link x ++ r) ≡ x
  unfolding decode_link encode_link
  link_back =
      let n : List ℕ = number_bytes big 2 (name_at + length x.name) in
      let f : List ℕ = encode_fid_in big x.parent.0 in
      let e : link_length (((n ++ f) ++ x.name) ++ r) ≡ name_at + length x.name = link_length_lem in
      let z : name_at + length x.name - name_at ≡ length x.name = omega arith in
      let p : decode_fid_in big (drop parent_at (((n ++ f) ++ x.name) ++ r)) ≡ x.parent.0 =
      simp append_assoc (rw (drop_at n (f ++ (x.name ++ r)) parent_at (length_number big 2 (name_at + length x.name))) (fid_back big x.parent.0 (x.name ++ r) g.fits)) in
      let q : take (link_length (((n ++ f) ++ x.name) ++ r) - name_at) (drop name_at (((n ++ f) ++ x.name) ++ r)) ≡ x.name =
      rw (e, z, append_assoc (n ++ f) x.name r, drop_at (n ++ f) (x.name ++ r) name_at (simp (length-append, length_number, length_fid)))
      (take_at x.name r (length x.name) refl) in
      λ i. record { parent = record { 0 = p i }; name = q i }

-- a record that lies in the bytes, read and written again
pub link_again : (l : List ℕ) → Bytes l → name_at ≤ link_length l → link_length l ≤ length l → encode_link (decode_link l) ≡ take (link_length l) l
unfolding decode_link encode_link link_length
link_again l h a b =
    let n : ℕ = number big 2 l in
    let e : length (take (n - name_at) (drop name_at l)) ≡ n - name_at = length-take-le (n - name_at) (drop name_at l) (rw length-drop (omega arith)) in
    let z : name_at + (n - name_at) ≡ n = omega arith in
    rw (
      e,
      z,
      number_again big 2 l h (omega arith),
      fid_again big (drop parent_at l) (bytes_drop parent_at l h) (rw length-drop (omega arith)),
      ← take-add parent_at fid_size l,
      ← take-add name_at (n - name_at) l,
      z,
    )

-- what is read from bytes fits
pub link_fits : (l : List ℕ) → Bytes l → Fits (decode_link l).parent.0
unfolding decode_link
link_fits l h = fid_fits_in big (drop parent_at l) (bytes_drop parent_at l h)

pub link_small : (l : List ℕ) → Bytes l → link_length l ≤ longest_record
unfolding link_length
link_small l h = omega (arith, number_small big 2 l h)

-- ## The header

pub length_link_header : (h : LinkHeader) → length (encode_link_header h) ≡ link_header
unfolding encode_link_header
length_link_header h = simp (length-append, length_bytes)

-- the fields, stored one by one
pub header_stores : (l a b c d x : List ℕ) (h : LinkHeader) → a ≡ sets l 0 (bytes 4 link_magic) → b ≡ sets a count_at (bytes 4 h.count) →
    c ≡ sets b total_at (bytes 8 h.total) → d ≡ sets c time_at (bytes 4 h.time) → x ≡ sets d padding_at (bytes 4 h.padding) →
    x ≡ sets l 0 (encode_link_header h)
unfolding encode_link_header
header_stores l a b c d x h ea eb ec ed ex =
    let m : List ℕ = bytes 4 link_magic in
    let n : List ℕ = m ++ bytes 4 h.count in
    let t : List ℕ = n ++ bytes 8 h.total in
    let u : List ℕ = t ++ bytes 4 h.time in
    rw (
      ex,
      ed,
      ec,
      eb,
      ea,
      sets_at m (bytes 4 h.count) l 0 count_at (length_bytes 4 link_magic),
      sets_at n (bytes 8 h.total) l 0 total_at (simp (length-append, length_bytes)),
      sets_at t (bytes 4 h.time) l 0 time_at (simp (length-append, length_bytes)),
      sets_at u (bytes 4 h.padding) l 0 padding_at (simp (length-append, length_bytes)),
    )

-- the fields fit their widths
pub record FitHeader (h : LinkHeader) : Type 0 where
  pub count : h.count < 2 ^ 32
  pub total : h.total < 2 ^ 64
  pub time : h.time < 2 ^ 32
  pub padding : h.padding < 2 ^ 32

module _ (h : LinkHeader) (r : List ℕ) where
  pub magic_back : le 4 (encode_link_header h ++ r) ≡ link_magic
  unfolding encode_link_header
  magic_back =
      let c : List ℕ = bytes 4 h.count in
      let t : List ℕ = bytes 8 h.total in
      let u : List ℕ = bytes 4 h.time in
      let p : List ℕ = bytes 4 h.padding in
      simp append_assoc (le_bytes 4 link_magic (c ++ (t ++ (u ++ (p ++ r)))))

  pub header_back : FitHeader h → decode_link_header (encode_link_header h ++ r) ≡ h
  unfolding decode_link_header encode_link_header
  header_back f =
      let m : List ℕ = bytes 4 link_magic in
      let c : List ℕ = bytes 4 h.count in
      let t : List ℕ = bytes 8 h.total in
      let u : List ℕ = bytes 4 h.time in
      let p : List ℕ = bytes 4 h.padding in
      let l : List ℕ = ((((m ++ c) ++ t) ++ u) ++ p) ++ r in
      let e1 = field 4 h.count count_at m (t ++ (u ++ (p ++ r))) l (simp append_assoc) (length_bytes 4 link_magic) f.count in
      let e2 = field 8 h.total total_at (m ++ c) (u ++ (p ++ r)) l (simp append_assoc) (simp (length-append, length_bytes)) f.total in
      let e3 = field 4 h.time time_at ((m ++ c) ++ t) (p ++ r) l (simp append_assoc) (simp (length-append, length_bytes)) f.time in
      let e4 = field 4 h.padding padding_at (((m ++ c) ++ t) ++ u) r l (simp append_assoc) (simp (length-append, length_bytes)) f.padding in
      λ i. record { count = e1 i; total = e2 i; time = e3 i; padding = e4 i }

-- a header with the magic number, read and written again
pub header_again : (l : List ℕ) → Bytes l → link_header ≤ length l → le 4 l ≡ link_magic → encode_link_header (decode_link_header l) ≡ take link_header l
unfolding decode_link_header encode_link_header
header_again l h k e =
    rw (
      ← e,
      bytes_le 4 l h (omega arith),
      bytes_le 4 (drop count_at l) (bytes_drop count_at l h) (simp length-drop (omega arith)),
      bytes_le 8 (drop total_at l) (bytes_drop total_at l h) (simp length-drop (omega arith)),
      bytes_le 4 (drop time_at l) (bytes_drop time_at l h) (simp length-drop (omega arith)),
      bytes_le 4 (drop padding_at l) (bytes_drop padding_at l h) (simp length-drop (omega arith)),
      ← take-add 4 4 l,
      ← take-add total_at 8 l,
      ← take-add time_at 4 l,
      ← take-add padding_at 4 l,
    )
