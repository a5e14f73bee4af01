-- Records that stand in bytes one after the other, to the end: what is read of them, and that encoded records do. Assumes nothing.
use mathlib.Core.Path.{◌≡◌, refl, sym, ap, ◌∙◌}
use mathlib.Core.List.{List, [], ◌∷◌, ◌++◌, append_assoc, append-nil, map}
use mathlib.Core.Bool.{Bool, true, false}
use Prim.Native.Nat.{ℕ, zero, suc, ◌+◌, ◌≤◌, ◌<◌}
use borrow.Author.Tests.{ltb-true, ltb-false, le-ltb}
use native.Mathlib.Omega.{arith}
use lib.Dec.{ltb}
use lib.ListN.{length, take, drop, length-append, length-drop, take-append-drop, length-map}
use lib.Seq.{drop-append_seam, drop-length, drop-drop}
use Rattle.wire.specs.Numbers.{le}
use Rattle.wire.proofs.NumberLaws.{Bytes, bytes_drop}
use Rattle.linkea.specs.Link.{Link, LinkEA, link_magic, link_header, name_at, shortest_record, link_length, encode_link, encode_links, length_at, short_record, link_at, places, decode_link_header, decode_link_ea, header_of, encode_link_header, encode_link_ea}
use Rattle.linkea.specs.Conditions.{some, past_end, bad_name, bad_record, refused_link}
use Rattle.linkea.specs.declared.LinkHeader.{LinkHeader}
use Rattle.linkea.proofs.PlaceLaws.{from, places_from_lem, from_end, from_step, AllGood, good_record, good_here, good_on}
use Rattle.linkea.proofs.RecordLaws.{good_link, link_good}
use Rattle.linkea_write.proofs.LinkLaws.{FitLink, FitHeader, length_link, link_length_lem, link_back, link_again, length_link_header, magic_back, header_back, header_again}

-- the records xs stand in l from p on
unfoldable Stand : List ℕ → ℕ → List Link → Type 0
Stand l p [] = p ≡ length l
Stand l p (x ∷ xs) = (p < length l) × (bad_record l p ≡ false) × (link_at l p ≡ x) × Stand l (p + length_at l p) xs

unfoldable pub FitLinks : List Link → Type 0
FitLinks [] = Unit {0}
FitLinks (x ∷ xs) = FitLink x × FitLinks xs

-- ## Read

stand_good : (xs : List Link) (l : List ℕ) (p : ℕ) → Stand l p xs → AllGood l p
unfolding Stand AllGood some
stand_good [] l p s = rw (from_end l p (omega arith))
stand_good (x ∷ xs) l p s = rw (from_step l p s.0 (good_record l p s.1).short, s.1) (stand_good xs l (p + length_at l p) s.3)

stand_links : (xs : List Link) (l : List ℕ) (p : ℕ) → Stand l p xs → map (link_at l) (from l p) ≡ xs
unfolding Stand
stand_links [] l p s = rw (from_end l p (omega arith))
stand_links (x ∷ xs) l p s = rw (from_step l p s.0 (good_record l p s.1).short, s.2, stand_links xs l (p + length_at l p) s.3)

-- good records stand where they begin
good_stand : (n : ℕ) (b : Bool) (l : List ℕ) (p : ℕ) → ltb p (length l) ≡ b → AllGood l p → p ≤ length l → length l ≤ p + n →
    Stand l p (map (link_at l) (from l p))
unfolding Stand
good_stand zero false l p t g h k = let e : length l ≤ p = ltb-false p (length l) t in rw (from_end l p e) (omega arith)
good_stand zero true l p t g h k = let e : p < length l = ltb-true p (length l) t in absurd (omega arith)
good_stand (suc n) false l p t g h k = let e : length l ≤ p = ltb-false p (length l) t in rw (from_end l p e) (omega arith)
good_stand (suc n) true l p t g h k =
    let e : p < length l = ltb-true p (length l) t in
    let b = good_here l p e g in
    let r = good_record l p b in
    let q : ℕ = p + length_at l p in
    rw (from_step l p e r.short) (e, b, refl, good_stand n (ltb q (length l)) l q refl (good_on l p e g) r.inside (omega (arith, r.long)))

-- ## Written

-- the records of bytes, written, are these bytes
stand_bytes : (xs : List Link) (l : List ℕ) (p : ℕ) → Bytes l → Stand l p xs → encode_links xs ≡ drop p l
unfolding Stand encode_links link_at length_at
stand_bytes [] l p b s = rw (s, drop-length l)
stand_bytes (x ∷ xs) l p b s =
    let r = good_record l p s.1 in
    let n : ℕ = link_length (drop p l) in
    let e : encode_link x ≡ take n (drop p l) =
    ap encode_link (sym s.2) ∙ link_again (drop p l) (bytes_drop p l b) (omega (arith, r.long)) (rw length-drop (omega (arith, r.inside))) in
    rw (e, stand_bytes xs l (p + n) b s.3, ← drop-drop n p l) (take-append-drop n (drop p l))

-- ## Encoded

module _ (x : Link) (before after : List ℕ) (f : FitLink x) where
  here : drop (length before) (before ++ (encode_link x ++ after)) ≡ encode_link x ++ after
  here = drop-append_seam before (encode_link x ++ after)

  link_here : link_at (before ++ (encode_link x ++ after)) (length before) ≡ x
  unfolding link_at
  link_here = rw here (link_back x after f)

  length_here : length_at (before ++ (encode_link x ++ after)) (length before) ≡ name_at + length x.name
  unfolding length_at
  length_here = rw here (link_length_lem x after f)

  long_here : length (before ++ (encode_link x ++ after)) ≡ length before + (name_at + length x.name) + length after
  long_here = rw (length-append, length-append, length_link x) (omega arith)

  good_encoded : bad_record (before ++ (encode_link x ++ after)) (length before) ≡ false
  unfolding bad_record short_record past_end bad_name
  good_encoded =
      let n : ℕ = name_at + length x.name in
      let l : List ℕ = before ++ (encode_link x ++ after) in
      rw (
        length_here,
        link_here,
        le-ltb n shortest_record (omega (arith, f.named)),
        le-ltb (length l) (length before + n) (omega (arith, long_here)),
      )
      f.clean

stand_encoded : (xs : List Link) (before : List ℕ) → FitLinks xs → Stand (before ++ encode_links xs) (length before) xs
unfolding Stand FitLinks encode_links
stand_encoded [] before f = rw append-nil
stand_encoded (x ∷ xs) before f =
    let after : List ℕ = encode_links xs in
    let l : List ℕ = before ++ (encode_link x ++ after) in
    let n : length (before ++ encode_link x) ≡ length before + length_at l (length before) =
    rw (length-append, length_link x, length_here x before after f.0) in
    let z : (before ++ encode_link x) ++ after ≡ l = append_assoc before (encode_link x) after in
    let s : Stand l (length before + length_at l (length before)) xs = rw (← n, ← z) (stand_encoded xs (before ++ encode_link x) f.1) in
    (omega (arith, long_here x before after f.0), good_encoded x before after f.0, link_here x before after f.0, s)

-- ## The whole

-- a link_ea that is not refused, written from what was read
module _ (l : List ℕ) (b : Bytes l) (a : refused_link l ≡ false) where
  links_stand : Stand l link_header (decode_link_ea l).links
  unfolding decode_link_ea
  links_stand = let g = good_link l a in rw (places_from_lem l) (good_stand (length l) (ltb link_header (length l)) l link_header refl g.records g.header (omega arith))

  links_again : encode_links (decode_link_ea l).links ≡ drop link_header l
  links_again = stand_bytes (decode_link_ea l).links l link_header b links_stand

  pub header_read : header_of (decode_link_ea l) ≡ decode_link_header l
  unfolding header_of decode_link_ea
  header_read =
      let g = good_link l a in
      let n : length (map (link_at l) (places l)) ≡ (decode_link_header l).count = length-map (places l) (link_at l) ∙ sym g.counted in
      let t : link_header + length (encode_links (map (link_at l) (places l))) ≡ (decode_link_header l).total =
      rw (links_again, length-drop, g.total) (omega (arith, g.header)) in
      λ i. record { count = n i; total = t i; time = (decode_link_header l).time; padding = (decode_link_header l).padding }

  pub written_again : encode_link_ea (decode_link_ea l) ≡ l
  unfolding encode_link_ea
  written_again =
      let g = good_link l a in
      rw (header_read, links_again, header_again l b g.header g.magic) (take-append-drop link_header l)

-- a link_ea whose records can be written, read from what was written
module _ (e : LinkEA) (f : FitLinks e.links) (w : FitHeader (header_of e)) where
  encoded_stand : Stand (encode_link_ea e) link_header e.links
  unfolding encode_link_ea
  encoded_stand = rw (length_link_header (header_of e)) at (stand_encoded e.links (encode_link_header (header_of e)) f)

  pub links_back : (decode_link_ea (encode_link_ea e)).links ≡ e.links
  unfolding decode_link_ea
  links_back = rw (places_from_lem (encode_link_ea e)) (stand_links e.links (encode_link_ea e) link_header encoded_stand)

  pub header_of_back : decode_link_header (encode_link_ea e) ≡ header_of e
  unfolding encode_link_ea
  header_of_back = header_back (header_of e) (encode_links e.links) w

  pub length_encoded : length (encode_link_ea e) ≡ (header_of e).total
  unfolding encode_link_ea header_of
  length_encoded = rw (length-append, length_link_header (header_of e))

  magic_of_back : le 4 (encode_link_ea e) ≡ link_magic
  unfolding encode_link_ea
  magic_of_back = magic_back (header_of e) (encode_links e.links)

  counted_back : (header_of e).count ≡ length (places (encode_link_ea e))
  unfolding header_of decode_link_ea
  counted_back =
      let l : List ℕ = encode_link_ea e in
      ap (λ (xs : List Link). length xs) (sym links_back) ∙ length-map (places l) (link_at l)

  pub encoded_accepted : refused_link (encode_link_ea e) ≡ false
  unfolding header_of
  encoded_accepted =
      let l : List ℕ = encode_link_ea e in
      link_good l (record {
        header = omega (arith, length_encoded);
        magic = magic_of_back;
        records = stand_good e.links l link_header encoded_stand;
        counted = ap (λ (h : LinkHeader). h.count) header_of_back ∙ counted_back;
        total = ap (λ (h : LinkHeader). h.total) header_of_back ∙ sym length_encoded;
      })
