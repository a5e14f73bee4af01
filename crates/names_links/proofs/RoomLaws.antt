-- The link_ea of a child in its row: what stands there, and what the row says after its header is written anew. Assumes nothing.
use mathlib.Core.Path.{◌≡◌, refl, sym, ap, ◌∙◌}
use mathlib.Core.Bool.{Bool, true, false, ◌||◌}
use mathlib.Core.List.{List, [], ◌∷◌, ◌++◌, append_assoc, append-nil, map}
use Prim.Native.Nat.{ℕ, ◌+◌, ◌-◌, ◌≤◌, ◌<◌, ◌^◌}
use native.Mathlib.Omega.{arith}
use borrow.Author.Tests.{eq-eqb, ne_eqb, eqb-true, eqb-false, le-leb}
use lib.Dec.{eqb}
use lib.ListN.{length, take, drop, replicate, length-append, length-drop, length-replicate, take-append-drop, drop_of_length-le}
use lib.Seq.{sets, sets-eq, length-sets, length-take-le, take-add, take_at, drop_at, drop-drop, drop-append-le, take-append-add}
use borrow.Rule.Slice.PartMut.{put_mid}
use Rattle.wire.specs.Numbers.{le, bytes}
use Rattle.wire.proofs.Splice.{sets_at, sets_whole, put_sets, drop_take_all}
use Rattle.wire.proofs.NumberLaws.{Bytes, field, bytes_drop, length_bytes, le_small_at}
use Rattle.wire.proofs.OrderLaws.{le_front}
use Rattle.fid.specs.Fid.{fid_size, id_at, version_at, decode_fid}
use Rattle.linkea.specs.Link.{Link, LinkEA, link_header, name_at, link_length as record_length, time_at, padding_at, encode_links, length_at, short_record, decode_link, link_at, places, decode_link_header, encode_link_header, header_of, decode_link_ea, encode_link_ea}
use Rattle.linkea.specs.Conditions.{some, past_end, bad_name, bad_record, refused_link}
use Rattle.linkea.specs.declared.LinkHeader.{LinkHeader}
use Rattle.linkea.proofs.PlaceLaws.{or_first, or_second, places_from_lem, AllGood, good_record}
use Rattle.linkea.proofs.RecordLaws.{good_link}
use Rattle.linkea_write.proofs.LinkLaws.{FitLink, FitHeader, length_link, link_fits, link_small, length_link_header}
use Rattle.linkea_write.proofs.StandLaws.{FitLinks, header_read, written_again, links_back, header_of_back, encoded_accepted}
use Rattle.names.specs.Rows.{linked, child_size, up_at, link_length_at, link_room_at, link_room, mdt_fid, link_length, link_bytes, decode_linked, decode_child, with_link_ea}
use Rattle.names.specs.Check.{good_link_ea}
use Rattle.names.specs.Sweeps.{start_of}
use Rattle.names.proofs.BackLaws.{link_room_lem, link_accepted, link_length_lem, link_bytes_lem}
use Rattle.names_links.specs.Room.{closed}

-- ## Zeros from a place on

-- ## The stores around the records

pub closed_by : (row a p b x : List ℕ) (h : LinkHeader) → length row ≡ child_size → h.total ≤ link_room → a ≡ sets row link_length_at (bytes 2 h.total) →
    p ≡ sets (take (link_room_at + link_header - link_room_at) (drop link_room_at a)) 0 (encode_link_header h) →
    b ≡ put_mid link_room_at (link_room_at + link_header - link_room_at) a p →
    x ≡ sets b (link_room_at + h.total) (replicate (length b - (link_room_at + h.total)) 0) → x ≡ closed row h
unfolding closed
closed_by row a p b x h n k ea ep eb ex =
    let la : length a ≡ child_size = ap length ea ∙ length-sets row link_length_at (bytes 2 h.total) ∙ n in
    let hh : length (encode_link_header h) ≡ link_header = length_link_header h in
    let lp : length (take (link_room_at + link_header - link_room_at) (drop link_room_at a)) ≡ length (encode_link_header h) =
    length-take-le link_header (drop link_room_at a) (rw length-drop (omega arith)) ∙ sym hh in
    let pe : p ≡ encode_link_header h = ep ∙ sets_whole (encode_link_header h) _ lp in
    let be : b ≡ sets a link_room_at (encode_link_header h) =
    eb ∙ ap (λ (m : List ℕ). put_mid link_room_at (link_room_at + link_header - link_room_at) a m) pe
    ∙ put_sets link_room_at (link_room_at + link_header) a (encode_link_header h) (omega arith) (omega arith) in
    let bf : b ≡ sets row link_length_at (bytes 2 h.total ++ encode_link_header h) =
    be ∙ ap (λ (m : List ℕ). sets m link_room_at (encode_link_header h)) ea
    ∙ sets_at (bytes 2 h.total) (encode_link_header h) row link_length_at 2 (length_bytes 2 h.total) in
    let lb : length b - (link_room_at + h.total) ≡ link_room - h.total =
    omega (arith, ap length bf ∙ length-sets row link_length_at (bytes 2 h.total ++ encode_link_header h)) in
    rw (ex, lb, bf)

-- ## What stands in a row

-- a good record, read
module _ (l : List ℕ) (b : Bytes l) where
  fit_at : (p : ℕ) → bad_record l p ≡ false → FitLink (link_at l p)
  unfolding link_at decode_link length_at bad_record bad_name
  fit_at p h =
      let g = good_record l p h in
      let d : List ℕ = drop p l in
      let n : ℕ = record_length d in
      let e : length (take (n - name_at) (drop name_at d)) ≡ n - name_at =
      length-take-le (n - name_at) (drop name_at d) (rw (length-drop, length-drop) (omega (arith, g.inside, g.long))) in
      record {
        fits = link_fits d (bytes_drop p l b);
        named = omega (arith, e, g.long);
        short = omega (arith, e, g.long, link_small d (bytes_drop p l b));
        clean = or_second (short_record l p || past_end l p) (bad_name l p) h;
      }

  fit_all : (ps : List ℕ) → some (bad_record l) ps ≡ false → FitLinks (map (link_at l) ps)
  unfolding FitLinks some
  fit_all [] h = tt
  fit_all (p ∷ ps) h = (fit_at p (or_first (bad_record l p) (some (bad_record l) ps) h), fit_all ps (or_second (bad_record l p) (some (bad_record l) ps) h))

  read_fit : refused_link l ≡ false → FitLinks (decode_link_ea l).links
  unfolding decode_link_ea AllGood
  read_fit a = fit_all (places l) (rw (places_from_lem l) (good_link l a).records)

  read_bytes : refused_link l ≡ false → encode_links (decode_link_ea l).links ≡ drop link_header l
  unfolding encode_link_ea
  read_bytes a =
      let e : LinkEA = decode_link_ea l in
      sym (drop_at (encode_link_header (header_of e)) (encode_links e.links) link_header (length_link_header (header_of e)))
      ∙ ap (λ (m : List ℕ). drop link_header m) (written_again l b a)

-- the link_ea of a child, or a new one: its records can be written and read, and stand in the row
pub record Standing (row : List ℕ) (e : LinkEA) : Type 0 where
  pub fit : FitLinks e.links
  pub time : e.time < 2 ^ 32
  pub padding : e.padding < 2 ^ 32
  pub room : (header_of e).total ≤ link_room
  pub stand : take (length (encode_links e.links)) (drop (link_room_at + link_header) row) ≡ encode_links e.links

new_is : (row : List ℕ) → link_length row ≡ 0 → start_of (decode_child row).link ≡ record { time = 0; padding = 0; links = [] }
unfolding start_of decode_child decode_linked
new_is row n = rw (eq-eqb (link_length row) 0 n)

pub new_header : (row : List ℕ) → link_length row ≡ 0 →
    ◌≡◌ {A = LinkHeader} (record { count = 0; total = link_header; time = 0; padding = 0 }) (header_of (start_of (decode_child row).link))
unfolding header_of encode_links
new_header row n = rw (new_is row n)

new_stands : (row : List ℕ) → Standing row (record { time = 0; padding = 0; links = [] })
unfolding FitLinks header_of encode_links
new_stands row = record { fit = tt; time = omega arith; padding = omega arith; room = omega arith; stand = refl }

module _ (row : List ℕ) (b : Bytes row) (h : length row ≡ child_size) (g : good_link_ea row ≡ true) where
  module _ (n : link_length row ≡ 0 → ⊥) where
    accepted : refused_link (link_bytes row) ≡ false
    accepted = link_accepted row g n

    long : length (link_bytes row) ≡ link_length row
    long = link_length_lem row h (link_room_lem row g)

    old_is : start_of (decode_child row).link ≡ decode_link_ea (link_bytes row)
    unfolding start_of decode_child decode_linked
    old_is = rw (ne_eqb (link_length row) 0 n)

    pub old_long : link_header ≤ length (link_bytes row)
    old_long = (good_link (link_bytes row) accepted).header

    pub old_header : decode_link_header (link_bytes row) ≡ header_of (start_of (decode_child row).link)
    old_header = rw old_is (sym (header_read (link_bytes row) (link_bytes_lem row b) accepted))

    pub old_room : (decode_link_header (link_bytes row)).total ≤ link_room
    old_room = omega (arith, (good_link (link_bytes row) accepted).total, long, link_room_lem row g)

    old_stand : drop link_header (link_bytes row) ≡ take (link_length row - link_header) (drop (link_room_at + link_header) row)
    unfolding link_bytes
    old_stand =
        let r : List ℕ = drop link_room_at row in
        let z : link_header + (link_length row - link_header) ≡ link_length row = omega (arith, old_long, long) in
        let t : take (link_length row) r ≡ take link_header r ++ take (link_length row - link_header) (drop link_header r) =
        rw z at (take-add link_header (link_length row - link_header) r) in
        rw t (drop_at (take link_header r) (take (link_length row - link_header) (drop link_header r)) link_header (length-take-le link_header r (rw length-drop (omega arith)))
        ∙ ap (λ (m : List ℕ). take (link_length row - link_header) m) (drop-drop link_header link_room_at row))

    old_stands : Standing row (decode_link_ea (link_bytes row))
    unfolding decode_link_ea decode_link_header
    old_stands =
        let l : List ℕ = link_bytes row in
        let e : encode_links (decode_link_ea l).links ≡ drop link_header l = read_bytes l (link_bytes_lem row b) accepted in
        let k : length (encode_links (decode_link_ea l).links) ≡ link_length row - link_header = rw (e, length-drop, long) in
        record {
          fit = read_fit l (link_bytes_lem row b) accepted;
          time = le_small_at 4 time_at l (link_bytes_lem row b);
          padding = le_small_at 4 padding_at l (link_bytes_lem row b);
          room = rw (header_read l (link_bytes_lem row b) accepted) old_room;
          stand = rw k (sym (e ∙ old_stand));
        }

  pub stands : Standing row (start_of (decode_child row).link)
  stands = go (eqb (link_length row) 0) refl
    where
      go : (t : Bool) → eqb (link_length row) 0 ≡ t → Standing row (start_of (decode_child row).link)
      go true e = rw (new_is row (eqb-true (link_length row) 0 e)) (new_stands row)
      go false e = rw (old_is (eqb-false (link_length row) 0 e)) (old_stands (eqb-false (link_length row) 0 e))

-- ## A link_ea that fits the room

links_few : (xs : List Link) → length xs ≤ length (encode_links xs)
unfolding encode_links
links_few [] = omega arith
links_few (x ∷ xs) = rw (length-append, length_link x) (omega (arith, links_few xs))

pub few : (e : LinkEA) (h : LinkHeader) → h ≡ header_of e → h.count ≤ h.total
unfolding header_of
few e h q = rw q (omega (arith, links_few e.links))

fit_header : (e : LinkEA) → e.time < 2 ^ 32 → e.padding < 2 ^ 32 → (header_of e).total ≤ link_room → FitHeader (header_of e)
unfolding header_of
fit_header e t p r = record { count = omega (arith, links_few e.links, r); total = omega (arith, r); time = t; padding = p }

-- ## The row with a link_ea

number_front : (n k : ℕ) (p q : List ℕ) → k + n ≤ length p → le n (drop k (p ++ q)) ≡ le n (drop k p)
number_front n k p q h = rw (drop-append-le k p q (omega arith)) (le_front n (drop k p) q (rw length-drop (omega arith)))

fid_front : (k : ℕ) (p q : List ℕ) → k + fid_size ≤ length p → decode_fid (drop k (p ++ q)) ≡ decode_fid (drop k p)
unfolding decode_fid
fid_front k p q h =
    let s : le 8 (drop k (p ++ q)) ≡ le 8 (drop k p) = number_front 8 k p q (omega arith) in
    let o : le 4 (drop id_at (drop k (p ++ q))) ≡ le 4 (drop id_at (drop k p)) =
    rw (drop-drop id_at k (p ++ q), drop-drop id_at k p) (number_front 4 (k + id_at) p q (omega arith)) in
    let v : le 4 (drop version_at (drop k (p ++ q))) ≡ le 4 (drop version_at (drop k p)) =
    rw (drop-drop version_at k (p ++ q), drop-drop version_at k p) (number_front 4 (k + version_at) p q (omega arith)) in
    λ i. record { seq = s i; oid = o i; ver = v i }

-- a FID before the length of the link_ea
fid_kept : (k : ℕ) (row q : List ℕ) → k + fid_size ≤ link_length_at → length row ≡ child_size → decode_fid (drop k (take link_length_at row ++ q)) ≡ decode_fid (drop k row)
fid_kept k row q h n =
    let p : List ℕ = take link_length_at row in
    let l : length p ≡ link_length_at = length-take-le link_length_at row (omega arith) in
    fid_front k p q (omega arith)
    ∙ sym (fid_front k p (drop link_length_at row) (omega arith))
    ∙ ap (λ (m : List ℕ). decode_fid (drop k m)) (take-append-drop link_length_at row)

-- the row of a child with another link_ea, and zeros past it
unfoldable row_with : List ℕ → LinkEA → List ℕ
row_with row e =
    take link_length_at row ++ (bytes 2 (header_of e).total ++ (encode_link_ea e ++ replicate (link_room - (header_of e).total) 0))

pub total_is : (e : LinkEA) → (header_of e).total ≡ link_header + length (encode_links e.links)
unfolding header_of
total_is e = refl

pub encoded_long : (e : LinkEA) → length (encode_link_ea e) ≡ (header_of e).total
unfolding encode_link_ea
encoded_long e = rw (length-append, length_link_header (header_of e)) (sym (total_is e))

module _ (row : List ℕ) (e : LinkEA) (n : length row ≡ child_size) (f : FitLinks e.links) (w : FitHeader (header_of e)) (r : (header_of e).total ≤ link_room) where
  front : length (take link_length_at row) ≡ link_length_at
  front = length-take-le link_length_at row (omega arith)

  length_with : link_length (row_with row e) ≡ (header_of e).total
  unfolding link_length row_with
  length_with =
      field 2 (header_of e).total link_length_at (take link_length_at row) (encode_link_ea e ++ replicate (link_room - (header_of e).total) 0) _ refl front (omega (arith, r))

  room_with : drop link_room_at (row_with row e) ≡ encode_link_ea e ++ replicate (link_room - (header_of e).total) 0
  unfolding row_with
  room_with =
      let p : List ℕ = take link_length_at row in
      let a : List ℕ = bytes 2 (header_of e).total in
      let q : List ℕ = encode_link_ea e ++ replicate (link_room - (header_of e).total) 0 in
      rw (← append_assoc p a q) (drop_at (p ++ a) q link_room_at (rw (length-append, front, length_bytes 2 (header_of e).total)))

  bytes_with : link_bytes (row_with row e) ≡ encode_link_ea e
  unfolding link_bytes
  bytes_with =
      rw (length_with, room_with)
      (take_at (encode_link_ea e) (replicate (link_room - (header_of e).total) 0) (header_of e).total (encoded_long e))

  rest_with : drop (link_room_at + (header_of e).total) (row_with row e) ≡ replicate (link_room - (header_of e).total) 0
  rest_with =
      rw (← drop-drop (header_of e).total link_room_at (row_with row e), room_with)
      (drop_at (encode_link_ea e) (replicate (link_room - (header_of e).total) 0) (header_of e).total (encoded_long e))

  back : decode_link_ea (encode_link_ea e) ≡ e
  unfolding decode_link_ea header_of
  back =
      let t : (decode_link_header (encode_link_ea e)).time ≡ e.time = ap (λ (h : LinkHeader). h.time) (header_of_back e f w) in
      let p : (decode_link_header (encode_link_ea e)).padding ≡ e.padding = ap (λ (h : LinkHeader). h.padding) (header_of_back e f w) in
      let l = links_back e f w in
      λ i. record { time = t i; padding = p i; links = l i }

  some_bytes : (header_of e).total ≡ 0 → ⊥
  some_bytes q = omega (arith, total_is e)

  link_with : decode_linked (row_with row e) ≡ linked e
  unfolding decode_linked
  link_with = rw (length_with, bytes_with, back, ne_eqb (header_of e).total 0 some_bytes)

  decode_with : decode_child (row_with row e) ≡ with_link_ea (decode_child row) e
  unfolding decode_child with_link_ea mdt_fid row_with
  decode_with =
      let x : List ℕ = row_with row e in
      let s : decode_fid x ≡ decode_fid row = self_kept in
      let u : decode_fid (drop up_at x) ≡ decode_fid (drop up_at row) = up_kept in
      let t : drop (link_room_at + link_length x) x ≡ replicate (link_room - length (encode_link_ea e)) 0 =
      rw (length_with, encoded_long e) rest_with in
      λ i. record { self = record { 0 = s i }; up = record { 0 = u i }; link = link_with i; rest = t i }
    where
      self_kept : decode_fid (row_with row e) ≡ decode_fid row
      self_kept = fid_kept 0 row (bytes 2 (header_of e).total ++ (encode_link_ea e ++ replicate (link_room - (header_of e).total) 0)) (omega arith) n

      up_kept : decode_fid (drop up_at (row_with row e)) ≡ decode_fid (drop up_at row)
      up_kept = fid_kept up_at row (bytes 2 (header_of e).total ++ (encode_link_ea e ++ replicate (link_room - (header_of e).total) 0)) (omega arith) n

  good_with : good_link_ea (row_with row e) ≡ true
  unfolding good_link_ea
  good_with =
      rw (length_with, bytes_with, encoded_accepted e f w, le-leb (header_of e).total link_room r, ne_eqb (header_of e).total 0 some_bytes)

shaped : (p a h ls zs : List ℕ) → (((p ++ (a ++ h)) ++ ls) ++ zs) ++ [] ≡ p ++ (a ++ ((h ++ ls) ++ zs))
shaped p a h ls zs = rw append-nil (simp append_assoc)

-- a run of n stores that ends before k
sets_to : (l vs : List ℕ) (i n k : ℕ) → length vs ≡ n → i + n ≡ k → k ≤ length l → sets l i vs ≡ (take i l ++ vs) ++ drop k l
sets_to l vs i n k e q h = let z : i + length vs ≡ k = omega (arith, e, q) in sets-eq vs l i (omega arith) ∙ rw z

-- a row whose header is written anew in front of the records
closed_is : (row x : List ℕ) (e : LinkEA) → length x ≡ child_size → (header_of e).total ≤ link_room → take link_length_at x ≡ take link_length_at row →
    take (length (encode_links e.links)) (drop (link_room_at + link_header) x) ≡ encode_links e.links → closed x (header_of e) ≡ row_with row e
unfolding closed row_with encode_link_ea
closed_is row x e n r f s =
    let t : ℕ = (header_of e).total in
    let ls : List ℕ = encode_links e.links in
    let te : t ≡ link_header + length ls = total_is e in
    let a : List ℕ = bytes 2 t in
    let h : List ℕ = encode_link_header (header_of e) in
    let zs : List ℕ = replicate (link_room - t) 0 in
    let p : List ℕ = take link_length_at x in
    let la : length (a ++ h) ≡ link_header + 2 = rw (length-append, length_bytes 2 t, length_link_header (header_of e)) in
    let lp : length p ≡ link_length_at = length-take-le link_length_at x (omega arith) in
    let lq : length (p ++ (a ++ h)) ≡ link_room_at + link_header = rw (length-append, la, lp) in
    let lz : length zs ≡ link_room - t = length-replicate (link_room - t) 0 in
    let m : sets x link_length_at (a ++ h) ≡ (p ++ (a ++ h)) ++ drop (link_room_at + link_header) x =
    sets_to x (a ++ h) link_length_at (link_header + 2) (link_room_at + link_header) la (omega arith) (omega arith) in
    let lm : length (sets x link_length_at (a ++ h)) ≡ child_size = length-sets x link_length_at (a ++ h) ∙ n in
    let k : link_room_at + t ≡ length (p ++ (a ++ h)) + length ls = omega (arith, lq) in
    let tk : take (link_room_at + t) (sets x link_length_at (a ++ h)) ≡ (p ++ (a ++ h)) ++ ls =
    rw (m, k) (take-append-add (p ++ (a ++ h)) (drop (link_room_at + link_header) x) (length ls) ∙ ap (λ (q : List ℕ). (p ++ (a ++ h)) ++ q) s) in
    let d : drop (link_room_at + t + length zs) (sets x link_length_at (a ++ h)) ≡ [] =
    drop_of_length-le (sets x link_length_at (a ++ h)) {i = link_room_at + t + length zs} (omega (arith, lm, lz)) in
    sets-eq zs (sets x link_length_at (a ++ h)) (link_room_at + t) (omega (arith, lm, lz)) ∙ rw (tk, d) (shaped p a h ls zs ∙ rw f)

-- what it says then
pub link_put : (row x y : List ℕ) (e : LinkEA) → length row ≡ child_size → length x ≡ child_size → take link_length_at x ≡ take link_length_at row →
    FitLinks e.links → e.time < 2 ^ 32 → e.padding < 2 ^ 32 → (header_of e).total ≤ link_room →
    take (length (encode_links e.links)) (drop (link_room_at + link_header) x) ≡ encode_links e.links → y ≡ closed x (header_of e) →
    (decode_child y ≡ with_link_ea (decode_child row) e) × (good_link_ea y ≡ true)
link_put row x y e n m f fl t p r s q =
    let z : y ≡ row_with row e = q ∙ closed_is row x e m r f s in
    let w : FitHeader (header_of e) = fit_header e t p r in
    (rw z (decode_with row e n fl w r), rw z (good_with row e n fl w r))

-- records stored where others end
pub stored_after : (d ls x : List ℕ) → take (length ls) d ≡ ls → length ls + length x ≤ length d →
    take (length (ls ++ x)) (sets d (length ls) x) ≡ ls ++ x
stored_after d ls x e h =
    rw (sets-eq x d (length ls) h, e) (take_at (ls ++ x) (drop (length ls + length x) d) (length (ls ++ x)) refl)

-- the bytes from a place on filled with zeros
pub zero_done : (l ys : List ℕ) (at : ℕ) → at ≤ length l → ys ≡ replicate (length (take (length l - at) (drop at l))) 0 →
    put_mid at (length l - at) l ys ≡ sets l at (replicate (length l - at) 0)
zero_done l ys at h e =
    let n : length (take (length l - at) (drop at l)) ≡ length l - at = ap length (drop_take_all at l) ∙ length-drop at l in
    let f : ys ≡ replicate (length l - at) 0 = rw n at e in
    rw f (put_sets at (length l) l (replicate (length l - at) 0) (omega (arith, length-replicate {A = ℕ} (length l - at) 0)) (omega arith))
