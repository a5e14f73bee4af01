-- Records of a link_ea kept by their flags, one after the other, and what the row says then. Assumes nothing.
use mathlib.Core.Path.{◌≡◌, refl, sym, ap, ◌∙◌}
use mathlib.Core.Bool.{Bool, true, false, cond}
use mathlib.Core.List.{List, [], ◌∷◌, ◌++◌, append_assoc, append-nil, map}
use Prim.Native.Nat.{ℕ, suc, ◌+◌, ◌-◌, ◌≤◌, ◌<◌}
use native.Mathlib.Numerals.{add-one}
use native.Mathlib.Omega.{arith}
use borrow.Author.Tests.{eq-eqb, ne_eqb}
use lib.Dec.{eqb}
use lib.ListN.{length, take, drop, get_or, length-append, length-drop, length-map}
use lib.Seq.{sets, length-sets, length-take-le, take_at, drop-cons}
use Rattle.wire.proofs.Splice.{sets_front, take_sets_le, drop_sets_add}
use Rattle.wire.proofs.NumberLaws.{Bytes, bytes_drop}
use Rattle.linkea.specs.Link.{Link, LinkEA, link_header, encode_link, encode_links, length_at, link_at, places, header_of, decode_link_ea}
use Rattle.linkea.specs.Conditions.{refused_link}
use Rattle.linkea.specs.declared.LinkHeader.{LinkHeader}
use Rattle.linkea.proofs.PlaceLaws.{from, places_from_lem, from_end, from_step, AllGood, GoodRecord, good_record, good_here, good_on}
use Rattle.linkea.proofs.RecordLaws.{good_link}
use Rattle.linkea_write.proofs.LinkLaws.{link_again}
use Rattle.linkea_write.proofs.StandLaws.{FitLinks}
use Rattle.names.specs.Rows.{Child, Linked, unlinked, linked, child_size, link_length_at, link_room_at, link_room, link_length, link_bytes, links_in, links_of, decode_linked, decode_child, with_link_ea}
use Rattle.names.specs.Check.{good_link_ea}
use Rattle.names.specs.Sweeps.{start_of}
use Rattle.names.proofs.BackLaws.{link_room_lem, link_accepted, link_length_lem}
use Rattle.names_links.specs.Kept.{stays, kept_by, linked_by}
use Rattle.names_links.specs.Room.{closed}
use Rattle.names_links.specs.Packing.{bytes_if, one_if, PackedIn}
use Rattle.names_links.specs.declared.keep.Packed.{Packed}
use Rattle.names_links.proofs.RoomLaws.{stands, total_is, stored_after, link_put}

-- ## One record

module _ (row l : List ℕ) (to count f : ℕ) where
  pub left_out : (f ≡ stays → ⊥) → (row ≡ sets row to (bytes_if f l)) × (to ≡ to + length (bytes_if f l)) × (count ≡ count + one_if f)
  unfolding bytes_if one_if
  left_out h = let e : eqb f stays ≡ false = ne_eqb f stays h in (rw e, rw e (omega arith), rw e (omega arith))

  pub taken_in : (x : List ℕ) → f ≡ stays → x ≡ sets row to l →
      (x ≡ sets row to (bytes_if f l)) × (to + length l ≡ to + length (bytes_if f l)) × (count + 1 ≡ count + one_if f)
  unfolding bytes_if one_if
  taken_in x h q = let e : eqb f stays ≡ true = eq-eqb f stays h in (rw e q, rw e, rw e)

-- the record itself, if it stays
unfoldable links_if : ℕ → Link → List Link
links_if f x = cond (eqb f stays) (x ∷ []) []

module _ (f : ℕ) (x : Link) (l : List ℕ) where
  if_bytes : (ys : List Link) → encode_link x ≡ l → encode_links (links_if f x ++ ys) ≡ bytes_if f l ++ encode_links ys
  unfolding links_if bytes_if encode_links
  if_bytes ys e = go (eqb f stays)
    where
      go : (b : Bool) → encode_links (cond b (x ∷ []) [] ++ ys) ≡ cond b l [] ++ encode_links ys
      go true = rw e
      go false = refl

  if_many : (ys : List Link) → length (links_if f x ++ ys) ≡ one_if f + length ys
  unfolding links_if one_if
  if_many ys = go (eqb f stays)
    where
      go : (b : Bool) → length (cond b (x ∷ []) [] ++ ys) ≡ cond b 1 0 + length ys
      go true = omega arith
      go false = omega arith

  if_short : (length (bytes_if f l) ≤ length l) × (1 ≤ length l → one_if f ≤ length (bytes_if f l))
  unfolding bytes_if one_if
  if_short = go (eqb f stays)
    where
      go : (b : Bool) → (length (cond b l []) ≤ length l) × (1 ≤ length l → cond b 1 0 ≤ length (cond b l []))
      go true = (omega arith, λ h. omega arith)
      go false = (omega arith, λ h. omega arith)

-- ## From the record at a place on

module _ (l fs : List ℕ) where
  unfoldable pub kept_from : ℕ → ℕ → List Link
  kept_from k p = kept_by (drop k fs) (map (link_at l) (from l p))

  all_kept : kept_by fs (decode_link_ea l).links ≡ kept_from 0 link_header
  unfolding kept_from decode_link_ea
  all_kept = rw (places_from_lem l)

  none_kept : (k p : ℕ) → length l ≤ p → kept_from k p ≡ []
  unfolding kept_from kept_by
  none_kept k p h = rw (from_end l p h)

  next_kept : (k p : ℕ) → p < length l → AllGood l p → k < length fs →
      kept_from k p ≡ links_if (get_or fs k 0) (link_at l p) ++ kept_from (k + 1) (p + length_at l p)
  unfolding kept_from kept_by links_if
  next_kept k p h g i = rw (from_step l p h (good_record l p (good_here l p h g)).short, drop-cons fs k 0 i, add-one k)

-- the bytes of a good record are its own
record_bytes : (l : List ℕ) (p : ℕ) → Bytes l → p < length l → AllGood l p → encode_link (link_at l p) ≡ take (length_at l p) (drop p l)
unfolding link_at length_at
record_bytes l p b h g =
    let r = good_record l p (good_here l p h g) in
    link_again (drop p l) (bytes_drop p l b) (omega (arith, r.long)) (rw length-drop (omega (arith, r.inside)))

-- ## The walk

-- the records put in the row so far
unfoldable pub done : List ℕ → ℕ → List ℕ
done row to = take (to - (link_room_at + link_header)) (drop (link_room_at + link_header) row)

done_more : (row x : List ℕ) (to : ℕ) → link_room_at + link_header ≤ to → to + length x ≤ length row → done (sets row to x) (to + length x) ≡ done row to ++ x
unfolding done
done_more row x to h k =
    let d : List ℕ = drop (link_room_at + link_header) row in
    let ls : List ℕ = take (to - (link_room_at + link_header)) d in
    let n : length ls ≡ to - (link_room_at + link_header) = length-take-le (to - (link_room_at + link_header)) d (rw length-drop (omega arith)) in
    let z : to ≡ link_room_at + link_header + length ls = omega (arith, n) in
    let y : to + length x - (link_room_at + link_header) ≡ length (ls ++ x) = rw length-append (omega (arith, n)) in
    let s : drop (link_room_at + link_header) (sets row to x) ≡ sets d (length ls) x =
    ap (λ (i : ℕ). drop (link_room_at + link_header) (sets row i x)) z ∙ drop_sets_add x row (link_room_at + link_header) (length ls) in
    let t : take (length ls) d ≡ ls = ap (λ (i : ℕ). take i d) n in
    rw (y, s) (stored_after d ls x t (rw length-drop (omega (arith, n))))

-- at place `at` of the link_ea l, in front of its k-th record
pub record Going (l fs before row : List ℕ) (p : Packed) (at k : ℕ) : Type 0 where
  pub good : AllGood l at
  pub inside : (link_header ≤ at) × (at ≤ length l)
  pub flags : k + length (from l at) ≤ length fs
  pub long : length row ≡ length before
  pub front : take link_length_at row ≡ take link_length_at before
  pub room : (link_room_at + link_header ≤ p.to) × (p.to ≤ link_room_at + at) × (link_room_at + link_header + p.count ≤ p.to)
  pub bytes : encode_links (kept_from l fs 0 link_header) ≡ done row p.to ++ encode_links (kept_from l fs k at)
  pub many : length (kept_from l fs 0 link_header) ≡ p.count + length (kept_from l fs k at)

module _ (l fs before : List ℕ) where
  pub going_start : refused_link l ≡ false → length (decode_link_ea l).links ≤ length fs →
      Going l fs before before (record { count = 0; to = link_room_at + link_header }) link_header 0
  unfolding decode_link_ea done
  going_start a n =
      let g = good_link l a in
      let e : length (from l link_header) ≡ length (map (link_at l) (places l)) =
      ap (λ (ps : List ℕ). length ps) (sym (places_from_lem l)) ∙ sym (length-map (places l) (link_at l)) in
      record {
        good = g.records;
        inside = (omega arith, g.header);
        flags = omega (arith, e, n);
        long = refl;
        front = refl;
        room = (omega arith, omega arith, omega arith);
        bytes = refl;
        many = omega arith;
      }

  module _ (row : List ℕ) (p : Packed) (at k : ℕ) (w : Going l fs before row p at k) (h : at < length l) where
    -- the record there
    pub here : GoodRecord l at
    here = good_record l at (good_here l at h w.good)

    more : length (from l at) ≡ suc (length (from l (at + length_at l at)))
    more = rw (from_step l at h here.short)

    pub flagged : k < length fs
    flagged = omega (arith, more, w.flags)

    pub going_next : (y : List ℕ) (q : Packed) (n f : ℕ) → Bytes l → length row ≡ child_size → length l ≤ link_room → n ≡ length_at l at → f ≡ get_or fs k 0 →
        y ≡ sets row p.to (bytes_if f (take (at + n - at) (drop at l))) → q.to ≡ p.to + length (bytes_if f (take (at + n - at) (drop at l))) →
        q.count ≡ p.count + one_if f → Going l fs before y q (at + n) (k + 1)
    going_next y q n f b lr ll en ef ey et ec =
        let t : List ℕ = take (at + n - at) (drop at l) in
        let z : at + n - at ≡ n = omega arith in
        let r = here in
        let lt : length t ≡ n = rw z (length-take-le n (drop at l) (rw length-drop (omega (arith, r.inside, en)))) in
        let x : Link = link_at l at in
        let rest : List Link = kept_from l fs (k + 1) (at + n) in
        let s = if_short f x t in
        let tb : encode_link x ≡ t = record_bytes l at b h w.good ∙ rw (z, en) in
        let nk : kept_from l fs k at ≡ links_if f x ++ rest = rw (ef, en) (next_kept l fs k at h w.good flagged) in
        let bt : List ℕ = bytes_if f t in
        let inn : p.to + length bt ≤ length row = omega (arith, w.room, s.0, lt, r.inside, en, lr, ll) in
        let dm : done y q.to ≡ done row p.to ++ bt = rw (ey, et) (done_more row bt p.to w.room.0 inn) in
        record {
          good = rw en (good_on l at h w.good);
          inside = (omega (arith, w.inside), omega (arith, r.inside, en));
          flags = rw en (omega (arith, more, w.flags));
          long = ap length ey ∙ length-sets row p.to bt ∙ w.long;
          front = ap (λ (m : List ℕ). take link_length_at m) ey ∙ take_sets_le bt row link_length_at p.to (omega (arith, w.room)) ∙ w.front;
          room = (omega (arith, w.room, et), omega (arith, w.room, et, s.0, lt), omega (arith, w.room, et, ec, s.1 (omega (arith, lt, en, r.long))));
          bytes =
              w.bytes ∙ ap (λ (xs : List Link). done row p.to ++ encode_links xs) nk ∙ ap (λ (m : List ℕ). done row p.to ++ m) (if_bytes f x t rest tb)
              ∙ sym (append_assoc (done row p.to) bt (encode_links rest)) ∙ ap (λ (m : List ℕ). m ++ encode_links rest) (sym dm);
          many = omega (arith, w.many, ap (λ (xs : List Link). length xs) nk, if_many f x t rest, ec);
        }

  pub going_end : (row : List ℕ) (p : Packed) (at k : ℕ) → Going l fs before row p at k → length l ≤ at → length before ≡ child_size → length l ≤ link_room →
      PackedIn before row p (kept_by fs (decode_link_ea l).links)
  unfolding encode_links done
  going_end row p at k w h n m =
      let xs : List Link = kept_by fs (decode_link_ea l).links in
      let a : xs ≡ kept_from l fs 0 link_header = all_kept l fs in
      let e : kept_from l fs k at ≡ [] = none_kept l fs k at h in
      let b : encode_links xs ≡ done row p.to = rw (a, w.bytes, e) (append-nil (done row p.to)) in
      let d : length (done row p.to) ≡ p.to - (link_room_at + link_header) =
      length-take-le (p.to - (link_room_at + link_header)) (drop (link_room_at + link_header) row) (rw length-drop (omega (arith, w.room, w.inside, w.long, n, m))) in
      let t : length (encode_links xs) ≡ p.to - (link_room_at + link_header) = ap (λ (q : List ℕ). length q) b ∙ d in
      record {
        long = w.long;
        front = w.front;
        bytes = rw t (sym b);
        to = omega (arith, t, w.room);
        count = omega (arith, w.many, ap (λ (ys : List Link). length ys) a, ap (λ (ys : List Link). length ys) e);
      }

-- ## The row

kept_fit : (fs : List ℕ) (xs : List Link) → FitLinks xs → FitLinks (kept_by fs xs)
unfolding kept_by FitLinks
kept_fit fs [] f = tt
kept_fit [] (x ∷ xs) f = tt
kept_fit (n ∷ fs) (x ∷ xs) f = go (eqb n stays) (kept_fit fs xs f.1)
  where
    go : (b : Bool) → FitLinks (kept_by fs xs) → FitLinks (cond b (x ∷ []) [] ++ kept_by fs xs)
    go true g = (f.0, g)
    go false g = g

kept_short : (fs : List ℕ) (xs : List Link) → length (encode_links (kept_by fs xs)) ≤ length (encode_links xs)
unfolding kept_by encode_links
kept_short fs [] = omega arith
kept_short [] (x ∷ xs) = omega arith
kept_short (n ∷ fs) (x ∷ xs) = go (eqb n stays) (kept_short fs xs)
  where
    go : (b : Bool) → length (encode_links (kept_by fs xs)) ≤ length (encode_links xs) →
        length (encode_links (cond b (x ∷ []) [] ++ kept_by fs xs)) ≤ length (encode_link x ++ encode_links xs)
    go true h = rw (length-append, length-append) (omega arith)
    go false h = rw length-append (omega arith)

-- the records of a child with a link_ea
pub links_are : (row : List ℕ) → 0 < link_length row → links_of (decode_child row) ≡ (decode_link_ea (link_bytes row)).links
unfolding links_of links_in decode_child decode_linked
links_are row h = rw (ne_eqb (link_length row) 0 (λ z. omega arith))

pub links_start : (c : Child) → links_of c ≡ (start_of c.link).links
unfolding links_of links_in start_of
links_start c = go c.link
  where
    go : (k : Linked) → links_in k ≡ (start_of k).links
    go unlinked = refl
    go (linked e) = refl

-- the link_ea of a child, copied
pub copied : (row base m o : List ℕ) (n : ℕ) → length row ≡ child_size → good_link_ea row ≡ true → n ≡ link_length row → length base ≡ link_room → m ≡ link_bytes row →
    o ≡ sets base 0 m → take (n - 0) o ≡ link_bytes row
copied row base m o n h g en lb em eo =
    let z : n - 0 ≡ n = omega arith in
    let l : length m ≡ n = ap (λ (q : List ℕ). length q) em ∙ link_length_lem row h (link_room_lem row g) ∙ sym en in
    rw (z, eo, sets_front m base (omega (arith, l, en, link_room_lem row g)), take_at m (drop (length m) base) n l) em

-- what the walk over the copy asks
pub walkable : (row t fs : List ℕ) → length row ≡ child_size → good_link_ea row ≡ true → 0 < link_length row → length (links_of (decode_child row)) ≤ length fs →
    t ≡ link_bytes row → (refused_link t ≡ false) × (length t ≤ link_room) × (length (decode_link_ea t).links ≤ length fs)
walkable row t fs h g n k e = (
  rw e (link_accepted row g (λ z. omega arith)),
  rw e (omega (arith, link_length_lem row h (link_room_lem row g), link_room_lem row g)),
  rw (e, ← links_are row n) k,
)

-- and what it gives
pub packed_as : (row x t fs : List ℕ) (p : Packed) → 0 < link_length row → t ≡ link_bytes row → PackedIn row x p (kept_by fs (decode_link_ea t).links) →
    PackedIn row x p (kept_by fs (links_of (decode_child row)))
packed_as row x t fs p n e w = rw (links_are row n, ← e) w

module _ (row x fs : List ℕ) (p : Packed) (b : Bytes row) (n : length row ≡ child_size) (g : good_link_ea row ≡ true) (w : PackedIn row x p (kept_by fs (links_of (decode_child row)))) where
  pub packed_room : p.to - link_room_at ≤ link_room
  packed_room =
      let e : LinkEA = start_of (decode_child row).link in
      let s : length (encode_links (kept_by fs (links_of (decode_child row)))) ≤ length (encode_links e.links) =
      rw (links_start (decode_child row)) (kept_short fs e.links) in
      omega (arith, w.to, s, total_is e, (stands row b n g).room)

  pub keep_done : (y : List ℕ) (h : LinkHeader) → h ≡ header_of (start_of (decode_child row).link) →
      y ≡ closed x (record { count = p.count; total = p.to - link_room_at; time = h.time; padding = h.padding }) →
      (decode_child y ≡ with_link_ea (decode_child row) (linked_by (decode_child row) (kept_by fs (links_of (decode_child row))))) × (good_link_ea y ≡ true)
  unfolding linked_by header_of
  keep_done y h eh ey =
      let c : Child = decode_child row in
      let xs : List Link = kept_by fs (links_of c) in
      let s = stands row b n g in
      let f : FitLinks xs = rw (links_start c) (kept_fit fs (start_of c.link).links s.fit) in
      let t : p.to - link_room_at ≡ link_header + length (encode_links xs) = omega (arith, w.to) in
      let q : record { count = p.count; total = p.to - link_room_at; time = h.time; padding = h.padding } ≡ header_of (linked_by c xs) =
      λ i. record { count = w.count i; total = t i; time = (eh i).time; padding = (eh i).padding } in
      link_put row x y (linked_by c xs) n (w.long ∙ n) w.front f s.time s.padding (omega (arith, t, packed_room)) w.bytes
      (ey ∙ ap (λ (k : LinkHeader). closed x k) q)
