-- A record more in the link_ea of a child: its size, its stores, and what the row says then. Assumes nothing.
use mathlib.Core.Path.{◌≡◌, refl, sym, ap, ◌∙◌}
use mathlib.Core.Bool.{true, false}
use mathlib.Core.List.{List, [], ◌∷◌, ◌++◌, append-nil}
use Prim.Native.Nat.{ℕ, ◌+◌, ◌≤◌}
use native.Mathlib.Omega.{arith}
use borrow.Author.Tests.{ltb-false}
use lib.Dec.{ltb}
use lib.ListN.{length, take, drop, length-append, length-drop}
use lib.Seq.{sets, length-sets}
use Rattle.wire.specs.Numbers.{big, number_bytes}
use Rattle.wire.proofs.Splice.{sets_at, take_sets_le, drop_sets_add}
use Rattle.wire.proofs.NumberLaws.{Bytes}
use Rattle.wire.proofs.OrderLaws.{length_number}
use Rattle.fid.specs.Fid.{encode_fid_in}
use Rattle.fid.specs.declared.MdtFid.{MdtFid}
use Rattle.fid.proofs.FidLaws.{Fits, length_fid}
use Rattle.linkea.specs.Link.{Link, LinkEA, link_header, parent_at, name_at, encode_link, encode_links, header_of, encode_link_ea}
use Rattle.linkea.specs.Conditions.{some, bad_byte}
use Rattle.linkea.specs.declared.LinkHeader.{LinkHeader}
use Rattle.linkea_write.specs.Change.{appended}
use Rattle.linkea_write.proofs.ChangeLaws.{grown, appended_header}
use Rattle.linkea_write.proofs.LinkLaws.{FitLink, length_link, links_append}
use Rattle.linkea_write.proofs.StandLaws.{FitLinks}
use Rattle.names.specs.Rows.{Child, child_size, name_room, link_length_at, link_room_at, link_room, decode_child, with_link_ea}
use Rattle.names.specs.Check.{good_link_ea}
use Rattle.names.specs.Sweeps.{start_of, grown_link, outgrows}
use Rattle.names_check.specs.Asked.{asked}
use Rattle.names_links.specs.Room.{closed}
use Rattle.names_links.proofs.RoomLaws.{Standing, stands, total_is, encoded_long, stored_after, link_put}

-- ## Its size

grown_total : (e : LinkEA) (x : Link) → (header_of (appended e x)).total ≡ (header_of e).total + (name_at + length x.name)
unfolding grown
grown_total e x = ap (λ (h : LinkHeader). h.total) (appended_header e x) ∙ rw (length_link x)

grown_long : (c : Child) (x : Link) → length (encode_link_ea (grown_link c x)) ≡ (header_of (start_of c.link)).total + (name_at + length x.name)
unfolding grown_link
grown_long c x = encoded_long (appended (start_of c.link) x) ∙ grown_total (start_of c.link) x

pub outgrows_is : (c : Child) (x : Link) (h : LinkHeader) (n : ℕ) → h ≡ header_of (start_of c.link) → length x.name ≡ n →
    ltb link_room (h.total + name_at + n) ≡ outgrows c x
unfolding outgrows
outgrows_is c x h n e q =
    let z : h.total + name_at + n ≡ length (encode_link_ea (grown_link c x)) =
    omega (arith, ap (λ (g : LinkHeader). g.total) e, q, grown_long c x) in
    ap (λ (k : ℕ). ltb link_room k) z

pub inside : (c : Child) (x : Link) (h : LinkHeader) → h ≡ header_of (start_of c.link) → outgrows c x ≡ false → h.total + (name_at + length x.name) ≤ link_room
unfolding outgrows
inside c x h e g =
    omega (arith, ap (λ (k : LinkHeader). k.total) e, grown_long c x, ltb-false link_room (length (encode_link_ea (grown_link c x))) g)

-- ## Its stores

pub record_put : (row a b x : List ℕ) (at size : ℕ) (parent : MdtFid) (name : List ℕ) → size ≡ name_at + length name → a ≡ sets row at (number_bytes big 2 size) →
    b ≡ sets a (at + parent_at) (encode_fid_in big parent.0) → x ≡ sets b (at + name_at) name → x ≡ sets row at (encode_link (asked parent name))
unfolding encode_link asked
record_put row a b x at size parent name es ea eb ex =
    let n : List ℕ = number_bytes big 2 (name_at + length name) in
    let f : List ℕ = encode_fid_in big parent.0 in
    rw (
      ex,
      eb,
      ea,
      es,
      sets_at n f row at parent_at (length_number big 2 (name_at + length name)),
      sets_at (n ++ f) name row at name_at (simp (length-append, length_number, length_fid)),
    )

-- ## The row

fit_more : (xs : List Link) (x : Link) → FitLinks xs → FitLink x → FitLinks (xs ++ (x ∷ []))
unfolding FitLinks
fit_more [] x f g = (g, tt)
fit_more (y ∷ xs) x f g = (f.0, fit_more xs x f.1 g)

bytes_more : (xs : List Link) (x : Link) → encode_links (xs ++ (x ∷ [])) ≡ encode_links xs ++ encode_link x
unfolding encode_links
bytes_more xs x = links_append xs (x ∷ []) ∙ rw append-nil

-- a record stored behind those that stand in the row
more_stand : (row : List ℕ) (e : LinkEA) (x : Link) → length row ≡ child_size → Standing row e → (header_of e).total + (name_at + length x.name) ≤ link_room →
    take (length (encode_links (e.links ++ (x ∷ [])))) (drop (link_room_at + link_header) (sets row (link_room_at + (header_of e).total) (encode_link x)))
    ≡ encode_links (e.links ++ (x ∷ []))
more_stand row e x n s r =
    let ls : List ℕ = encode_links e.links in
    let t = total_is e in
    let z : link_room_at + (header_of e).total ≡ link_room_at + link_header + length ls = omega (arith, t) in
    rw (bytes_more e.links x, z, drop_sets_add (encode_link x) row (link_room_at + link_header) (length ls))
    (stored_after (drop (link_room_at + link_header) row) ls (encode_link x) s.stand (rw length-drop (omega (arith, length_link x, t))))

-- the header with a record more
grown_is : (h : LinkHeader) (e : LinkEA) (parent : MdtFid) (name : List ℕ) → h ≡ header_of e →
    record { count = h.count + 1; total = h.total + name_at + length name; time = h.time; padding = h.padding } ≡ header_of (appended e (asked parent name))
unfolding grown asked
grown_is h e parent name q =
    let x : Link = asked parent name in
    let t : h.total + name_at + length name ≡ h.total + length (encode_link x) = omega (arith, length_link x) in
    let p : record { count = h.count + 1; total = h.total + name_at + length name; time = h.time; padding = h.padding } ≡ grown h 1 (length (encode_link x)) =
    λ i. record { count = h.count + 1; total = t i; time = h.time; padding = h.padding } in
    p ∙ ap (λ (k : LinkHeader). grown k 1 (length (encode_link x))) q ∙ sym (appended_header e x)

pub append_done : (row a y : List ℕ) (parent : MdtFid) (name : List ℕ) (h : LinkHeader) → Bytes row → length row ≡ child_size → good_link_ea row ≡ true →
    Fits parent.0 → 1 ≤ length name → length name ≤ name_room → some bad_byte name ≡ false → outgrows (decode_child row) (asked parent name) ≡ false →
    h ≡ header_of (start_of (decode_child row).link) → a ≡ sets row (link_room_at + h.total) (encode_link (asked parent name)) →
    y ≡ closed a (record { count = h.count + 1; total = h.total + name_at + length name; time = h.time; padding = h.padding }) →
    (decode_child y ≡ with_link_ea (decode_child row) (grown_link (decode_child row) (asked parent name))) × (good_link_ea y ≡ true)
unfolding grown_link appended asked
append_done row a y parent name h b n g f n1 n2 cl o eh ea ey =
    let c : Child = decode_child row in
    let e : LinkEA = start_of c.link in
    let x : Link = asked parent name in
    let s = stands row b n g in
    let r : (header_of e).total + (name_at + length name) ≤ link_room = inside c x (header_of e) refl o in
    let q : a ≡ sets row (link_room_at + (header_of e).total) (encode_link x) =
    ea ∙ ap (λ (k : LinkHeader). sets row (link_room_at + k.total) (encode_link x)) eh in
    link_put row a y (appended e x) n (ap length q ∙ length-sets row (link_room_at + (header_of e).total) (encode_link x) ∙ n)
    (ap (λ (l : List ℕ). take link_length_at l) q ∙ take_sets_le (encode_link x) row link_length_at (link_room_at + (header_of e).total) (omega arith))
    (fit_more e.links x s.fit (record { fits = f; named = n1; short = omega (arith, n2); clean = cl }))
    s.time s.padding (omega (arith, grown_total e x, r)) (rw q (more_stand row e x n s r)) (ey ∙ ap (λ (k : LinkHeader). closed a k) (grown_is h e parent name eh))
