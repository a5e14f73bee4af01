-- A change that a sweep makes of an entry or a child leaves one that a row says. Assumes nothing.
use mathlib.Core.Path.{◌≡◌, refl, ap, subst, ◌∙◌}
use mathlib.Core.Bool.{Bool, true, false, cond}
use mathlib.Core.List.{List, [], ◌∷◌, ◌++◌}
use Prim.Native.Nat.{ℕ, ◌+◌, ◌-◌, ◌≤◌}
use native.Mathlib.Omega.{arith}
use lib.ListN.{length, take, drop, replicate, length-append}
use lib.Seq.{sets, length-sets, take_at}
use Rattle.wire.specs.Numbers.{bytes}
use Rattle.wire.proofs.NumberLaws.{Bytes, bytes_drop, bytes_take}
use Rattle.wire.proofs.OrderLaws.{bytes_append}
use Rattle.wire.proofs.Splice.{take_sets_le}
use Rattle.fid.specs.Fid.{encode_fid}
use Rattle.fid.specs.declared.MdtFid.{MdtFid}
use Rattle.fid.proofs.FidLaws.{Fits}
use Rattle.linkea.specs.Link.{Link, LinkEA, link_header, name_at, encode_link, encode_links, encode_link_header, header_of}
use Rattle.linkea.specs.declared.LinkHeader.{LinkHeader}
use Rattle.linkea_write.proofs.StandLaws.{FitLinks}
use Rattle.index.proofs.EntryLaws.{drop_sets}
use Rattle.names.specs.Rows.{Entry, Child, child_fid_at, link_length_at, link_room_at, link_room, decode_child, with_fid, with_self, with_link_ea}
use Rattle.names.specs.Findings.{link_for}
use Rattle.names.specs.Sweeps.{start_of, grown_link, outgrows, goes, kept, left_links}
use Rattle.names_promises.proofs.RowFrames.{shorter}
use Rattle.names_check.specs.Asked.{asked}
use Rattle.names_links.specs.Room.{closed}
use Rattle.names_links.proofs.RoomLaws.{Standing, stands, total_is, link_put}
use Rattle.names_links.proofs.AppendLaws.{append_done}
use Rattle.names_links.proofs.KeepLaws.{links_start}
use Rattle.names_marks.proofs.PutLaws.{entry_put, fid_name, fid_child, self_put, self_link}
use Rattle.names_again.proofs.ByteLaws.{bytes_first, bytes_second, bytes_sets, fid_bytes, link_bytes_lem, closed_bytes}
use Rattle.names_again.proofs.FitRows.{FitEntry, FitChild, parent_fits, name_bytes_lem, name_long, name_is_clean}

-- ## FIDs

pub fid_fit : (n : ℕ) (e : Entry) (g : MdtFid) → FitEntry n e → Fits g.0 → FitEntry n (with_fid e g)
fid_fit n e g f w =
    record {
      row = sets f.row child_fid_at (encode_fid g.0);
      bytes = bytes_sets (encode_fid g.0) f.row child_fid_at f.bytes (fid_bytes g.0);
      long = length-sets f.row child_fid_at (encode_fid g.0) ∙ f.long;
      good = fid_name f.row g w ∙ f.good;
      there = omega (arith, fid_child f.row g w, f.there);
      says = entry_put f.row g w f.long ∙ ap (λ (x : Entry). with_fid x g) f.says;
    }

pub self_fit : (c : Child) (g : MdtFid) → FitChild c → Fits g.0 → FitChild (with_self c g)
self_fit c g f w =
    record {
      row = sets f.row 0 (encode_fid g.0);
      bytes = bytes_sets (encode_fid g.0) f.row 0 f.bytes (fid_bytes g.0);
      long = length-sets f.row 0 (encode_fid g.0) ∙ f.long;
      good = self_link f.row g w ∙ f.good;
      says = self_put f.row g w f.long ∙ ap (λ (x : Child). with_self x g) f.says;
    }

-- ## A record more

closed_long : (row : List ℕ) (h : LinkHeader) → length (closed row h) ≡ length row
unfolding closed
closed_long row h =
    let s : List ℕ = bytes 2 h.total ++ encode_link_header h in
    length-sets (sets row link_length_at s) (link_room_at + h.total) (replicate (link_room - h.total) 0) ∙ length-sets row link_length_at s

pub grown_fit : (n : ℕ) (e : Entry) (c : Child) → FitEntry n e → FitChild c → outgrows c (link_for e) ≡ false →
    FitChild (with_link_ea c (grown_link c (link_for e)))
unfolding link_for asked
grown_fit n e c t f o =
    let x : Link = asked e.parent e.name in
    let h : LinkHeader = header_of (start_of (decode_child f.row).link) in
    let a : List ℕ = sets f.row (link_room_at + h.total) (encode_link x) in
    let k : LinkHeader = record { count = h.count + 1; total = h.total + name_at + length e.name; time = h.time; padding = h.padding } in
    let r : outgrows (decode_child f.row) x ≡ false = ap (λ (z : Child). outgrows z x) f.says ∙ o in
    let d = append_done f.row a (closed a k) e.parent e.name h f.bytes f.long f.good (parent_fits n e t)
    (name_long n e t).0 (name_long n e t).1 (name_is_clean n e t) r refl refl refl in
    record {
      row = closed a k;
      bytes = closed_bytes a k (bytes_sets (encode_link x) f.row (link_room_at + h.total) f.bytes (link_bytes_lem x (name_bytes_lem n e t)));
      long = closed_long a k ∙ length-sets f.row (link_room_at + h.total) (encode_link x) ∙ f.long;
      good = d.1;
      says = d.0 ∙ ap (λ (z : Child). with_link_ea z (grown_link z x)) f.says;
    }

-- ## Records less

-- records that can be written in n bytes, and read
record Writable (n : ℕ) (xs : List Link) : Type 0 where
  fit : FitLinks xs
  bytes : Bytes (encode_links xs)
  short : length (encode_links xs) ≤ n

module _ (seen : MdtFid → Bool) (es : List Entry) (r : ℕ) where
  kept_writable : (before xs : List Link) → FitLinks xs → Bytes (encode_links xs) → Writable (length (encode_links xs)) (kept seen es r before xs)
  unfolding kept FitLinks encode_links
  kept_writable before [] f b = record { fit = tt; bytes = b; short = omega arith }
  kept_writable before (x ∷ xs) f b =
      go (goes seen es r before x) (kept_writable (before ++ (x ∷ [])) xs f.1 (bytes_second (encode_link x) (encode_links xs) b))
    where
      go : (t : Bool) → Writable (length (encode_links xs)) (kept seen es r (before ++ (x ∷ [])) xs) →
          Writable (length (encode_link x ++ encode_links xs)) (cond t [] (x ∷ []) ++ kept seen es r (before ++ (x ∷ [])) xs)
      go true w = record { fit = w.fit; bytes = w.bytes; short = rw length-append (omega (arith, w.short)) }
      go false w =
          record {
            fit = (f.0, w.fit);
            bytes =
                bytes_append (encode_link x) (encode_links (kept seen es r (before ++ (x ∷ [])) xs)) (bytes_first (encode_link x) (encode_links xs) b) w.bytes;
            short = rw (length-append, length-append) (omega (arith, w.short));
          }

  -- the records of a child that stay
  left_writable : (c : Child) → FitLinks (start_of c.link).links → Bytes (encode_links (start_of c.link).links) →
      Writable (length (encode_links (start_of c.link).links)) (left_links seen es r c)
  unfolding left_links
  left_writable c f b = rw (links_start c) (kept_writable [] (start_of c.link).links f b)

  pub shorter_fit : (c : Child) → FitChild c → FitChild (shorter seen es r c)
  unfolding shorter
  shorter_fit c f =
      let e : LinkEA = start_of c.link in
      let s : Standing f.row e =
      subst (λ (x : Child). Standing f.row (start_of x.link)) f.says (stands f.row f.bytes f.long f.good) in
      let at : ℕ = link_room_at + link_header in
      let n : ℕ = length (encode_links e.links) in
      let b : Bytes (encode_links e.links) =
      subst (λ (l : List ℕ). Bytes l) s.stand (bytes_take n (drop at f.row) (bytes_drop at f.row f.bytes)) in
      let w : Writable n (left_links seen es r c) = left_writable c s.fit b in
      let xs : List Link = left_links seen es r c in
      let ls : List ℕ = encode_links xs in
      let g : LinkEA = record { time = e.time; padding = e.padding; links = xs } in
      let x : List ℕ = sets f.row at ls in
      let m : (header_of g).total ≤ link_room = omega (arith, total_is g, total_is e, s.room, w.short) in
      let i : at + length ls ≤ length f.row = omega (arith, total_is e, s.room, w.short, f.long) in
      let q : take (length ls) (drop at x) ≡ ls = rw (drop_sets ls f.row at i) (take_at ls (drop (at + length ls) f.row) (length ls) refl) in
      let d = link_put f.row x (closed x (header_of g)) g f.long (length-sets f.row at ls ∙ f.long) (take_sets_le ls f.row link_length_at at (omega arith))
      w.fit s.time s.padding m q refl in
      record {
        row = closed x (header_of g);
        bytes = closed_bytes x (header_of g) (bytes_sets ls f.row at f.bytes w.bytes);
        long = closed_long x (header_of g) ∙ length-sets f.row at ls ∙ f.long;
        good = d.1;
        says = d.0 ∙ ap (λ (z : Child). with_link_ea z g) f.says;
      }
