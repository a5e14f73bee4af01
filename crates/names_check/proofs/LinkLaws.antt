-- FIDs, names and records compared, one by one. Assumes nothing.
use mathlib.Core.Path.{◌≡◌, refl, sym, ap, ◌∙◌}
use mathlib.Core.Bool.{Bool, true, false, ◌&&◌, ◌||◌}
use mathlib.Core.List.{List, [], ◌∷◌, map}
use Prim.Native.Nat.{ℕ, ◌+◌, ◌-◌, ◌≤◌, ◌<◌}
use native.Mathlib.Omega.{arith}
use borrow.Author.Tests.{eq-eqb, ne_eqb}
use lib.Dec.{eqb}
use lib.ListN.{length, take, drop}
use lib.Seq.{drop-drop}
use Rattle.std.specs.Str.{bytes_eq}
use Rattle.wire.specs.Numbers.{big, number}
use Rattle.fid.specs.Fid.{same_fid, decode_fid_in}
use Rattle.fid.specs.declared.Fid.{Fid}
use Rattle.fid.specs.declared.MdtFid.{MdtFid}
use Rattle.linkea.specs.Link.{Link, name_at, parent_at, link_header, link_length as record_length, length_at, decode_link, link_at, decode_link_ea}
use Rattle.linkea.proofs.PlaceLaws.{from, places_from_lem, from_end, from_step, AllGood, good_record, good_here}
use Rattle.names.specs.Rows.{Entry, Child, is_none, link_length, link_bytes, decode_linked, decode_child, links_in, links_of, decode_entry}
use Rattle.names.specs.declared.FidFinding.TheVariants.{FidAgrees, NoDirentFid, FidDiffers, NoSelfFid, NeitherFid}
use Rattle.names.specs.declared.LinkFinding.TheVariants.{RecordThere, NoRecord}
use Rattle.names.specs.Findings.{any, same, fids_finding, same_name, same_link, link_for, has_link, link_finding}
use Rattle.names_check.specs.Asked.{asked}

-- ## FIDs

module _ (f own : MdtFid) where
  pub neither_fid : is_none own ≡ true → is_none f ≡ true → NeitherFid ≡ fids_finding f own
  unfolding fids_finding
  neither_fid h k = rw (h, k)

  pub no_self_fid : is_none own ≡ true → is_none f ≡ false → NoSelfFid ≡ fids_finding f own
  unfolding fids_finding
  no_self_fid h k = rw (h, k)

  pub no_dirent_fid : is_none own ≡ false → is_none f ≡ true → NoDirentFid ≡ fids_finding f own
  unfolding fids_finding
  no_dirent_fid h k = rw (h, k)

  pub fid_agrees : is_none own ≡ false → is_none f ≡ false → same_fid f.0 own.0 ≡ true → FidAgrees ≡ fids_finding f own
  unfolding fids_finding same
  fid_agrees h k e = rw (h, k, e)

  pub fid_differs : is_none own ≡ false → is_none f ≡ false → same_fid f.0 own.0 ≡ false → FidDiffers ≡ fids_finding f own
  unfolding fids_finding same
  fid_differs h k e = rw (h, k, e)

-- ## Names

-- the words for equal names
pub same_is : (a b : List ℕ) → bytes_eq a b ≡ same_name a b
unfolding same_name
same_is [] [] = refl
same_is [] (y ∷ b) = refl
same_is (x ∷ a) [] = refl
same_is (x ∷ a) (y ∷ b) = ap (λ (t : Bool). eqb x y && t) (same_is a b)

-- ## One record

module _ (parent : MdtFid) (name l : List ℕ) (p : ℕ) (f : Fid) (q : f ≡ decode_fid_in big (drop (p + parent_at) l)) where
  parent_there : (link_at l p).parent.0 ≡ f
  unfolding link_at decode_link
  parent_there = sym (q ∙ rw (← drop-drop parent_at p l))

  pub link_differs : same_fid parent.0 f ≡ false → false ≡ same_link (asked parent name) (link_at l p)
  unfolding same_link same asked
  link_differs h = rw (parent_there, h)

  pub link_named : (n : ℕ) → n ≡ number big 2 (drop p l) → same_fid parent.0 f ≡ true →
      same_name name (take (p + n - (p + name_at)) (drop (p + name_at) l)) ≡ same_link (asked parent name) (link_at l p)
  unfolding same_link same asked link_at decode_link record_length
  link_named n e h = rw (parent_there, h) (ap (same_name name) (there n e))
    where
      there : (n : ℕ) → n ≡ number big 2 (drop p l) → take (p + n - (p + name_at)) (drop (p + name_at) l) ≡ (link_at l p).name
      there n e = let z : p + n - (p + name_at) ≡ n - name_at = omega arith in rw (z, e, ← drop-drop name_at p l)

-- ## The records of a link_ea, from the one at a place on

module _ (test : Link → Bool) (l : List ℕ) where
  -- whether one of them passes
  pub any_from : ℕ → Bool
  any_from p = any test (map (link_at l) (from l p))

  pub any_start : any test (decode_link_ea l).links ≡ any_from link_header
  unfolding decode_link_ea any_from
  any_start = rw (places_from_lem l)

  module _ (p : ℕ) where
    pub any_end : length l ≤ p → any_from p ≡ false
    unfolding any_from any
    any_end h = rw (from_end l p h)

    next : p < length l → AllGood l p → any_from p ≡ (test (link_at l p) || any_from (p + length_at l p))
    unfolding any_from any
    next h g = rw (from_step l p h (good_record l p (good_here l p h g)).short)

    pub any_hit : p < length l → AllGood l p → test (link_at l p) ≡ true → any_from p ≡ true
    any_hit h g t = next h g ∙ rw t

    pub any_pass : p < length l → AllGood l p → test (link_at l p) ≡ false → any_from p ≡ any_from (p + length_at l p)
    any_pass h g t = next h g ∙ rw t

-- ## The records of a child

module _ (x : Link) (row : List ℕ) where
  pub no_link : link_length row ≡ 0 → false ≡ has_link x (decode_child row)
  unfolding has_link links_of decode_child decode_linked links_in any
  no_link h = rw (eq-eqb (link_length row) 0 h)

  pub some_link : (link_length row ≡ 0 → ⊥) → any (same_link x) (decode_link_ea (link_bytes row)).links ≡ has_link x (decode_child row)
  unfolding has_link links_of decode_child decode_linked links_in
  some_link h = rw (ne_eqb (link_length row) 0 h)

pub asked_for : (row : List ℕ) → asked (decode_entry row).parent (decode_entry row).name ≡ link_for (decode_entry row)
unfolding asked link_for
asked_for row = refl

module _ (e : Entry) (c : Child) where
  pub record_there : has_link (link_for e) c ≡ true → RecordThere ≡ link_finding e c
  unfolding link_finding
  record_there h = rw h

  pub no_record : has_link (link_for e) c ≡ false → NoRecord ≡ link_finding e c
  unfolding link_finding
  no_record h = rw h
