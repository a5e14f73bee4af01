-- The walk over the records of a linkEA: the records before a place and those from it on. Assumes nothing.
use mathlib.Core.Path.{◌≡◌, refl, sym, ap, ◌∙◌}
use mathlib.Core.Bool.{Bool, true, false, ◌||◌}
use mathlib.Core.List.{List, [], ◌∷◌, ◌++◌, map}
use Prim.Native.Nat.{ℕ, suc, ◌+◌, ◌-◌, ◌*◌, ◌≤◌, ◌<◌}
use native.Mathlib.Omega.{arith}
use borrow.Author.Tests.{ltb-true, ltb-false}
use lib.Dec.{ltb}
use lib.ListN.{length, take, drop, length-drop}
use lib.Seq.{drop-drop, take-add}
use Rattle.wire.specs.Numbers.{big, number}
use Rattle.fid.specs.Fid.{decode_fid_in}
use Rattle.fid.specs.declared.Fid.{Fid}
use Rattle.linkea.specs.Link.{Link, link_header, parent_at, name_at, link_length as record_length, shortest_record, length_at, decode_link, link_at, decode_link_ea}
use Rattle.linkea.specs.Conditions.{bad_record, refused_link}
use Rattle.linkea.proofs.PlaceLaws.{from, places_from_lem, from_end, from_step, AllGood, good_record, good_here, good_on}
use Rattle.linkea.proofs.RecordLaws.{good_link}
use Rattle.names.specs.Findings.{any}
use Rattle.names_check.specs.Asked.{asked}

-- ## Lists

-- x is record k
module _ (links : List Link) (k : ℕ) (x : Link) (e : drop k links ≡ x ∷ drop (k + 1) links) where
  pub taken : take (k + 1) links ≡ take k links ++ (x ∷ [])
  taken = rw e at (take-add k 1 links)

  pub inside : k < length links
  inside = omega (arith, length-drop k links, ap length e)

-- whether one of the records from j to k passes
module _ (test : Link → Bool) (links : List Link) (j k : ℕ) where
  pub any_to : Bool
  any_to = any test (take (k - j) (drop j links))

module _ (test : Link → Bool) (links : List Link) where
  pub to_start : (k : ℕ) → any test (take k links) ≡ any_to test links 0 k
  unfolding any_to
  to_start k = let z : k - 0 ≡ k = omega arith in rw z

  pub to_end : (j k : ℕ) → k ≤ j → any_to test links j k ≡ false
  unfolding any_to any
  to_end j k h = let z : k - j ≡ 0 = omega arith in rw z

  module _ (j k : ℕ) (x : Link) (e : drop j links ≡ x ∷ drop (j + 1) links) (h : j < k) where
    to_next : any_to test links j k ≡ (test x || any_to test links (j + 1) k)
    unfolding any_to any
    to_next = let z : k - j ≡ suc (k - (j + 1)) = omega arith in rw (z, e)

    pub to_hit : test x ≡ true → any_to test links j k ≡ true
    to_hit t = to_next ∙ rw t

    pub to_pass : test x ≡ false → any_to test links j k ≡ any_to test links (j + 1) k
    to_pass t = to_next ∙ rw t

-- ## Bytes

-- k records stand before a place
pub record Walked (l : List ℕ) (k at : ℕ) : Type 0 where
  pub good : AllGood l at
  pub rest : drop k (decode_link_ea l).links ≡ map (link_at l) (from l at)
  pub count : k ≤ length (decode_link_ea l).links
  pub far : link_header + shortest_record * k ≤ at
  pub near : at ≤ length l

pub walked_start : (l : List ℕ) → refused_link l ≡ false → Walked l 0 link_header
unfolding decode_link_ea
walked_start l h =
    let g = good_link l h in
    record { good = g.records; rest = ap (map (link_at l)) (places_from_lem l); count = omega arith; far = omega arith; near = g.header }

module _ (l : List ℕ) (k at : ℕ) (w : Walked l k at) where
  pub walked_end : length l ≤ at → length (decode_link_ea l).links ≡ k
  walked_end h =
      let e : drop k (decode_link_ea l).links ≡ [] = w.rest ∙ rw (from_end l at h) in
      omega (arith, length-drop k (decode_link_ea l).links, ap length e, w.count)

  pub walked_on : k < length (decode_link_ea l).links → at < length l
  walked_on h = go (ltb at (length l)) refl
    where
      go : (b : Bool) → ltb at (length l) ≡ b → at < length l
      go true e = ltb-true at (length l) e
      go false e = absurd (omega (arith, walked_end (ltb-false at (length l) e)))

  module _ (h : at < length l) where
    record_here : bad_record l at ≡ false
    record_here = good_here l at h w.good

    step : drop k (decode_link_ea l).links ≡ link_at l at ∷ map (link_at l) (from l (at + length_at l at))
    step = w.rest ∙ ap (map (link_at l)) (from_step l at h (good_record l at record_here).short)

    rest_on : drop (k + 1) (decode_link_ea l).links ≡ map (link_at l) (from l (at + length_at l at))
    rest_on = sym (drop-drop 1 k (decode_link_ea l).links) ∙ ap (drop 1) step

    -- the record at the place is record k
    pub walked_here : drop k (decode_link_ea l).links ≡ link_at l at ∷ drop (k + 1) (decode_link_ea l).links
    walked_here = step ∙ ap (λ (xs : List Link). link_at l at ∷ xs) (sym rest_on)

    pub walked_next : (p : ℕ) → p ≡ at + length_at l at → Walked l (k + 1) p
    walked_next p q =
        let g = good_record l at record_here in
        rw q (record {
          good = good_on l at h w.good;
          rest = rest_on;
          count = omega (arith, inside (decode_link_ea l).links k (link_at l at) walked_here);
          far = omega (arith, w.far, g.long);
          near = g.inside;
        })

-- the record at a place, as it is read
pub read_link_lem : (l : List ℕ) (p n : ℕ) (f : Fid) → f ≡ decode_fid_in big (drop (p + parent_at) l) → n ≡ number big 2 (drop p l) →
    asked (record { 0 = f }) (take (p + n - (p + name_at)) (drop (p + name_at) l)) ≡ link_at l p
unfolding asked link_at decode_link record_length
read_link_lem l p n f e g = let z : p + n - (p + name_at) ≡ n - name_at = omega arith in rw (z, e, g, drop-drop parent_at p l, drop-drop name_at p l)
