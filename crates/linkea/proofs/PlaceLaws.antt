-- The places at which records begin, from one place on; what is asked of one or all of them. Assumes nothing.
use mathlib.Core.Path.{◌≡◌, refl, sym, ap, ◌∙◌}
use mathlib.Core.List.{List, [], ◌∷◌}
use mathlib.Core.Bool.{Bool, true, false, cond, not, ◌&&◌, ◌||◌}
use Prim.Native.Nat.{ℕ, zero, suc, ◌+◌, ◌≤◌, ◌<◌}
use borrow.Author.Tests.{ltb-true, ltb-false, lt-ltb, le-ltb, eqb-true, eqb-false, eq-eqb, ne_eqb}
use native.Mathlib.Omega.{arith}
use lib.Dec.{ltb, eqb}
use lib.ListN.{length}
use Rattle.linkea.specs.Link.{link_header, shortest_record, length_at, short_record, places_from, places}
use Rattle.linkea.specs.Conditions.{some, past_end, bad_name, bad_record}

-- ## Tests of several parts

pub or_first : (a b : Bool) → (a || b) ≡ false → a ≡ false
or_first true b h = h
or_first false b h = refl

pub or_second : (a b : Bool) → (a || b) ≡ false → b ≡ false
or_second true b h = cc
or_second false b h = h

pub clash : {X : Type 0} → false ≡ true → X
clash e = let z : ◌≡◌ {A = ℕ} 0 1 = cc in absurd (omega (arith, z))

-- a condition is met by none of a list, so by none that is in it
pub none_meets : (test : ℕ → Bool) (p : ℕ) (ps : List ℕ) → some test ps ≡ false → some (eqb p) ps ≡ true → test p ≡ false
unfolding some
none_meets test p [] h k = cc
none_meets test p (q ∷ ps) h k = go (eqb p q) refl k (none_meets test p ps (or_second (test q) (some test ps) h))
  where
    go : (b : Bool) → eqb p q ≡ b → (b || some (eqb p) ps) ≡ true → (some (eqb p) ps ≡ true → test p ≡ false) → test p ≡ false
    go true e j later = rw (eqb-true p q e) (or_first (test q) (some test ps) h)
    go false e j later = later j

-- ## The places from p on

unfoldable pub from : List ℕ → ℕ → List ℕ
from l p = places_from (length l) l p

pub places_from_lem : (l : List ℕ) → places l ≡ from l link_header
unfolding places from
places_from_lem l = refl

not_short : (l : List ℕ) (p : ℕ) → short_record l p ≡ false → shortest_record ≤ length_at l p
unfolding short_record
not_short l p h = ltb-false (length_at l p) shortest_record h

-- as many as there are bytes are enough
enough : (k m : ℕ) (l : List ℕ) (p : ℕ) → length l ≤ p + k → length l ≤ p + m → places_from k l p ≡ places_from m l p
unfolding places_from
enough zero zero l p h i = refl
enough zero (suc m) l p h i = rw (le-ltb p (length l) (omega arith))
enough (suc k) zero l p h i = rw (le-ltb p (length l) (omega arith))
enough (suc k) (suc m) l p h i = go (short_record l p) refl (λ a b. enough k m l (p + length_at l p) a b)
  where
    go : (s : Bool) → short_record l p ≡ s →
        (length l ≤ p + length_at l p + k → length l ≤ p + length_at l p + m → places_from k l (p + length_at l p) ≡ places_from m l (p + length_at l p)) →
        cond (ltb p (length l)) (p ∷ cond s [] (places_from k l (p + length_at l p))) []
        ≡ cond (ltb p (length l)) (p ∷ cond s [] (places_from m l (p + length_at l p))) []
    go true e on = refl
    go false e on = let n : shortest_record ≤ length_at l p = not_short l p e in rw (on (omega arith) (omega arith))

one_more : (l : List ℕ) (p : ℕ) → from l p ≡ places_from (suc (length l)) l p
unfolding from
one_more l p = enough (length l) (suc (length l)) l p (omega arith) (omega arith)

pub from_end : (l : List ℕ) (p : ℕ) → length l ≤ p → from l p ≡ []
unfolding places_from
from_end l p h = one_more l p ∙ rw (le-ltb p (length l) h)

pub from_short : (l : List ℕ) (p : ℕ) → p < length l → short_record l p ≡ true → from l p ≡ p ∷ []
unfolding places_from
from_short l p h s = one_more l p ∙ rw (lt-ltb p (length l) h, s)

pub from_step : (l : List ℕ) (p : ℕ) → p < length l → short_record l p ≡ false → from l p ≡ p ∷ from l (p + length_at l p)
unfolding places_from from
from_step l p h s = one_more l p ∙ rw (lt-ltb p (length l) h, s)

-- places only go up
above : (k : ℕ) (l : List ℕ) (p q : ℕ) → p < q → some (eqb p) (places_from k l q) ≡ false
unfolding places_from some
above zero l p q h = refl
above (suc k) l p q h = go (ltb q (length l)) (short_record l q) (above k l p (q + length_at l q) (omega arith))
  where
    go : (b s : Bool) → some (eqb p) (places_from k l (q + length_at l q)) ≡ false →
        some (eqb p) (cond b (q ∷ cond s [] (places_from k l (q + length_at l q))) []) ≡ false
    go false s on = refl
    go true true on = rw (ne_eqb p q (λ e. omega arith))
    go true false on = rw (ne_eqb p q (λ e. omega arith)) on

pub from_above : (l : List ℕ) (p q : ℕ) → p < q → some (eqb p) (from l q) ≡ false
unfolding from
from_above l p q h = above (length l) l p q h

-- and stand before the end
before_end : (k : ℕ) (l : List ℕ) (p q : ℕ) → some (eqb p) (places_from k l q) ≡ true → p < length l
unfolding places_from some
before_end zero l p q h = clash h
before_end (suc k) l p q h = go (ltb q (length l)) (short_record l q) (eqb p q) refl refl h (before_end k l p (q + length_at l q))
  where
    go : (b s c : Bool) → ltb q (length l) ≡ b → eqb p q ≡ c →
        some (eqb p) (cond b (q ∷ cond s [] (places_from k l (q + length_at l q))) []) ≡ true →
        (some (eqb p) (places_from k l (q + length_at l q)) ≡ true → p < length l) → p < length l
    go false s c e d i on = clash i
    go true s true e d i on = rw (eqb-true p q d) (ltb-true q (length l) e)
    go true true false e d i on = clash (rw d at i)
    go true false false e d i on = on (rw d at i)

pub place_before_end : (l : List ℕ) (p : ℕ) → some (eqb p) (places l) ≡ true → p < length l
unfolding places
place_before_end l p h = before_end (length l) l p link_header h

pub no_place : (l : List ℕ) (p : ℕ) → length l ≤ p → some (eqb p) (places l) ≡ false
no_place l p h = go (some (eqb p) (places l)) refl
  where
    go : (b : Bool) → some (eqb p) (places l) ≡ b → some (eqb p) (places l) ≡ false
    go false e = e
    go true e = absurd (omega (arith, place_before_end l p e))

-- ## A record that is not bad

pub record GoodRecord (l : List ℕ) (p : ℕ) : Type 0 where
  pub short : short_record l p ≡ false
  pub long : shortest_record ≤ length_at l p
  pub inside : p + length_at l p ≤ length l

pub good_record : (l : List ℕ) (p : ℕ) → bad_record l p ≡ false → GoodRecord l p
unfolding bad_record past_end
good_record l p h =
    let a : Bool = short_record l p in
    let b : Bool = past_end l p in
    let ab : (a || b) ≡ false = or_first (a || b) (bad_name l p) h in
    record {
      short = or_first a b ab;
      long = not_short l p (or_first a b ab);
      inside = ltb-false (length l) (p + length_at l p) (or_second a b ab);
    }

-- ## Every record from p on

-- none from p on is bad
unfoldable pub AllGood : List ℕ → ℕ → Type 0
AllGood l p = some (bad_record l) (from l p) ≡ false

module _ (l : List ℕ) (p : ℕ) (h : p < length l) where
  first_of : (test : ℕ → Bool) → (s : Bool) → short_record l p ≡ s → test p ≡ true → some test (from l p) ≡ true
  unfolding some
  first_of test true s t = rw (from_short l p h s, t)
  first_of test false s t = rw (from_step l p h s, t)

  pub some_here : (test : ℕ → Bool) → test p ≡ true → some test (from l p) ≡ true
  some_here test t = first_of test (short_record l p) refl t

  pub good_here : AllGood l p → bad_record l p ≡ false
  unfolding AllGood
  good_here g = go (bad_record l p) refl
    where
      go : (b : Bool) → bad_record l p ≡ b → bad_record l p ≡ false
      go false e = e
      go true e =
          let t : true ≡ false = sym (some_here (bad_record l) e) ∙ g in
          cc

  pub good_on : AllGood l p → AllGood l (p + length_at l p)
  unfolding AllGood some
  good_on g =
      let r = good_record l p (good_here g) in
      let e : some (bad_record l) (p ∷ from l (p + length_at l p)) ≡ false =
      sym (ap (λ (ps : List ℕ). some (bad_record l) ps) (from_step l p h r.short)) ∙ g in
      or_second (bad_record l p) (some (bad_record l) (from l (p + length_at l p))) e

-- ## The walk that counts

-- whether the records from p on are good and, with k before them, as many as counted
unfoldable pub good_from : List ℕ → ℕ → ℕ → ℕ → Bool
good_from l count k p = not (some (bad_record l) (from l p)) && eqb count (k + length (from l p))

pub good_start : (l : List ℕ) (count : ℕ) → (not (some (bad_record l) (places l)) && eqb count (length (places l))) ≡ good_from l count 0 link_header
unfolding good_from
good_start l count = let z : 0 + length (places l) ≡ length (places l) = omega arith in rw (← places_from_lem l, z)

module _ (l : List ℕ) (count k p : ℕ) where
  pub good_stop_lem : p < length l → bad_record l p ≡ true → false ≡ good_from l count k p
  unfolding good_from
  good_stop_lem h b = rw (some_here l p h (bad_record l) b)

  pub good_next : p < length l → bad_record l p ≡ false → good_from l count k p ≡ good_from l count (k + 1) (p + length_at l p)
  unfolding good_from some
  good_next h b =
      let r = good_record l p b in
      let n : ℕ = length (from l (p + length_at l p)) in
      let e : k + suc n ≡ k + 1 + n = omega arith in
      rw (from_step l p h r.short, b, e)

  pub good_end : length l ≤ p → eqb count k ≡ good_from l count k p
  unfolding good_from some
  good_end h = let e : k + 0 ≡ k = omega arith in rw (from_end l p h, e)

-- ## The walk to a place

module _ (l : List ℕ) (p at : ℕ) where
  pub pass_by : at < length l → AllGood l at → at < p → some (eqb p) (from l at) ≡ some (eqb p) (from l (at + length_at l at))
  unfolding some
  pass_by h g k =
      let r = good_record l at (good_here l at h g) in
      ap (λ (ps : List ℕ). some (eqb p) ps) (from_step l at h r.short) ∙ rw (ne_eqb p at (λ e. omega arith))

  pub arrive : p < length l → p ≤ at → eqb at p ≡ some (eqb p) (from l at)
  arrive h k = go (eqb at p) refl
    where
      go : (b : Bool) → eqb at p ≡ b → b ≡ some (eqb p) (from l at)
      go true e =
          let q : at ≡ p = eqb-true at p e in
          sym (some_here l at (omega arith) (eqb p) (eq-eqb p at (sym q)))
      go false e = sym (from_above l p at (lt_of k (eqb-false at p e)))
        where
          lt_of : p ≤ at → (at ≡ p → ⊥) → p < at
          lt_of i n = omega (arith, n)
