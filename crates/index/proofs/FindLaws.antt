-- The binary search, and the entry that it ends at. Assumes nothing.
use Rattle.std.specs.Prelude.{Option, None, Some}
use Rattle.std.proofs.lemmas.Option.{none-some, same_Some}
use mathlib.Core.Path.{◌≡◌, refl, sym, ap, ◌∙◌}
use mathlib.Core.Bool.{Bool, true, false, cond, and-false}
use mathlib.Core.List.{List, [], ◌∷◌}
use Prim.Native.Nat.{ℕ, zero, suc, ◌+◌, ◌-◌, ◌*◌, ◌/◌, ◌%◌, ◌^◌, ◌≤◌, ◌<◌}
use native.Mathlib.Nat.{not-suc-le-zero}
use native.Mathlib.Numerals.{add-one}
use native.Mathlib.Omega.{arith}
use lib.ListN.{length, get_or, drop, drop_of_length-le, length-drop}
use lib.Seq.{drop-cons, drop-drop, get_or-drop}
use lib.Dec.{leb, eqb}
use borrow.Author.Tests.{leb-true, leb-false, le-leb, lt-leb, eqb-true, eqb-false, eq-eqb, ne_eqb}
use Rattle.wire.specs.Numbers.{le}
use Rattle.index.specs.Entries.{entries, entry_at, wide, place_size, value_range}
use Rattle.index.specs.Search.{Ordered, stop, first_from, key_of, value_with, lower, lowest_of, always, lowest, Tells}
use Rattle.index.proofs.HalfLaws.{length_entries}
use Rattle.index.proofs.OrderLaws.{From, from_head, from_tail, ordered_from, ordered_tail}

pub entries_at_lem : (n j : ℕ) (l : List ℕ) → j < n → get_or (entries n l) j 0 ≡ le place_size (drop (place_size * j) l)
unfolding entries
entries_at_lem zero j l h = absurd (not-suc-le-zero h)
entries_at_lem (suc n) zero l h = refl
entries_at_lem (suc n) (suc j) l h =
    let e : place_size * suc j ≡ place_size + place_size * j = omega arith in
    rw (e, ← drop-drop (place_size * j) 16 l) (entries_at_lem n j (drop place_size l) (omega arith))

here : (t x : ℕ) (l : List ℕ) → t ≤ x → first_from t (x ∷ l) ≡ 0
unfolding first_from stop
here t x l h = rw (le-leb t x h)

further : (t x : ℕ) (l : List ℕ) → x < t → first_from t (x ∷ l) ≡ suc (first_from t l)
unfolding first_from stop
further t x l h = rw (lt-leb t x h)

pub first_none : (t : ℕ) → first_from t [] ≡ 0
unfolding first_from
first_none t = refl

under : (x : ℕ) (l : List ℕ) (j : ℕ) → From x l → j < length l → x ≤ get_or l j 0
unfolding From
under x l j f h = f j h

-- those up to an entry below t are all below it
pub skip : (t j : ℕ) (l : List ℕ) → Ordered l → j < length l → get_or l j 0 < t → first_from t l ≡ suc j + first_from t (drop (suc j) l)
skip t j [] o h k = absurd (not-suc-le-zero h)
skip t zero (x ∷ l) o h k = further t x l k ∙ omega arith
skip t (suc j) (x ∷ l) o h k =
    let b : x ≤ get_or l j 0 = under x l j (ordered_from x l o) (omega arith) in
    further t x l (omega arith) ∙ omega (arith, skip t j l (ordered_tail x l o) (omega arith) k)

pub ordered_drop : (a : ℕ) (l : List ℕ) → Ordered l → Ordered (drop a l)
unfolding Ordered
ordered_drop a l o i j h k = rw (get_or-drop, get_or-drop) (o (a + i) (a + j) (omega arith) (omega (arith, length-drop a l)))

pub search_on : (t a mid : ℕ) (l : List ℕ) → Ordered l → a ≤ mid → mid < length l → get_or l mid 0 < t →
    first_from t l ≡ a + first_from t (drop a l) → first_from t l ≡ mid + 1 + first_from t (drop (mid + 1) l)
search_on t a mid l o h k b e =
    let m : ℕ = mid - a in
    let p : a + m ≡ mid = omega arith in
    let q : get_or (drop a l) m 0 < t = rw (get_or-drop, p) b in
    let r : first_from t (drop a l) ≡ suc m + first_from t (drop (suc m) (drop a l)) = skip t m (drop a l) (ordered_drop a l o) (omega (arith, length-drop a l)) q in
    let s : a + suc m ≡ mid + 1 = omega arith in
    let u : drop (suc m) (drop a l) ≡ drop (mid + 1) l = drop-drop (suc m) a l ∙ ap (λ (n : ℕ). drop n l) s in
    let v : first_from t (drop a l) ≡ suc m + first_from t (drop (mid + 1) l) = rw u at r in
    omega arith

pub search_end : (t a : ℕ) (l : List ℕ) → a ≤ length l → (a < length l → t ≤ get_or l a 0) → first_from t l ≡ a + first_from t (drop a l) → a ≡ first_from t l
search_end t a l h k e = go (leb (length l) a) refl
  where
    go : (b : Bool) → leb (length l) a ≡ b → a ≡ first_from t l
    go true f =
        let g : length l ≤ a = leb-true (length l) a f in
        let z : first_from t (drop a l) ≡ 0 = rw (drop_of_length-le l g) (first_none t) in
        omega arith
    go false f =
        let g : a < length l = leb-false (length l) a f in
        let z : first_from t (drop a l) ≡ 0 = rw (drop-cons l a 0 g) (here t (get_or l a 0) (drop (suc a) l) (k g)) in
        omega arith

lower_both : (v w : ℕ) (r : Option ℕ) → v ≤ w → lower true v (lower true w r) ≡ lower true v r
unfolding lower
lower_both v w None h = ap Some (omega arith)
lower_both v w (Some u) h = ap Some (omega arith)

passes_always : (v : ℕ) → always v ≡ true
unfolding always
passes_always v = refl

lower_nothing : (v : ℕ) → lower true v None ≡ Some v
unfolding lower
lower_nothing v = refl

-- ## The lowest value of a key, entry by entry

module _ (test : ℕ → Bool) (k : ℕ) where
  -- an entry of another key, one whose value doesn't pass, and one that is looked for
  pub other : (x : ℕ) (l : List ℕ) → (x / value_range ≡ k → ⊥) → lowest_of test k (x ∷ l) ≡ lowest_of test k l
  unfolding lowest_of lower
  other x l h = rw (ne_eqb (x / value_range) k h)

  pub fails : (x : ℕ) (l : List ℕ) → test (x % value_range) ≡ false → lowest_of test k (x ∷ l) ≡ lowest_of test k l
  unfolding lowest_of lower
  fails x l h = rw (h, and-false (eqb (x / value_range) k))

  pub same : (x : ℕ) (l : List ℕ) → x / value_range ≡ k → test (x % value_range) ≡ true →
      lowest_of test k (x ∷ l) ≡ lower true (x % value_range) (lowest_of test k l)
  unfolding lowest_of
  same x l h t = rw (eq-eqb (x / value_range) k h, t)

  pub lowest_none : lowest_of test k [] ≡ None
  unfolding lowest_of
  lowest_none = refl

  -- the entries below the key's first number have lower keys
  pub lowest_on : (l : List ℕ) → lowest_of test k l ≡ lowest_of test k (drop (first_from (value_range * k) l) l)
  lowest_on [] = rw (first_none (value_range * k))
  lowest_on (x ∷ l) = go (leb (value_range * k) x) refl (lowest_on l)
    where
      go : (b : Bool) → leb (value_range * k) x ≡ b → lowest_of test k l ≡ lowest_of test k (drop (first_from (value_range * k) l) l) →
          lowest_of test k (x ∷ l) ≡ lowest_of test k (drop (first_from (value_range * k) (x ∷ l)) (x ∷ l))
      go true e i = rw (here (value_range * k) x l (leb-true (value_range * k) x e))
      go false e i =
          let h : x < value_range * k = leb-false (value_range * k) x e in
          rw (further (value_range * k) x l h) (other x l (λ p. omega arith) ∙ i)

  -- entries of higher keys
  pub above : (x : ℕ) (l : List ℕ) → k < x / value_range → From x l → lowest_of test k l ≡ None
  above x [] h f = lowest_none
  above x (y ∷ l) h f = let b : x ≤ y = from_head x y l f in other y l (λ p. omega arith) ∙ above x l h (from_tail x y l f)

  -- of the entries of a key in order the first that passes has the lowest value
  pub least : (x : ℕ) (l : List ℕ) → x / value_range ≡ k → From x l → lower true (x % value_range) (lowest_of test k l) ≡ Some (x % value_range)
  least x [] h f = rw lowest_none (lower_nothing (x % value_range))
  least x (y ∷ l) h f = go (eqb (y / value_range) k) (test (y % value_range)) refl refl (from_head x y l f) (least x l h (from_tail x y l f))
    where
      go : (b c : Bool) → eqb (y / value_range) k ≡ b → test (y % value_range) ≡ c → x ≤ y →
          lower true (x % value_range) (lowest_of test k l) ≡ Some (x % value_range) →
          lower true (x % value_range) (lowest_of test k (y ∷ l)) ≡ Some (x % value_range)
      go true true e t b i =
          let q : y / value_range ≡ k = eqb-true (y / value_range) k e in
          let p : x % value_range ≤ y % value_range = omega arith in
          rw (same y l q t) (lower_both (x % value_range) (y % value_range) (lowest_of test k l) p ∙ i)
      go true false e t b i = rw (fails y l t) i
      go false c e t b i = rw (other y l (eqb-false (y / value_range) k e)) i

  -- ## The walk over the entries of a key, from the first of them on

  module _ (i : ℕ) (l : List ℕ) (o : Ordered l) where
    pub walk_end : length l ≤ i → None ≡ lowest_of test k (drop i l)
    walk_end h = sym (rw (drop_of_length-le l h) lowest_none)

    cons_there : i < length l → drop i l ≡ get_or l i 0 ∷ drop (suc i) l
    cons_there h = drop-cons l i 0 h

    ordered_there : i < length l → From (get_or l i 0) (drop (suc i) l)
    ordered_there h = ordered_from (get_or l i 0) (drop (suc i) l) (rw (drop-cons l i 0 h) at (ordered_drop i l o))

    -- past the key
    pub walk_past : i < length l → k < get_or l i 0 / value_range → None ≡ lowest_of test k (drop i l)
    walk_past h p =
        sym (rw (cons_there h) (other (get_or l i 0) (drop (suc i) l) (λ q. omega arith) ∙ above (get_or l i 0) (drop (suc i) l) p (ordered_there h)))

    -- at an entry that passes
    pub walk_hit : i < length l → get_or l i 0 / value_range ≡ k → test (get_or l i 0 % value_range) ≡ true →
        Some (get_or l i 0 % value_range) ≡ lowest_of test k (drop i l)
    walk_hit h p t =
        sym (rw (cons_there h) (same (get_or l i 0) (drop (suc i) l) p t ∙ least (get_or l i 0) (drop (suc i) l) p (ordered_there h)))

    -- and at one that doesn't
    pub walk_next : i < length l → test (get_or l i 0 % value_range) ≡ false → lowest_of test k (drop i l) ≡ lowest_of test k (drop (i + 1) l)
    walk_next h t = rw (cons_there h, add-one i) (fails (get_or l i 0) (drop (suc i) l) t)

-- what a test answers is what it tells
pub tells_at : (answers : ℕ → Bool → Type 0) (passes : ℕ → Bool) → Tells answers passes → (v : ℕ) (b : Bool) → v < 2 ^ 32 → answers v b → passes v ≡ b
unfolding Tells
tells_at answers passes t v b h a = sym (t v b h a)

-- what the search found, read
module _ (k t r : ℕ) (l : List ℕ) (o : Ordered l) (u : t ≡ value_range * k) (e : r ≡ first_from t l) where
  pub from_there : (test : ℕ → Bool) → lowest_of test k l ≡ lowest_of test k (drop r l)
  from_there test = lowest_on test k l ∙ ap (λ (n : ℕ). lowest_of test k (drop n l)) (ap (λ (x : ℕ). first_from x l) (sym u) ∙ sym e)

-- the entry that the search ends at isn't below t
pub not_below : (t : ℕ) (l : List ℕ) → first_from t l < length l → t ≤ get_or l (first_from t l) 0
not_below t [] h = absurd (not-suc-le-zero h)
not_below t (x ∷ l) h = go (leb t x) refl h (not_below t l)
  where
    go : (b : Bool) → leb t x ≡ b → first_from t (x ∷ l) < length (x ∷ l) → (first_from t l < length l → t ≤ get_or l (first_from t l) 0) →
        t ≤ get_or (x ∷ l) (first_from t (x ∷ l)) 0
    go true e k i = let p : t ≤ x = leb-true t x e in rw (here t x l p) p
    go false e k i =
        let p : x < t = leb-false t x e in
        let q : first_from t (x ∷ l) ≡ suc (first_from t l) = further t x l p in
        rw q (i (omega arith))

-- an entry of the slice
module _ (n j x : ℕ) (s : List ℕ) (h : j < n) (p : x ≡ entry_at j s) where
  entry_is : get_or (entries n s) j 0 ≡ x
  unfolding entry_at
  entry_is = entries_at_lem n j s h ∙ sym p

  pub at_left : (t : ℕ) → t ≤ x → t ≤ get_or (entries n s) j 0
  at_left t e = rw entry_is e

  pub at_right : (t a : ℕ) → Ordered (entries n s) → a ≤ j → x < t →
      first_from t (entries n s) ≡ a + first_from t (drop a (entries n s)) →
      first_from t (entries n s) ≡ j + 1 + first_from t (drop (j + 1) (entries n s))
  at_right t a o k e i =
      let b : get_or (entries n s) j 0 < t = rw entry_is e in
      search_on t a j (entries n s) o k (omega (arith, length_entries n s)) b i

pub search_done : (n t a b : ℕ) (s : List ℕ) → a ≤ b → b ≤ a → b ≤ n → first_from t (entries n s) ≡ a + first_from t (drop a (entries n s)) →
    (b < n → t ≤ get_or (entries n s) b 0) → a ≡ first_from t (entries n s)
search_done n t a b s h k m i f =
    let e : a ≡ b = omega arith in
    let g : n ≡ length (entries n s) = sym (length_entries n s) in
    search_end t a (entries n s) (omega arith) (λ p. rw e (f (omega arith))) i

pub unfold_key : (seq oid : ℕ) → wide (value_range * oid) seq ≡ value_range * key_of seq oid
unfolding wide key_of
unfold_key seq oid = omega arith

-- ## What is read of an entry

pub value_other : (k x : ℕ) → (x / value_range ≡ k → ⊥) → None ≡ value_with k x
unfolding value_with
value_other k x h = rw (ne_eqb (x / value_range) k h)

pub value_same : (k x : ℕ) → x / value_range ≡ k → Some (x % value_range) ≡ value_with k x
unfolding value_with
value_same k x h = rw (eq-eqb (x / value_range) k h)

-- ## The entries of a key, from the first on

taken_key : (k x v : ℕ) → value_with k x ≡ Some v → (x / value_range ≡ k) × (x % value_range ≡ v)
unfolding value_with
taken_key k x v h = go (eqb (x / value_range) k) refl h
  where
    go : (b : Bool) → eqb (x / value_range) k ≡ b → cond b (Some (x % value_range)) None ≡ Some v → (x / value_range ≡ k) × (x % value_range ≡ v)
    go true e f = (eqb-true (x / value_range) k e, same_Some (x % value_range) v f)
    go false e f = absurd (none-some v f)

left_key : (k x : ℕ) → value_with k x ≡ None → x / value_range ≡ k → ⊥
left_key k x h e = none-some (x % value_range) (sym (value_same k x e ∙ h))

module _ (s : List ℕ) (n seq oid r : ℕ) (o : Ordered (entries n s)) (e : r ≡ first_from (wide (value_range * oid) seq) (entries n s)) where
  its_entry : (i : ℕ) → i < n → get_or (entries n s) i 0 ≡ entry_at i s
  unfolding entry_at
  its_entry i h = entries_at_lem n i s h

  inside : (i : ℕ) → i < n → i < length (entries n s)
  inside i h = omega (arith, length_entries n s)

  not_lower : (i : ℕ) → r ≤ i → i < n → key_of seq oid ≤ entry_at i s / value_range
  unfolding Ordered
  not_lower i h k =
      let t : ℕ = wide (value_range * oid) seq in
      let f : first_from t (entries n s) < length (entries n s) = omega (arith, inside i k) in
      let m : t ≤ get_or (entries n s) r 0 = rw e (not_below t (entries n s) f) in
      let u : t ≡ value_range * key_of seq oid = unfold_key seq oid in
      let w : get_or (entries n s) r 0 ≤ get_or (entries n s) i 0 = o r i h (inside i k) in
      let x : value_range * key_of seq oid ≤ entry_at i s = omega (arith, its_entry i k) in
      omega arith

  pub walk_start : (test : ℕ → Bool) → lowest_of test (key_of seq oid) (entries n s) ≡ lowest_of test (key_of seq oid) (drop r (entries n s))
  walk_start test = from_there (key_of seq oid) (wide (value_range * oid) seq) r (entries n s) o (unfold_key seq oid) e test

  module _ (test : ℕ → Bool) (i : ℕ) where
    pub walk_done : n ≤ i → None ≡ lowest_of test (key_of seq oid) (drop i (entries n s))
    walk_done h = walk_end test (key_of seq oid) i (entries n s) o (omega (arith, length_entries n s))

    pub walk_over : r ≤ i → i < n → value_with (key_of seq oid) (entry_at i s) ≡ None → None ≡ lowest_of test (key_of seq oid) (drop i (entries n s))
    walk_over h k v =
        let p : (entry_at i s / value_range ≡ key_of seq oid) → ⊥ = left_key (key_of seq oid) (entry_at i s) v in
        walk_past test (key_of seq oid) i (entries n s) o (inside i k) (rw (its_entry i k) (omega (arith, not_lower i h k, p)))

    pub walk_takes : (v : ℕ) → i < n → value_with (key_of seq oid) (entry_at i s) ≡ Some v → test v ≡ true →
        Some v ≡ lowest_of test (key_of seq oid) (drop i (entries n s))
    walk_takes v k f t =
        let g = taken_key (key_of seq oid) (entry_at i s) v f in
        let x : get_or (entries n s) i 0 % value_range ≡ v = rw (its_entry i k) g.1 in
        ap Some (sym x) ∙ walk_hit test (key_of seq oid) i (entries n s) o (inside i k) (rw (its_entry i k) g.0) (rw x t)

    pub walk_skips : (v : ℕ) → i < n → value_with (key_of seq oid) (entry_at i s) ≡ Some v → test v ≡ false →
        lowest_of test (key_of seq oid) (drop i (entries n s)) ≡ lowest_of test (key_of seq oid) (drop (i + 1) (entries n s))
    walk_skips v k f t =
        let g = taken_key (key_of seq oid) (entry_at i s) v f in
        let x : get_or (entries n s) i 0 % value_range ≡ v = rw (its_entry i k) g.1 in
        walk_next test (key_of seq oid) i (entries n s) o (inside i k) (rw x t)

  -- what the search alone finds
  pub no_entry_lem : n ≤ r → None ≡ lowest (key_of seq oid) (entries n s)
  unfolding lowest
  no_entry_lem h = walk_done always r h ∙ sym (walk_start always)

  pub that_entry : r < n → value_with (key_of seq oid) (entry_at r s) ≡ lowest (key_of seq oid) (entries n s)
  unfolding lowest
  that_entry h = go (value_with (key_of seq oid) (entry_at r s)) refl
    where
      go : (f : Option ℕ) → value_with (key_of seq oid) (entry_at r s) ≡ f → f ≡ lowest_of always (key_of seq oid) (entries n s)
      go None g = walk_over always r (omega arith) h g ∙ sym (walk_start always)
      go (Some v) g = walk_takes always r v h g (passes_always v) ∙ sym (walk_start always)

-- ## The value in the low half

pub value_is_lem : (lo hi : ℕ) → wide lo hi % value_range ≡ lo % value_range
unfolding wide
value_is_lem lo hi = omega arith
