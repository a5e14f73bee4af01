-- The owners file byte by byte: its numbers, its line and where the next one begins. Assumes nothing.
use Prim.Native.Nat.{ℕ, suc, ◌+◌, ◌-◌, ◌*◌, ◌≤◌, ◌<◌}
use mathlib.Core.Path.{◌≡◌, refl, sym, ap, ◌∙◌}
use mathlib.Core.List.{List, [], ◌∷◌}
use mathlib.Core.Bool.{Bool, true, false, cond, ◌&&◌}
use native.Mathlib.Numerals.{add-one}
use native.Mathlib.Omega.{arith}
use lib.ListN.{length, take, drop, get_or, length-drop, drop_of_length-le}
use lib.Seq.{drop-cons, drop-drop, drop-length}
use Rattle.std.proofs.lemmas.List.{take_all}
use Rattle.std.specs.List.{position_or_len}
use lib.Dec.{eqb, leb, ltb}
use Rattle.wire.proofs.Both.{and_first, and_second}
use borrow.Author.Tests.{ltb-true, ltb-false, eq-eqb, ne_eqb, leb-true, le-leb, lt-leb, lt-ltb, le-ltb}
use Rattle.wire.specs.Numbers.{max_word}
use Rattle.intake.specs.Owners.{Number, no_number, number, is_decimal, told, decimal, after_space, third, second, first, until_line, after_line}
use Rattle.std.specs.Prelude.{Option, Some, None}
use Rattle.std.specs.Char.{is_ascii_digit}
use Rattle.intake_close.specs.OwnerLine.{NumberRead, OwnerRead, told_at, number_in, end_of, NumberTold, SpaceTold, owner_in, OwnerTold, LineStops, LineAfter}

-- ## A digit

module _ (b : ℕ) where
  pub digit_is : is_decimal b ≡ is_ascii_digit b
  unfolding is_decimal
  digit_is = refl

  pub decimal_least : is_decimal b ≡ true → 48 ≤ b
  unfolding is_decimal
  decimal_least e = leb-true 48 b (and_first (leb 48 b) (leb b 57) e)

  pub decimal_most : is_decimal b ≡ true → b ≤ 57
  unfolding is_decimal
  decimal_most e = leb-true b 57 (and_second (leb 48 b) (leb b 57) e)

-- ## A number

-- what is left to read of a number
pub left : List ℕ → ℕ → ℕ → ℕ → Number
left l from n at = decimal (ltb from at) n (drop at l)

-- a number that is too wide stays so
wide_told : (s : Bool) (n : ℕ) (l : List ℕ) → max_word < n → told s n l ≡ no_number
unfolding told
wide_told true n l h = rw (lt-leb n max_word h)
wide_told false n l h = refl

wide : (s : Bool) (n : ℕ) (l : List ℕ) → max_word < n → decimal s n l ≡ no_number
unfolding decimal
wide s n [] h = wide_told s n [] h
wide s n (b ∷ l) h = go (is_decimal b) (wide true (10 * n + (b - 48)) l (omega arith)) where
  go : (t : Bool) → decimal true (10 * n + (b - 48)) l ≡ no_number → cond t (decimal true (10 * n + (b - 48)) l) (told s n (b ∷ l)) ≡ no_number
  go true e = e
  go false e = wide_told s n (b ∷ l) h

-- a number that ends at a place
told_is : (l : List ℕ) (from n at : ℕ) → n ≤ max_word → told (ltb from at) n (drop at l) ≡ number_in l (told_at n from at)
unfolding told told_at number_in
told_is l from n at h = rw (le-leb n max_word h) (go (ltb from at)) where
  go : (t : Bool) → cond (t && true) (number n (drop at l)) no_number ≡ number_in l (cond t (Some (n, at)) None)
  go true = refl
  go false = refl

told_end : (n from at m : ℕ) → at ≤ m → end_of (told_at n from at) ≤ m
unfolding told_at end_of
told_end n from at m h = go (ltb from at) where
  go : (t : Bool) → end_of (cond t (Some (n, at)) None) ≤ m
  go true = h
  go false = omega arith

module _ (l : List ℕ) (from : ℕ) where
  pub left_start : decimal false 0 (drop from l) ≡ left l from 0 from
  unfolding left
  left_start = rw (le-ltb from from (omega arith))

  module _ (n at : ℕ) (h : at < length l) where
    left_at : left l from n at ≡ cond (is_decimal (get_or l at 0)) (decimal true (10 * n + (get_or l at 0 - 48)) (drop (suc at) l)) (told (ltb from at) n (drop at l))
    unfolding left decimal
    left_at = rw (drop-cons l at 0 h)

    pub left_next : from ≤ at → is_decimal (get_or l at 0) ≡ true → left l from n at ≡ left l from (10 * n + (get_or l at 0 - 48)) (at + 1)
    unfolding left
    left_next k e = left_at ∙ rw (e, lt-ltb from (at + 1) (omega arith), add-one)

    pub left_wide : is_decimal (get_or l at 0) ≡ true → max_word < 10 * n + (get_or l at 0 - 48) → left l from n at ≡ no_number
    left_wide e k = left_at ∙ rw e (wide true (10 * n + (get_or l at 0 - 48)) (drop (suc at) l) k)

    pub left_other : is_decimal (get_or l at 0) ≡ false → n ≤ max_word → left l from n at ≡ number_in l (told_at n from at)
    left_other e k = left_at ∙ rw e (told_is l from n at k)

  pub left_end : (n at : ℕ) → length l ≤ at → n ≤ max_word → left l from n at ≡ number_in l (told_at n from at)
  unfolding left decimal
  left_end n at h k = rw (drop_of_length-le l h) (ap (told (ltb from at) n) (sym (drop_of_length-le l h)) ∙ told_is l from n at k)

-- what each return says
module _ (l : List ℕ) (from n at : ℕ) (e : decimal false 0 (drop from l) ≡ left l from n at) where
  pub told_other : (r : NumberRead) → at < length l → is_decimal (get_or l at 0) ≡ false → n ≤ max_word → r ≡ told_at n from at → NumberTold l from r
  told_other r h d k q = rw q (record { number = e ∙ left_other l from n at h d k; within = told_end n from at (length l) (omega arith) })

  pub told_wide : at < length l → is_decimal (get_or l at 0) ≡ true → max_word < 10 * n + (get_or l at 0 - 48) → NumberTold l from None
  unfolding number_in end_of
  told_wide h d k = record { number = e ∙ left_wide l from n at h d k; within = omega arith }

  pub told_last : (r : NumberRead) → at ≤ length l → length l ≤ at → n ≤ max_word → r ≡ told_at n from (length l) → NumberTold l from r
  told_last r h g k q =
      let z : length l ≡ at = omega arith in
      rw (q, z) (record { number = e ∙ left_end l from n at g k; within = told_end n from at (length l) h })

pub told_none : (n from at : ℕ) → at ≡ from → None ≡ told_at n from at
unfolding told_at
told_none n from at e = rw (le-ltb from at (omega arith))

pub told_some : (n from at : ℕ) → from ≤ at → (at ≡ from → ⊥) → Some (n, at) ≡ told_at n from at
unfolding told_at
told_some n from at h e = rw (lt-ltb from at (omega arith))

-- ## After a space

module _ (l : List ℕ) (at : ℕ) where
  pub space_none : length l ≤ at → SpaceTold l at None
  unfolding number_in end_of after_space
  space_none h = record { number = rw (drop_of_length-le l h); within = omega arith }

  module _ (h : at < length l) where
    pub space_other : (get_or l at 0 ≡ 32 → ⊥) → SpaceTold l at None
    unfolding number_in end_of after_space
    space_other e = record { number = rw (drop-cons l at 0 h, ne_eqb (get_or l at 0) 32 e); within = omega arith }

    pub space_number : (r : NumberRead) → get_or l at 0 ≡ 32 → NumberTold l (at + 1) r → SpaceTold l at r
    unfolding after_space
    space_number r e t = record { number = rw (drop-cons l at 0 h, eq-eqb (get_or l at 0) 32 e, ← add-one at) t.number; within = t.within }

-- ## The three numbers

-- what is read from the third number on, and from the second on
pub record GidTold (l : List ℕ) (u g at : ℕ) (r : OwnerRead) : Type 0 where
  pub owner : (after : List ℕ) → third u g after (after_space (drop at l)) ≡ owner_in after r

pub record UidTold (l : List ℕ) (u at : ℕ) (r : OwnerRead) : Type 0 where
  pub owner : (after : List ℕ) → second u after (after_space (drop at l)) ≡ owner_in after r

module _ (l : List ℕ) (u g at : ℕ) (x : NumberRead) (t : SpaceTold l at x) where
  pub gid_none : x ≡ None → GidTold l u g at None
  unfolding number_in third owner_in
  gid_none e = record { owner = λ after. rw (t.number, e) }

  pub gid_last : (i end : ℕ) → x ≡ Some (i, end) → end ≡ length l → GidTold l u g at (Some (u, g, i))
  unfolding number_in third owner_in
  gid_last i end e q = record { owner = λ after. rw (t.number, e, q, drop-length l) }

  pub gid_more : (i end : ℕ) → x ≡ Some (i, end) → (end ≡ length l → ⊥) → GidTold l u g at None
  unfolding number_in third owner_in end_of
  gid_more i end e q =
      let w : end ≤ length l = let z : end_of x ≤ length l = t.within in rw e at z in
      record { owner = λ after. rw (t.number, e, drop-cons l end 0 (omega arith)) }

module _ (l : List ℕ) (u at : ℕ) (x : NumberRead) (t : SpaceTold l at x) where
  pub uid_none : x ≡ None → UidTold l u at None
  unfolding number_in second owner_in
  uid_none e = record { owner = λ after. rw (t.number, e) }

  pub uid_more : (g end : ℕ) (r : OwnerRead) → x ≡ Some (g, end) → GidTold l u g end r → UidTold l u at r
  unfolding number_in second
  uid_more g end r e z = record { owner = λ after. rw (t.number, e) (z.owner after) }

module _ (l : List ℕ) (x : NumberRead) (t : NumberTold l 0 x) where
  pub owner_none : x ≡ None → OwnerTold l None
  unfolding number_in first owner_in
  owner_none e = record { owner = λ after. ap (first after) t.number ∙ rw e }

  pub owner_more : (u end : ℕ) (r : OwnerRead) → x ≡ Some (u, end) → UidTold l u end r → OwnerTold l r
  unfolding number_in first
  owner_more u end r e z = record { owner = λ after. ap (first after) t.number ∙ rw e (z.owner after) }

-- where a number that was read ends
pub ends_within : (m : ℕ) (x : NumberRead) (n end : ℕ) → end_of x ≤ m → x ≡ Some (n, end) → end ≤ m
unfolding end_of
ends_within m x n end h e = rw e at h

-- ## The line

-- how many bytes stand before a line's end
abbrev pub line_long : List ℕ → ℕ
line_long l = position_or_len (λ b. eqb b 10) l

until_long : (l : List ℕ) → until_line l ≡ take (line_long l) l
unfolding until_line
until_long [] = refl
until_long (b ∷ l) = go (eqb b 10) refl (until_long l)
  where
    go : (t : Bool) → eqb b 10 ≡ t → until_line l ≡ take (line_long l) l → until_line (b ∷ l) ≡ take (line_long (b ∷ l)) (b ∷ l)
    go true e q = rw e
    go false e q = let k : 1 + line_long l ≡ suc (line_long l) = omega arith in rw (e, q, k)

after_long : (l : List ℕ) → after_line l ≡ drop (suc (line_long l)) l
unfolding after_line
after_long [] = refl
after_long (b ∷ l) = go (eqb b 10) refl (after_long l)
  where
    go : (t : Bool) → eqb b 10 ≡ t → after_line l ≡ drop (suc (line_long l)) l → after_line (b ∷ l) ≡ drop (suc (line_long (b ∷ l))) (b ∷ l)
    go true e q = rw e
    go false e q = let k : 1 + line_long l ≡ suc (line_long l) = omega arith in rw (e, q, k)

nothing_not : (n : ℕ) → ◌≡◌ {A = Option ℕ} (Some n) None → ⊥
nothing_not n e = let z : ◌≡◌ {A = ℕ} 0 1 = cc e in omega (arith, z)

found_cases : (p m n : ℕ) (b : Bool) → ltb p m ≡ b → Some n ≡ cond b (Some p) None → (n ≡ p) × (p < m)
found_cases p m n true e h = (cc h, ltb-true p m e)
found_cases p m n false e h = absurd (nothing_not n h)

none_cases : (p m : ℕ) (b : Bool) → ltb p m ≡ b → None ≡ cond b (Some p) None → m ≤ p
none_cases p m true e h = absurd (nothing_not p (sym h))
none_cases p m false e h = ltb-false p m e

module _ (s : List ℕ) (from : ℕ) (h : from ≤ length s) where
  pub rest_whole : take (length s - from) (drop from s) ≡ drop from s
  rest_whole = let n = length-drop from s in take_all (length s - from) (drop from s) (omega (arith, n))

  pub stops_found : (n : ℕ) → Some n ≡ cond (ltb (line_long (drop from s)) (length (drop from s))) (Some (line_long (drop from s))) None → LineStops s from (from + n)
  stops_found n e =
      let l : List ℕ = drop from s in
      let p = found_cases (line_long l) (length l) n (ltb (line_long l) (length l)) refl e in
      let z : from + n - from ≡ line_long l = omega (arith, p.0) in
      let k : suc (from + n) ≡ from + suc (line_long l) = omega (arith, p.0) in
      record {
        least = omega arith;
        within = omega (arith, p.0, p.1, length-drop from s);
        line = rw z (until_long l);
        after = after_long l ∙ rw (drop-drop (suc (line_long l)) from s, k);
      }

  pub stops_end : None ≡ cond (ltb (line_long (drop from s)) (length (drop from s))) (Some (line_long (drop from s))) None → LineStops s from (length s)
  stops_end e =
      let l : List ℕ = drop from s in
      let p : length l ≤ line_long l = none_cases (line_long l) (length l) (ltb (line_long l) (length l)) refl e in
      record {
        least = h;
        within = omega arith;
        line = until_long l ∙ take_all (line_long l) l p ∙ sym rest_whole;
        after = after_long l ∙ drop_of_length-le l {i = suc (line_long l)} (omega arith) ∙ sym (drop_of_length-le s {i = suc (length s)} (omega arith));
      }

module _ (s : List ℕ) (from : ℕ) where
  pub after_next : (end : ℕ) → LineStops s from end → end < length s → LineAfter s from (end + 1)
  after_next end g h = record { least = omega (arith, g.least); within = omega arith; after = g.after ∙ rw add-one }

  pub after_last : (end : ℕ) → LineStops s from end → length s ≤ end → LineAfter s from end
  after_last end g h =
      let z : drop (suc end) s ≡ [] = drop_of_length-le s {i = suc end} (omega arith) in
      record { least = g.least; within = g.within; after = g.after ∙ rw (z, drop_of_length-le s h) }
