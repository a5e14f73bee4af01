-- What the machine says at a line's end, read off the lent bytes. Assumes nothing.
use Prim.Native.Nat.{ℕ, ◌+◌, ◌-◌, ◌≤◌, ◌<◌}
use mathlib.Core.Path.{◌≡◌, refl, sym, ap, subst, ◌∙◌}
use mathlib.Core.List.{List, [], ◌∷◌}
use mathlib.Core.Bool.{Bool, true, false, cond}
use native.Mathlib.Omega.{arith}
use lib.ListN.{length, take, drop, length-take, length-drop}
use lib.Dec.{eqb}
use borrow.Author.Tests.{ne_eqb}
use denote.Enum.Bare.{sameb}
use Rattle.intake.specs.contracts.Kind.{the_type}
use Rattle.intake.specs.declared.Kind.{Kind}
use Rattle.intake.specs.declared.Kind.TheVariants.{Lov, Fid, Lma, Other}
use Rattle.intake_bytes.specs.declared.Half.{Half}
use Rattle.intake_bytes.specs.declared.Half.TheVariants.{Even, Odd, Broken}
use Rattle.intake_bytes.specs.declared.Unfinished.{Unfinished}
use Rattle.intake_line.specs.declared.Said.TheVariants.{Opens, Closes, Skipped, Bad, Takes}
use Rattle.intake.specs.Says.{Value, wrong, opens, closes, skipped, bad, takes, starts, file_word, trusted_word, value_word, kind_of, good_size, sized, attribute, is_empty, judge}
use Rattle.intake.specs.Machine.{value_of, line_end}
use Rattle.intake_bytes.specs.Lent.{kept_in, digits_of, digits_in, partial_in}
use Rattle.intake_line.specs.Ending.{is_other, value_is}
use Rattle.intake_bytes.proofs.StartsLaws.{starts_short}

-- ## Over a head and a value

module _ (h : List ℕ) (y : Value) (n : is_empty h ≡ false) where
  judge_opens : starts file_word h ≡ true → opens ≡ judge h y
  unfolding judge
  judge_opens a = rw (n, a)

  module _ (f : starts file_word h ≡ false) where
    judge_bad : starts trusted_word h ≡ false → bad ≡ judge h y
    unfolding judge
    judge_bad a = rw (n, f, a)

    judge_attribute : starts trusted_word h ≡ true → attribute (kind_of h) (drop 11 h) y ≡ judge h y
    unfolding judge
    judge_attribute a = rw (n, f, a)

-- the derived `==` tells it
pub other_is : (k : Kind) → is_other k ≡ sameb the_type k Other
unfolding is_other
other_is Lov = refl
other_is Fid = refl
other_is Lma = refl
other_is Other = refl

is_skipped : (k : Kind) (a : List ℕ) (y : Value) → is_other k ≡ true → skipped ≡ attribute k a y
unfolding is_other attribute
is_skipped Lov a y e = let z : ◌≡◌ {A = ℕ} 0 1 = cc in absurd (omega arith)
is_skipped Fid a y e = let z : ◌≡◌ {A = ℕ} 0 1 = cc in absurd (omega arith)
is_skipped Lma a y e = let z : ◌≡◌ {A = ℕ} 0 1 = cc in absurd (omega arith)
is_skipped Other a y e = refl

is_valued : (k : Kind) (a : List ℕ) (y : Value) → is_other k ≡ false → cond (starts value_word a) (sized k y) bad ≡ attribute k a y
unfolding is_other attribute
is_valued Lov a y e = refl
is_valued Fid a y e = refl
is_valued Lma a y e = refl
is_valued Other a y e = let z : ◌≡◌ {A = ℕ} 0 1 = cc in absurd (omega arith)

-- digits that don't end with a whole byte are no value
odd_value : (half : Half) (size : ℕ) (v : List ℕ) → (half ≡ Even → ⊥) → value_is half size v ≡ wrong
unfolding value_is
odd_value Even size v e = absurd (e refl)
odd_value (Odd h) size v e = refl
odd_value Broken size v e = refl

-- ## What is said of a head, where the value is v

module _ (h : List ℕ) (half : Half) (size : ℕ) (v : List ℕ) where
  not_empty : (length h ≡ 0 → ⊥) → is_empty h ≡ false
  unfolding is_empty
  not_empty = go h where
    go : (l : List ℕ) → (length l ≡ 0 → ⊥) → is_empty l ≡ false
    go [] f = absurd (f refl)
    go (b ∷ l) f = refl

  pub ends_empty : length h ≡ 0 → closes ≡ judge h (value_is half size v)
  unfolding judge is_empty
  ends_empty = go h where
    go : (l : List ℕ) → length l ≡ 0 → closes ≡ judge l (value_is half size v)
    go [] e = refl
    go (b ∷ l) e = absurd (omega arith)

  module _ (some : length h ≡ 0 → ⊥) where
    pub ends_opens : starts file_word h ≡ true → opens ≡ judge h (value_is half size v)
    ends_opens a = judge_opens h (value_is half size v) (not_empty some) a

    module _ (f : starts file_word h ≡ false) where
      pub ends_bad : starts trusted_word h ≡ false → bad ≡ judge h (value_is half size v)
      ends_bad a = judge_bad h (value_is half size v) (not_empty some) f a

      module _ (t : starts trusted_word h ≡ true) (k : Kind) (q : k ≡ kind_of h) where
        by_kind : attribute k (drop 11 h) (value_is half size v) ≡ judge h (value_is half size v)
        by_kind = ap (λ (z : Kind). attribute z (drop 11 h) (value_is half size v)) q ∙ judge_attribute h (value_is half size v) (not_empty some) f t

        pub ends_skipped : is_other k ≡ true → skipped ≡ judge h (value_is half size v)
        ends_skipped o = is_skipped k (drop 11 h) (value_is half size v) o ∙ by_kind

        module _ (o : is_other k ≡ false) where
          valued : (b : Bool) → b ≡ starts value_word (drop 11 h) → cond b (sized k (value_is half size v)) bad ≡ judge h (value_is half size v)
          valued b e = ap (λ (z : Bool). cond z (sized k (value_is half size v)) bad) e ∙ is_valued k (drop 11 h) (value_is half size v) o ∙ by_kind

          pub ends_short : length h < 14 → bad ≡ judge h (value_is half size v)
          ends_short e = valued false (starts_short value_word (drop 11 h) (rw length-drop (omega arith)))

          pub ends_unmarked : starts value_word (drop 11 h) ≡ false → bad ≡ judge h (value_is half size v)
          ends_unmarked a = valued false (sym a)

          module _ (a : starts value_word (drop 11 h) ≡ true) where
            pub ends_odd : (half ≡ Even → ⊥) → bad ≡ judge h (value_is half size v)
            unfolding sized
            ends_odd e = ap (sized k) (sym (odd_value half size v e)) ∙ valued true (sym a)

            even_value : half ≡ Even → cond (good_size k size) (takes k size v) bad ≡ judge h (value_is half size v)
            unfolding sized value_is
            even_value e = ap (λ (z : Half). sized k (value_is z size v)) (sym e) ∙ valued true (sym a)

            pub ends_taken : half ≡ Even → good_size k size ≡ true → takes k size v ≡ judge h (value_is half size v)
            ends_taken e g = ap (λ (z : Bool). cond z (takes k size v) bad) (sym g) ∙ even_value e

            pub ends_unfit : half ≡ Even → good_size k size ≡ false → bad ≡ judge h (value_is half size v)
            ends_unfit e g = ap (λ (z : Bool). cond z (takes k size v) bad) (sym g) ∙ even_value e

-- ## Over the lent bytes

value_is_lem : (buf : List ℕ) (x : Unfinished) → value_is x.half x.size (kept_in buf x) ≡ value_of (digits_in buf x)
unfolding digits_in digits_of value_of value_is
value_is_lem buf x = go x.half where
  go : (h : Half) → value_is h x.size (kept_in buf x) ≡ value_of (digits_of h x.size (kept_in buf x))
  go Even = refl
  go (Odd h) = refl
  go Broken = refl

-- the head as a part of the lent bytes
pub ends_lent : (buf : List ℕ) (x : Unfinished) → judge (take (128 + x.seen - 128) (drop 128 buf)) (value_is x.half x.size (kept_in buf x)) ≡ line_end (partial_in buf x)
unfolding line_end partial_in
ends_lent buf x =
    let e : 128 + x.seen - 128 ≡ x.seen = omega arith in
    ap (λ (n : ℕ). judge (take n (drop 128 buf)) (value_is x.half x.size (kept_in buf x))) e ∙ ap (judge (take x.seen (drop 128 buf))) (value_is_lem buf x)

-- "lma has 24 bytes, fid 16 or 32; lov any number"
module _ (k : Kind) (n : ℕ) where
  pub size_lov : k ≡ Lov → true ≡ good_size k n
  unfolding good_size
  size_lov e = rw e

  pub size_fid : k ≡ Fid → n ≡ 16 → true ≡ good_size k n
  unfolding good_size
  size_fid e h = rw (e, h)

  pub size_old : k ≡ Fid → (n ≡ 16 → ⊥) → eqb n 32 ≡ good_size k n
  unfolding good_size
  size_old e h = rw (e, ne_eqb n 16 h)

  pub size_lma : k ≡ Lma → eqb n 24 ≡ good_size k n
  unfolding good_size
  size_lma e = rw e

  pub size_other : k ≡ Other → false ≡ good_size k n
  unfolding good_size
  size_other e = rw e

-- ## Which answers take a value

module _ (k : Kind) where
  pub opens_not : Opens ≡ Takes k → ⊥
  opens_not e = let z : ◌≡◌ {A = ℕ} 0 1 = cc in omega arith

  pub closes_not : Closes ≡ Takes k → ⊥
  closes_not e = let z : ◌≡◌ {A = ℕ} 0 1 = cc in omega arith

  pub skipped_not : Skipped ≡ Takes k → ⊥
  skipped_not e = let z : ◌≡◌ {A = ℕ} 0 1 = cc in omega arith

  pub bad_not : Bad ≡ Takes k → ⊥
  bad_not e = let z : ◌≡◌ {A = ℕ} 0 1 = cc in omega arith

  pub takes_same : (j : Kind) → Takes j ≡ Takes k → k ≡ j
  takes_same j e = cc

pub ends_whole : (buf : List ℕ) (x : Unfinished) (k : Kind)
    → (14 ≤ length (take (128 + x.seen - 128) (drop 128 buf))) × (k ≡ kind_of (take (128 + x.seen - 128) (drop 128 buf))) × (good_size k x.size ≡ true)
    → (14 ≤ x.seen) × (k ≡ kind_of (take x.seen (drop 128 buf))) × (good_size k x.size ≡ true)
ends_whole buf x k h =
    let e : 128 + x.seen - 128 ≡ x.seen = omega arith in
    let w : (14 ≤ length (take x.seen (drop 128 buf))) × (k ≡ kind_of (take x.seen (drop 128 buf))) =
    subst (λ (n : ℕ). (14 ≤ length (take n (drop 128 buf))) × (k ≡ kind_of (take n (drop 128 buf)))) e (h.0, h.1) in
    (omega (arith, w.0, length-take x.seen (drop 128 buf)), w.1, h.2)
