-- Laws of records that are handed in as numbers: the tests case by case, one record and all of them. Assumes nothing.
use mathlib.Core.Path.{◌≡◌, refl, sym, ap, ◌∙◌}
use mathlib.Core.List.{List, [], ◌∷◌, map}
use mathlib.Core.Bool.{Bool, true, false, cond, not, ◌||◌}
use Prim.Native.Nat.{ℕ, zero, suc, ◌+◌, ◌-◌, ◌*◌, ◌≤◌, ◌<◌}
use borrow.Author.Tests.{lt-ltb, le-ltb, ltb-false, eq-eqb, ne_eqb, eqb-false}
use native.Mathlib.Omega.{arith}
use lib.Dec.{ltb}
use lib.ListN.{length, take, drop, get_or, length-append, length-drop}
use lib.Seq.{length-take-le}
use Rattle.std.specs.Prelude.{Option, Some, None, is_some}
use Rattle.wire.specs.Numbers.{max_word}
use Rattle.fid.specs.declared.MdtFid.{MdtFid}
use Rattle.linkea.specs.Link.{name_at, encode_links}
use Rattle.linkea.specs.Conditions.{some, bad_byte}
use Rattle.linkea.proofs.PlaceLaws.{or_first, or_second}
use Rattle.linkea_write.specs.Writer.{link_numbers, number_of, parent_given, start_given, size_given, link_given, upward, bytes_given, wide_parent, empty_name, longest_record, long_record, name_outside, bad_name_given, bad_given}
use Rattle.linkea_write.proofs.LinkLaws.{length_link}

-- ## One record

-- its numbers, where they stand
abbrev pub id_of : List ℕ → ℕ → ℕ
id_of numbers j = get_or numbers (link_numbers * j + 1) 0

abbrev pub version_of : List ℕ → ℕ → ℕ
version_of numbers j = get_or numbers (link_numbers * j + 2) 0

abbrev pub start_of : List ℕ → ℕ → ℕ
start_of numbers j = get_or numbers (link_numbers * j + 3) 0

abbrev pub size_of : List ℕ → ℕ → ℕ
size_of numbers j = get_or numbers (link_numbers * j + 4) 0

module _ (numbers : List ℕ) (j : ℕ) where
  pub parent_fits : wide_parent numbers j ≡ false → (id_of numbers j ≤ max_word) × (version_of numbers j ≤ max_word)
  unfolding wide_parent number_of
  parent_fits h =
      let a : Bool = ltb max_word (id_of numbers j) in
      let b : Bool = ltb max_word (version_of numbers j) in
      (ltb-false max_word (id_of numbers j) (or_first a b h), ltb-false max_word (version_of numbers j) (or_second a b h))

  pub narrow_parent : id_of numbers j ≤ max_word → version_of numbers j ≤ max_word → wide_parent numbers j ≡ false
  unfolding wide_parent number_of
  narrow_parent h k = rw (le-ltb max_word (id_of numbers j) h, le-ltb max_word (version_of numbers j) k)

-- a parent is given, or it is too wide
wide_is : (w b : Bool) (p : MdtFid) (o : Option MdtFid) → o ≡ cond w None (Some p) → is_some o ≡ not b → w ≡ b
wide_is true true p o e h = refl
wide_is true false p o e h = sym h ∙ ap is_some e
wide_is false true p o e h = sym h ∙ ap is_some e
wide_is false false p o e h = refl

module _ (numbers : List ℕ) (j : ℕ) (o : Option MdtFid) (e : o ≡ cond (wide_parent numbers j) None (Some (parent_given numbers j))) where
  pub wide_none : (b : Bool) → is_some o ≡ not b → wide_parent numbers j ≡ b
  wide_none b h = wide_is (wide_parent numbers j) b (parent_given numbers j) o e h

  pub narrow_some : wide_parent numbers j ≡ false → o ≡ Some (parent_given numbers j)
  narrow_some h = rw h at e

module _ (numbers names : List ℕ) (j : ℕ) where
  pub bad_parent : wide_parent numbers j ≡ true → true ≡ bad_given numbers names j
  unfolding bad_given
  bad_parent w = rw w

  module _ (w : wide_parent numbers j ≡ false) where
    pub bad_empty : size_of numbers j ≡ 0 → true ≡ bad_given numbers names j
    unfolding bad_given empty_name size_given number_of
    bad_empty e = rw (w, eq-eqb (size_of numbers j) 0 e)

    module _ (n : size_of numbers j ≡ 0 → ⊥) where
      pub bad_long : longest_record < name_at + size_of numbers j → true ≡ bad_given numbers names j
      unfolding bad_given empty_name long_record size_given number_of
      bad_long h = rw (w, ne_eqb (size_of numbers j) 0 n, lt-ltb longest_record (name_at + size_of numbers j) h)

      module _ (s : name_at + size_of numbers j ≤ longest_record) where
        pub bad_outside : length names < start_of numbers j + size_of numbers j → true ≡ bad_given numbers names j
        unfolding bad_given empty_name long_record name_outside start_given size_given number_of
        bad_outside h =
            rw (
              w,
              ne_eqb (size_of numbers j) 0 n,
              le-ltb longest_record (name_at + size_of numbers j) s,
              lt-ltb (length names) (start_of numbers j + size_of numbers j) h,
            )

        pub bad_name_lem : (r : Bool) → start_of numbers j + size_of numbers j ≤ length names →
            r ≡ some bad_byte (take (start_of numbers j + size_of numbers j - start_of numbers j) (drop (start_of numbers j) names)) →
            r ≡ bad_given numbers names j
        unfolding bad_given empty_name long_record name_outside bad_name_given link_given start_given size_given number_of
        bad_name_lem r h e =
            let z : start_of numbers j + size_of numbers j - start_of numbers j ≡ size_of numbers j = omega arith in
            rw (
              w,
              ne_eqb (size_of numbers j) 0 n,
              le-ltb longest_record (name_at + size_of numbers j) s,
              le-ltb (length names) (start_of numbers j + size_of numbers j) h,
            )
            (rw z at e)

-- what is known of a record that the writer takes
pub record TakenFacts (numbers names : List ℕ) (j : ℕ) : Type 0 where
  pub parent : wide_parent numbers j ≡ false
  pub id : id_of numbers j ≤ max_word
  pub version : version_of numbers j ≤ max_word
  pub named : 1 ≤ size_of numbers j
  pub short : name_at + size_of numbers j ≤ longest_record
  pub inside : start_of numbers j + size_of numbers j ≤ length names
  pub clean : some bad_byte (link_given numbers names j).name ≡ false

pub taken_facts : (numbers names : List ℕ) (j : ℕ) → bad_given numbers names j ≡ false → TakenFacts numbers names j
unfolding bad_given empty_name long_record name_outside bad_name_given start_given size_given number_of
taken_facts numbers names j h =
    let a : Bool = wide_parent numbers j in
    let b : Bool = empty_name numbers j in
    let c : Bool = long_record numbers j in
    let d : Bool = name_outside numbers names j in
    let x : Bool = bad_name_given numbers names j in
    let abcd : (a || b || c || d) ≡ false = or_first (a || b || c || d) x h in
    let abc : (a || b || c) ≡ false = or_first (a || b || c) d abcd in
    let ab : (a || b) ≡ false = or_first (a || b) c abc in
    let p = parent_fits numbers j (or_first a b ab) in
    let e = eqb-false (size_of numbers j) 0 (or_second a b ab) in
    record {
      parent = or_first a b ab;
      id = p.0;
      version = p.1;
      named = positive (size_of numbers j) e;
      short = ltb-false longest_record (name_at + size_of numbers j) (or_second (a || b) c abc);
      inside = ltb-false (length names) (start_of numbers j + size_of numbers j) (or_second (a || b || c) d abcd);
      clean = or_second (a || b || c || d) x h;
    }
  where
    positive : (n : ℕ) → (n ≡ 0 → ⊥) → 1 ≤ n
    positive n e = omega (arith, e)

pub facts_taken : (numbers names : List ℕ) (j : ℕ) → TakenFacts numbers names j → bad_given numbers names j ≡ false
unfolding bad_given empty_name long_record name_outside bad_name_given start_given size_given number_of
facts_taken numbers names j t =
    let s : ℕ = size_of numbers j in
    let n = t.named in
    rw (
      t.parent,
      ne_eqb s 0 (λ e. omega arith),
      le-ltb longest_record (name_at + s) t.short,
      le-ltb (length names) (start_of numbers j + s) t.inside,
    )
    t.clean

pub length_name : (numbers names : List ℕ) (j : ℕ) → bad_given numbers names j ≡ false → length (link_given numbers names j).name ≡ size_of numbers j
unfolding link_given start_given size_given number_of
length_name numbers names j h =
    let t = taken_facts numbers names j h in
    length-take-le (size_of numbers j) (drop (start_of numbers j) names) (rw length-drop (omega arith))

-- ## All of them

-- a condition that implies another
none_less : (test other : ℕ → Bool) → ((i : ℕ) → test i ≡ false → other i ≡ false) → (ns : List ℕ) → some test ns ≡ false → some other ns ≡ false
unfolding some
none_less test other t [] h = refl
none_less test other t (n ∷ ns) h =
    rw (t n (or_first (test n) (some test ns) h), none_less test other t ns (or_second (test n) (some test ns) h))

not_long : (numbers names : List ℕ) (j : ℕ) → bad_given numbers names j ≡ false → long_record numbers j ≡ false
unfolding long_record size_given number_of
not_long numbers names j h = le-ltb longest_record (name_at + size_of numbers j) (taken_facts numbers names j h).short

pub none_long : (numbers names : List ℕ) (n : ℕ) → some (bad_given numbers names) (upward n 0) ≡ false → some (long_record numbers) (upward n 0) ≡ false
none_long numbers names n h = none_less (bad_given numbers names) (long_record numbers) (not_long numbers names) (upward n 0) h

-- ## Their bytes

pub length_links : (numbers names : List ℕ) (n j : ℕ) → some (bad_given numbers names) (upward n j) ≡ false →
    length (encode_links (map (link_given numbers names) (upward n j))) ≡ bytes_given numbers n j
unfolding upward encode_links bytes_given some size_given number_of
length_links numbers names zero j h = refl
length_links numbers names (suc n) j h =
    let a = or_first (bad_given numbers names j) (some (bad_given numbers names) (upward n (suc j))) h in
    let b = or_second (bad_given numbers names j) (some (bad_given numbers names) (upward n (suc j))) h in
    rw (length-append, length_link (link_given numbers names j), length_name numbers names j a, length_links numbers names n (suc j) b)

pub length_upward : (n j : ℕ) → length (upward n j) ≡ n
unfolding upward
length_upward zero j = refl
length_upward (suc n) j = ap suc (length_upward n (suc j))
