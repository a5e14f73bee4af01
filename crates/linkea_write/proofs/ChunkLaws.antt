-- The records handed in, each as its five numbers: what holds of them, one by one and all together. Assumes nothing.
use Rattle.std.proofs.Common.{ℕ, zero, suc, ◌≡◌, ◌+◌, ◌-◌, ◌*◌, ◌/◌, ◌≤◌, ◌<◌, Bool, false, List, [], ◌∷◌, ◌++◌, length, take, drop, get_or, map, refl, sym, ap, ◌∙◌, arith, sum_by}
use Rattle.std.specs.List.{list_any}
use Rattle.std.specs.Simd.{first_chunks}
use Rattle.std.proofs.lemmas.List.{get_or-drop, get_or-take, take_all}
use Rattle.std.proofs.lemmas.List.Sums.{sum_by-cons}
use Rattle.std.proofs.Math.Seq.{take-suc}
use mathlib.Core.List.{append-nil, map-append}
use borrow.Author.Tests.{ltb-false}
use borrow.Rule.Slice.PartMut.{put_mid}
use native.Mathlib.Numerals.{add-one}
use lib.ListN.{length-append}
use lib.Seq.{sets}
use Rattle.wire.proofs.Splice.{sets_at, put_sets}
use Rattle.linkea.specs.Link.{Link, link_header, name_at, encode_link, encode_links}
use Rattle.linkea.specs.Conditions.{some}
use Rattle.linkea.proofs.PlaceLaws.{or_first, or_second}
use Rattle.linkea_write.specs.Writer.{link_numbers, number_of, start_given, size_given, parent_given, link_given, upward, bytes_given, wide_parent, empty_name, longest_record, long_record, name_outside, bad_name_given, bad_given}
use Rattle.linkea_write.proofs.LinkLaws.{length_link, links_append}
use Rattle.linkea_write.proofs.GivenLaws.{length_name}

-- ## Five numbers

module _ (xs : List ℕ) (j k : ℕ) where
  -- of the first record
  first_number : k < link_numbers → number_of (take link_numbers xs) 0 k ≡ number_of xs 0 k
  unfolding number_of
  first_number h = get_or-take link_numbers xs (link_numbers * 0 + k) 0 (omega arith)

  -- of those after it
  later_number : number_of (drop link_numbers xs) j k ≡ number_of xs (suc j) k
  unfolding number_of
  later_number =
      let e : link_numbers + (link_numbers * j + k) ≡ link_numbers * suc j + k = omega arith in
      get_or-drop link_numbers xs (link_numbers * j + k) 0 ∙ ap (λ i. get_or xs i 0) e

module _ (xs names : List ℕ) where
  first_size : size_given (take link_numbers xs) 0 ≡ size_given xs 0
  unfolding size_given
  first_size = first_number xs 0 4 (omega arith)

  first_link : link_given (take link_numbers xs) names 0 ≡ link_given xs names 0
  unfolding link_given parent_given start_given size_given
  first_link =
      rw (first_number xs 0 0 (omega arith), first_number xs 0 1 (omega arith), first_number xs 0 2 (omega arith), first_number xs 0 3 (omega arith), first_number xs 0 4 (omega arith))

  first_bad : bad_given (take link_numbers xs) names 0 ≡ bad_given xs names 0
  unfolding bad_given wide_parent empty_name long_record name_outside bad_name_given start_given size_given
  first_bad =
      rw (first_link, first_number xs 0 1 (omega arith), first_number xs 0 2 (omega arith), first_number xs 0 3 (omega arith), first_number xs 0 4 (omega arith))

module _ (xs names : List ℕ) (j : ℕ) where
  later_size : size_given (drop link_numbers xs) j ≡ size_given xs (suc j)
  unfolding size_given
  later_size = later_number xs j 4

  later_link : link_given (drop link_numbers xs) names j ≡ link_given xs names (suc j)
  unfolding link_given parent_given start_given size_given
  later_link = rw (later_number xs j 0, later_number xs j 1, later_number xs j 2, later_number xs j 3, later_number xs j 4)

  later_bad : bad_given (drop link_numbers xs) names j ≡ bad_given xs names (suc j)
  unfolding bad_given wide_parent empty_name long_record name_outside bad_name_given start_given size_given
  later_bad = rw (later_link, later_number xs j 1, later_number xs j 2, later_number xs j 3, later_number xs j 4)

-- ## All of them

later_some : (n : ℕ) (xs names : List ℕ) (j : ℕ) → some (bad_given (drop link_numbers xs) names) (upward n j) ≡ some (bad_given xs names) (upward n (suc j))
unfolding some upward
later_some zero xs names j = refl
later_some (suc n) xs names j = rw (later_bad xs names j, later_some n xs names (suc j))

later_bytes : (n : ℕ) (xs : List ℕ) (j : ℕ) → bytes_given (drop link_numbers xs) n j ≡ bytes_given xs n (suc j)
unfolding bytes_given
later_bytes zero xs j = refl
later_bytes (suc n) xs j = rw (later_size xs [] j, later_bytes n xs (suc j))

later_links : (n : ℕ) (xs names : List ℕ) (j : ℕ) → map (link_given (drop link_numbers xs) names) (upward n j) ≡ map (link_given xs names) (upward n (suc j))
unfolding upward
later_links zero xs names j = refl
later_links (suc n) xs names j = rw (later_link xs names j, later_links n xs names (suc j))

pub each_bad : (n : ℕ) (xs names : List ℕ) → list_any (λ g. bad_given g names 0) (first_chunks link_numbers n xs) ≡ some (bad_given xs names) (upward n 0)
unfolding some upward
each_bad zero xs names = refl
each_bad (suc n) xs names = rw (first_bad xs names, each_bad n (drop link_numbers xs) names, later_some n xs names 0)

pub each_bytes : (n : ℕ) (xs : List ℕ) → sum_by (λ g. name_at + size_given g 0) (first_chunks link_numbers n xs) ≡ bytes_given xs n 0
unfolding bytes_given
each_bytes zero xs = refl
each_bytes (suc n) xs =
    sum_by-cons (λ g. name_at + size_given g 0) (take link_numbers xs) (first_chunks link_numbers n (drop link_numbers xs))
    ∙ rw (first_size xs [], each_bytes n (drop link_numbers xs), later_bytes n xs 0)

pub each_link : (n : ℕ) (xs names : List ℕ) → map (λ g. link_given g names 0) (first_chunks link_numbers n xs) ≡ map (link_given xs names) (upward n 0)
unfolding upward
each_link zero xs names = refl
each_link (suc n) xs names = rw (first_link xs names, each_link n (drop link_numbers xs) names, later_links n xs names 0)

-- ## How long they are

-- records none of which is too long
pub bytes_small : (n : ℕ) (xs : List ℕ) (j : ℕ) → some (long_record xs) (upward n j) ≡ false → bytes_given xs n j ≤ longest_record * n
unfolding some upward bytes_given long_record
bytes_small zero xs j h = omega arith
bytes_small (suc n) xs j h =
    let a : Bool = long_record xs j in
    let f = ltb-false longest_record (name_at + size_given xs j) (or_first a (some (long_record xs) (upward n (suc j))) h) in
    omega (arith, f, bytes_small n xs (suc j) (or_second a (some (long_record xs) (upward n (suc j))) h))

-- ## Written one after the other

-- the bytes of a record
abbrev pub long : List ℕ → ℕ
long g = name_at + size_given g 0

module _ (names : List ℕ) where
  abbrev pub is_bad : List ℕ → Bool
  is_bad g = bad_given g names 0

  abbrev pub link_of : List ℕ → Link
  link_of g = link_given g names 0

  -- what none of the records meets, none of the first i does, nor the i-th
  none_first : (rs : List (List ℕ)) (i : ℕ) → list_any is_bad rs ≡ false → list_any is_bad (take i rs) ≡ false
  none_first rs zero h = refl
  none_first [] (suc i) h = refl
  none_first (g ∷ rs) (suc i) h =
      rw (or_first (is_bad g) (list_any is_bad rs) h) (none_first rs i (or_second (is_bad g) (list_any is_bad rs) h))

  pub none_here : (rs : List (List ℕ)) (i : ℕ) → list_any is_bad rs ≡ false → i < length rs → is_bad (get_or rs i []) ≡ false
  none_here [] i h k = absurd (omega arith)
  none_here (g ∷ rs) zero h k = or_first (is_bad g) (list_any is_bad rs) h
  none_here (g ∷ rs) (suc i) h k = none_here rs i (or_second (is_bad g) (list_any is_bad rs) h) (omega arith)

  length_each : (rs : List (List ℕ)) → list_any is_bad rs ≡ false → length (encode_links (map link_of rs)) ≡ sum_by long rs
  unfolding encode_links size_given number_of
  length_each [] h = refl
  length_each (g ∷ rs) h =
      let b = or_first (is_bad g) (list_any is_bad rs) h in
      let r = or_second (is_bad g) (list_any is_bad rs) h in
      rw (length-append, length_link (link_of g), length_name g names 0 b, length_each rs r) (sym (sum_by-cons long g rs))

  -- the destination with the first i records
  unfoldable pub stored : List ℕ → List (List ℕ) → ℕ → List ℕ
  stored d rs i = sets d link_header (encode_links (map link_of (take i rs)))

  pub stored_first : (d : List ℕ) (rs : List (List ℕ)) → d ≡ stored d rs 0
  unfolding stored encode_links
  stored_first d rs = refl

  pub stored_all : (d : List ℕ) (rs : List (List ℕ)) (i : ℕ) → length rs ≤ i → stored d rs i ≡ sets d link_header (encode_links (map link_of rs))
  unfolding stored
  stored_all d rs i h = rw (take_all i rs h)

  -- and one more
  pub stored_next : (d : List ℕ) (rs : List (List ℕ)) (i a : ℕ) (x y : List ℕ) → list_any is_bad rs ≡ false → i < length rs →
      a ≡ link_header + sum_by long (take i rs) → a + long (get_or rs i []) ≤ length x → x ≡ stored d rs i → y ≡ encode_link (link_of (get_or rs i [])) →
      put_mid a (a + long (get_or rs i []) - a) x y ≡ stored d rs (i + 1)
  unfolding stored encode_links size_given number_of
  stored_next d rs i a x y h k p u e f =
      let g : List ℕ = get_or rs i [] in
      let s : List ℕ = encode_link (link_of g) in
      let r : List Link = map link_of (take i rs) in
      let n : length s ≡ long g = length_link (link_of g) ∙ ap (λ m. name_at + m) (length_name g names 0 (none_here rs i h k)) in
      let m : map link_of (take (i + 1) rs) ≡ r ++ (link_of g ∷ []) = rw (add-one i, take-suc rs i [] k, map-append) in
      rw (
        f,
        put_sets a (a + long g) x s (omega (arith, n)) u,
        e,
        p,
        sets_at (encode_links r) s d link_header (sum_by long (take i rs)) (length_each (take i rs) (none_first rs i h)),
        m,
        links_append r (link_of g ∷ []),
        append-nil s,
      )

-- ## As they lie in the numbers

module _ (numbers names : List ℕ) (n : ℕ) (rs : List (List ℕ)) (e : length numbers ≡ link_numbers * n) (c : rs ≡ first_chunks link_numbers (length numbers / link_numbers) numbers) where
  cut_so : rs ≡ first_chunks link_numbers n numbers
  cut_so =
      let d : length numbers / link_numbers ≡ n = rw e (omega arith) in
      c ∙ ap (λ m. first_chunks link_numbers m numbers) d

  pub bad_so : list_any (is_bad names) rs ≡ some (bad_given numbers names) (upward n 0)
  bad_so = ap (list_any (is_bad names)) cut_so ∙ each_bad n numbers names

  pub bytes_so : sum_by long rs ≡ bytes_given numbers n 0
  bytes_so = ap (sum_by long) cut_so ∙ each_bytes n numbers

  pub links_so : map (link_of names) rs ≡ map (link_given numbers names) (upward n 0)
  links_so = ap (map (link_of names)) cut_so ∙ each_link n numbers names
