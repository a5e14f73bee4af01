-- Records that were read, handed to the writer as numbers. Assumes nothing.
use mathlib.Core.Path.{◌≡◌, refl, ap, ◌∙◌}
use mathlib.Core.List.{List, [], ◌∷◌, ◌++◌, map}
use mathlib.Core.Bool.{Bool, true, false, ◌||◌}
use Prim.Native.Nat.{ℕ, zero, suc, ◌+◌, ◌*◌, ◌<◌}
use borrow.Author.Tests.{ltb-true, ltb-false, eq-eqb}
use native.Mathlib.Omega.{arith}
use lib.Dec.{ltb, eqb}
use lib.ListN.{length, drop, length-append}
use lib.Seq.{get_or-drop, drop-drop}
use Rattle.wire.proofs.NumberLaws.{Bytes, bytes_drop}
use Rattle.linkea.specs.Link.{Link, link_header, name_at, decode_link, length_at, short_record, link_at, places}
use Rattle.linkea.specs.Conditions.{some, past_end, bad_byte, bad_name, bad_record, refused_link}
use Rattle.linkea.specs.Answers.{found_at}
use Rattle.linkea.proofs.PlaceLaws.{or_first, or_second, from, places_from_lem, from_end, from_step, AllGood, good_record, good_here, good_on, some_here}
use Rattle.linkea.proofs.RecordLaws.{record_is, good_link}
use Rattle.linkea_write.specs.Writer.{link_numbers, number_of, parent_given, start_given, size_given, link_given, upward, wide_parent, empty_name, long_record, name_outside, bad_name_given, bad_given}
use Rattle.linkea_write.specs.RoundTrip.{found_numbers, read_numbers, read_next, records_read}
use Rattle.linkea_write.proofs.LinkLaws.{link_fits, link_small}
use Rattle.linkea_write.proofs.GivenLaws.{facts_taken, narrow_parent}

-- ## From the second on: the first of what is left

module _ (numbers names : List ℕ) where
  number_on : (j k : ℕ) → number_of numbers (suc j) k ≡ number_of (drop link_numbers numbers) j k
  unfolding number_of
  number_on j k =
      let e : link_numbers * suc j + k ≡ link_numbers + (link_numbers * j + k) = omega arith in
      rw (e, get_or-drop link_numbers numbers (link_numbers * j + k) 0)

  link_on : (j : ℕ) → link_given numbers names (suc j) ≡ link_given (drop link_numbers numbers) names j
  unfolding link_given parent_given start_given size_given
  link_on j = rw (number_on j 0, number_on j 1, number_on j 2, number_on j 3, number_on j 4)

  bad_on : (j : ℕ) → bad_given numbers names (suc j) ≡ bad_given (drop link_numbers numbers) names j
  unfolding bad_given wide_parent empty_name long_record name_outside bad_name_given start_given size_given
  bad_on j = rw (link_on j, number_on j 1, number_on j 2, number_on j 3, number_on j 4)

  links_on : (n j : ℕ) → map (link_given numbers names) (upward n (suc j)) ≡ map (link_given (drop link_numbers numbers) names) (upward n j)
  unfolding upward
  links_on zero j = refl
  links_on (suc n) j = rw (link_on j, links_on n (suc j))

  bads_on : (n j : ℕ) → some (bad_given numbers names) (upward n (suc j)) ≡ some (bad_given (drop link_numbers numbers) names) (upward n j)
  unfolding upward some
  bads_on zero j = refl
  bads_on (suc n) j = rw (bad_on j, bads_on n (suc j))

-- ## One record that was found

module _ (l r : List ℕ) (p : ℕ) where
  link_found : link_given (found_numbers (found_at l p) ++ r) l 0 ≡ link_at l p
  unfolding link_given parent_given start_given size_given number_of found_numbers found_at link_at decode_link length_at
  link_found = rw (drop-drop name_at p l)

  good_found : Bytes l → bad_record l p ≡ false → bad_given (found_numbers (found_at l p) ++ r) l 0 ≡ false
  unfolding found_numbers found_at length_at link_at bad_record bad_name
  good_found b h =
      let g = good_record l p h in
      let f = link_fits (drop p l) (bytes_drop p l b) in
      let s = link_small (drop p l) (bytes_drop p l b) in
      let numbers : List ℕ = found_numbers (found_at l p) ++ r in
      facts_taken numbers l 0 (record {
        parent = narrow_parent numbers 0 (omega (arith, f.oid)) (omega (arith, f.ver));
        id = omega (arith, f.oid);
        version = omega (arith, f.ver);
        named = omega (arith, g.long);
        short = omega (arith, g.long, s);
        inside = omega (arith, g.long, g.inside);
        clean = ap (λ (x : Link). some bad_byte x.name) link_found ∙ or_second (short_record l p || past_end l p) (bad_name l p) h;
      })

-- ## The records at places

-- the numbers of the records at some places, one record after the other
unfoldable pub numbers_at : List ℕ → List ℕ → List ℕ
numbers_at l [] = []
numbers_at l (p ∷ ps) = found_numbers (found_at l p) ++ numbers_at l ps

module _ (l : List ℕ) where
  rest_numbers : (p : ℕ) (r : List ℕ) → drop link_numbers (found_numbers (found_at l p) ++ r) ≡ r
  unfolding found_numbers
  rest_numbers p r = refl

  pub length_numbers : (ps : List ℕ) → length (numbers_at l ps) ≡ link_numbers * length ps
  unfolding numbers_at found_numbers
  length_numbers [] = refl
  length_numbers (p ∷ ps) = rw (length-append, length_numbers ps) (omega arith)

  pub links_at : (ps : List ℕ) → map (link_given (numbers_at l ps) l) (upward (length ps) 0) ≡ map (link_at l) ps
  unfolding numbers_at upward
  links_at [] = refl
  links_at (p ∷ ps) =
      rw (
        links_on (found_numbers (found_at l p) ++ numbers_at l ps) l (length ps) 0,
        rest_numbers p (numbers_at l ps),
        link_found l (numbers_at l ps) p,
        links_at ps,
      )

  pub good_at : Bytes l → (ps : List ℕ) → some (bad_record l) ps ≡ false → some (bad_given (numbers_at l ps) l) (upward (length ps) 0) ≡ false
  unfolding numbers_at upward some
  good_at b [] h = refl
  good_at b (p ∷ ps) h =
      rw (
        bads_on (found_numbers (found_at l p) ++ numbers_at l ps) l (length ps) 0,
        rest_numbers p (numbers_at l ps),
        good_found l (numbers_at l ps) p b (or_first (bad_record l p) (some (bad_record l) ps) h),
      )
      (good_at b ps (or_second (bad_record l p) (some (bad_record l) ps) h))

-- ## Read one by one

later : (i p : ℕ) (ps qs : List ℕ) → ps ≡ p ∷ qs → some (eqb i) qs ≡ true → some (eqb i) ps ≡ true
unfolding some
later i p ps qs s h = rw (s, h) (or_true (eqb i p))
  where
    or_true : (b : Bool) → (b || true) ≡ true
    or_true true = refl
    or_true false = refl

module _ (l : List ℕ) (a : refused_link l ≡ false) where
  read_here : (k p : ℕ) → p < length l → ((q : ℕ) → some (eqb q) (from l p) ≡ true → some (eqb q) (places l) ≡ true) →
      records_read (suc k) l p ≡ found_numbers (found_at l p) ++ records_read k l (p + length_at l p)
  unfolding records_read read_numbers read_next found_at
  read_here k p h m = rw (← record_is l p a (m p (some_here l p h (eqb p) (eq-eqb p p refl))))

  read_none : (p : ℕ) → records_read 0 l p ≡ []
  unfolding records_read
  read_none p = refl

  read_from : (n : ℕ) (b : Bool) (p : ℕ) → ltb p (length l) ≡ b → AllGood l p →
      ((q : ℕ) → some (eqb q) (from l p) ≡ true → some (eqb q) (places l) ≡ true) → length (from l p) ≡ n → records_read n l p ≡ numbers_at l (from l p)
  unfolding numbers_at
  read_from zero false p t g m e = rw (from_end l p (ltb-false p (length l) t)) (read_none p)
  read_from zero true p t g m e =
      let h : p < length l = ltb-true p (length l) t in
      let n : length (from l p) ≡ suc (length (from l (p + length_at l p))) = rw (from_step l p h (good_record l p (good_here l p h g)).short) in
      absurd (omega (arith, n))
  read_from (suc k) false p t g m e =
      let n : length (from l p) ≡ 0 = rw (from_end l p (ltb-false p (length l) t)) in
      absurd (omega (arith, n))
  read_from (suc k) true p t g m e =
      let h : p < length l = ltb-true p (length l) t in
      let q : ℕ = p + length_at l p in
      let s : from l p ≡ p ∷ from l q = from_step l p h (good_record l p (good_here l p h g)).short in
      let n : length (from l p) ≡ suc (length (from l q)) = ap length s in
      rw (s, read_here k p h m) (ap (λ (r : List ℕ). found_numbers (found_at l p) ++ r) (read_from k (ltb q (length l)) q refl (good_on l p h g) (λ i j. m i (later i p (from l p) (from l q) s j)) (omega (arith, n))))

  -- the numbers that are read record by record are those at the places
  pub records_read_lem : records_read (length (places l)) l link_header ≡ numbers_at l (places l)
  records_read_lem =
      let g = good_link l a in
      let e : length (from l link_header) ≡ length (places l) = rw (places_from_lem l) in
      read_from (length (places l)) (ltb link_header (length l)) link_header refl g.records (λ q h. rw (places_from_lem l) h) e ∙ rw (places_from_lem l)
