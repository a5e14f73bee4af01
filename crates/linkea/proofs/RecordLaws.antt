-- What is asked of one record and of the whole, case by case. Assumes nothing.
use mathlib.Core.Path.{◌≡◌, refl, sym, ◌∙◌}
use mathlib.Core.List.{List, [], ◌∷◌}
use mathlib.Core.Bool.{Bool, true, false, not, ◌&&◌, ◌||◌}
use Prim.Native.Nat.{ℕ, ◌+◌, ◌-◌, ◌≤◌, ◌<◌}
use borrow.Author.Tests.{ltb-true, ltb-false, lt-ltb, le-ltb, le-leb, lt-leb, eqb-true, eq-eqb, ne_eqb, not-false}
use native.Mathlib.Omega.{arith}
use lib.Dec.{ltb, eqb}
use lib.ListN.{length, take, drop}
use lib.Seq.{drop-drop}
use Rattle.std.specs.Prelude.{Some, None, Ok, Err}
use Rattle.refusals.specs.declared.Refusal.TheVariants.{BadLink, NoPlace}
use Rattle.wire.specs.Numbers.{le, big, number}
use Rattle.fid.specs.Fid.{decode_fid_in}
use Rattle.fid.specs.declared.Fid.{Fid}
use Rattle.linkea.specs.Link.{link_magic, link_header, parent_at, name_at, shortest_record, decode_link_header, link_length, decode_link, length_at, link_at, short_record, places}
use Rattle.linkea.specs.Conditions.{some, bad_byte, slash, short_header, other_magic, past_end, count_disagrees, total_disagrees, bad_name, bad_record, refused_link}
use Rattle.linkea.specs.Answers.{read_link, found_at, step_at, read_record}
use Rattle.linkea.specs.declared.Found.{Found}
use Rattle.linkea.proofs.PlaceLaws.{or_first, or_second, none_meets, places_from_lem, AllGood, good_from}

-- ## Bytes of a name

pub slash_bad : (b : ℕ) → b ≡ slash → eqb b slash ≡ bad_byte b
unfolding bad_byte
slash_bad b e = rw (eq-eqb b slash e)

pub is_zero : (b : ℕ) → (b ≡ slash → ⊥) → eqb b 0 ≡ bad_byte b
unfolding bad_byte
is_zero b e = rw (ne_eqb b slash e)

-- ## The record at a place

module _ (l : List ℕ) (p : ℕ) where
  -- as it is read
  pub length_read : number big 2 (drop p l) ≡ length_at l p
  unfolding length_at link_length
  length_read = refl

  pub is_short : length_at l p < shortest_record → true ≡ bad_record l p
  unfolding bad_record short_record
  is_short h = rw (lt-ltb (length_at l p) shortest_record h)

  pub is_past : shortest_record ≤ length_at l p → length l < p + length_at l p → true ≡ bad_record l p
  unfolding bad_record short_record past_end
  is_past h k = rw (le-ltb (length_at l p) shortest_record h, lt-ltb (length l) (p + length_at l p) k)

  -- fewer bytes are left than the shortest record has
  pub is_cut : length l < p + shortest_record → true ≡ bad_record l p
  unfolding short_record
  is_cut h = go (ltb (length_at l p) shortest_record) refl
    where
      go : (b : Bool) → ltb (length_at l p) shortest_record ≡ b → true ≡ bad_record l p
      go true e = is_short (ltb-true (length_at l p) shortest_record e)
      go false e = let n : shortest_record ≤ length_at l p = ltb-false (length_at l p) shortest_record e in is_past n (omega arith)

  -- all else is its name
  pub is_name : (n : ℕ) → n ≡ length_at l p → shortest_record ≤ n → p + n ≤ length l →
      some bad_byte (take (p + n - (p + name_at)) (drop (p + name_at) l)) ≡ bad_record l p
  unfolding bad_record short_record past_end bad_name link_at decode_link length_at
  is_name n e h k =
      let d : p + n - (p + name_at) ≡ n - name_at = omega arith in
      rw (d, e, le-ltb (length_at l p) shortest_record (rw (← e) h), le-ltb (length l) (p + length_at l p) (rw (← e) k), drop-drop name_at p l)

  -- ## The cursor

  pub step_header : p < link_header → Err BadLink ≡ step_at l p
  unfolding step_at
  step_header h = rw (lt-ltb p link_header h)

  pub step_end : link_header ≤ p → length l ≤ p → Ok None ≡ step_at l p
  unfolding step_at
  step_end h k = rw (le-ltb p link_header h, le-leb (length l) p k)

  pub step_bad : link_header ≤ p → p < length l → bad_record l p ≡ true → Err BadLink ≡ step_at l p
  unfolding step_at
  step_bad h k b = rw (le-ltb p link_header h, lt-leb (length l) p k, b)

  pub step_record : link_header ≤ p → p < length l → bad_record l p ≡ false → Ok (Some (found_at l p)) ≡ step_at l p
  unfolding step_at
  step_record h k b = rw (le-ltb p link_header h, lt-leb (length l) p k, b)

  -- what is found, from the numbers read
  pub found_is : (n : ℕ) (f : Fid) → n ≡ number big 2 (drop p l) → f ≡ decode_fid_in big (drop (p + parent_at) l) →
      ◌≡◌ {A = Found} (record { parent = record { 0 = f }; start = p + name_at; size = n - name_at; next = p + n }) (found_at l p)
  unfolding found_at link_at decode_link length_at link_length
  found_is n f e g = rw (e, g, drop-drop parent_at p l)

  -- ## The reader of one record

  pub record_refused : refused_link l ≡ true → Err BadLink ≡ read_record l p
  unfolding read_record
  record_refused h = rw h

  pub record_none : refused_link l ≡ false → some (eqb p) (places l) ≡ false → Err NoPlace ≡ read_record l p
  unfolding read_record
  record_none h k = rw (h, k)

  pub record_is : refused_link l ≡ false → some (eqb p) (places l) ≡ true → Ok (found_at l p) ≡ read_record l p
  unfolding read_record
  record_is h k = rw (h, k)

-- ## The whole

-- a record is bad by one of three conditions
some_bad : (l ps : List ℕ) → some (bad_record l) ps ≡ (some (short_record l) ps || some (past_end l) ps || some (bad_name l) ps)
unfolding some bad_record
some_bad l [] = refl
some_bad l (p ∷ ps) =
    rw (some_bad l ps)
    (sorted (short_record l p) (past_end l p) (bad_name l p) (some (short_record l) ps) (some (past_end l) ps) (some (bad_name l) ps))
  where
    sorted : (a b c x y z : Bool) → (a || b || c || (x || y || z)) ≡ (a || x || (b || y) || (c || z))
    sorted true b c x y z = refl
    sorted false true c true y z = refl
    sorted false true c false y z = refl
    sorted false false true true y z = refl
    sorted false false true false true z = refl
    sorted false false true false false z = refl
    sorted false false false x y z = refl

-- the conditions, as the walk and the total tell them
told : (a b c e : Bool) → not (not (a || b || c) && e) ≡ (a || b || not e || false || c)
told true b c e = refl
told false true c e = refl
told false false true true = refl
told false false true false = refl
told false false false true = refl
told false false false false = refl

module _ (l : List ℕ) where
  pub refused_short : length l < link_header → true ≡ refused_link l
  unfolding refused_link short_header
  refused_short h = rw (lt-ltb (length l) link_header h)

  pub refused_magic : link_header ≤ length l → (le 4 l ≡ link_magic → ⊥) → true ≡ refused_link l
  unfolding refused_link short_header other_magic
  refused_magic h k = rw (le-ltb (length l) link_header h, ne_eqb (le 4 l) link_magic k)

  pub refused_total : ((decode_link_header l).total ≡ length l → ⊥) → true ≡ refused_link l
  unfolding refused_link total_disagrees
  refused_total h =
      rw (ne_eqb (decode_link_header l).total (length l) h)
      (or_true (short_header l || other_magic l || some (short_record l) (places l) || some (past_end l) (places l) || count_disagrees l) (some (bad_name l) (places l)))
    where
      or_true : (a b : Bool) → true ≡ (a || true || b)
      or_true true b = refl
      or_true false b = refl

  pub refused_records : link_header ≤ length l → le 4 l ≡ link_magic → (decode_link_header l).total ≡ length l →
      not (good_from l (decode_link_header l).count 0 link_header) ≡ refused_link l
  unfolding refused_link short_header other_magic total_disagrees count_disagrees good_from
  refused_records h m t =
      let z : 0 + length (places l) ≡ length (places l) = omega arith in
      rw (
        le-ltb (length l) link_header h,
        eq-eqb (le 4 l) link_magic m,
        eq-eqb (decode_link_header l).total (length l) t,
        ← places_from_lem l,
        z,
        some_bad l (places l),
      )
      (told (some (short_record l) (places l)) (some (past_end l) (places l)) (some (bad_name l) (places l)) (eqb (decode_link_header l).count (length (places l))))

  pub read_refused : refused_link l ≡ true → Err BadLink ≡ read_link l
  unfolding read_link
  read_refused h = rw h

  pub read_accepted : refused_link l ≡ false → Ok (decode_link_header l) ≡ read_link l
  unfolding read_link
  read_accepted h = rw h

-- what is known of a link_ea that no condition refuses
pub record GoodLink (l : List ℕ) : Type 0 where
  pub header : link_header ≤ length l
  pub magic : le 4 l ≡ link_magic
  pub records : AllGood l link_header
  pub counted : (decode_link_header l).count ≡ length (places l)
  pub total : (decode_link_header l).total ≡ length l

pub good_link : (l : List ℕ) → refused_link l ≡ false → GoodLink l
unfolding refused_link short_header other_magic total_disagrees count_disagrees AllGood
good_link l h =
    let a : Bool = short_header l in
    let b : Bool = other_magic l in
    let c : Bool = some (short_record l) (places l) in
    let d : Bool = some (past_end l) (places l) in
    let e : Bool = count_disagrees l in
    let f : Bool = total_disagrees l in
    let g : Bool = some (bad_name l) (places l) in
    let h6 : (a || b || c || d || e || f) ≡ false = or_first (a || b || c || d || e || f) g h in
    let h5 : (a || b || c || d || e) ≡ false = or_first (a || b || c || d || e) f h6 in
    let h4 : (a || b || c || d) ≡ false = or_first (a || b || c || d) e h5 in
    let h3 : (a || b || c) ≡ false = or_first (a || b || c) d h4 in
    let h2 : (a || b) ≡ false = or_first (a || b) c h3 in
    record {
      header = ltb-false (length l) link_header (or_first a b h2);
      magic = eqb-true (le 4 l) link_magic (not-false _ (or_second a b h2));
      records = rw (← places_from_lem l, some_bad l (places l), or_second (a || b) c h3, or_second (a || b || c) d h4, or_second (a || b || c || d || e || f) g h);
      counted = eqb-true (decode_link_header l).count (length (places l)) (not-false _ (or_second (a || b || c || d) e h5));
      total = eqb-true (decode_link_header l).total (length l) (not-false _ (or_second (a || b || c || d || e) f h6));
    }

pub link_good : (l : List ℕ) → GoodLink l → refused_link l ≡ false
unfolding good_from AllGood
link_good l g =
    let z : 0 + length (places l) ≡ length (places l) = omega arith in
    sym (refused_records l g.header g.magic g.total)
    ∙ rw (g.records, ← places_from_lem l, z, eq-eqb (decode_link_header l).count (length (places l)) g.counted)

-- a place at which a record begins is not bad
pub place_good : (l : List ℕ) (p : ℕ) → refused_link l ≡ false → some (eqb p) (places l) ≡ true → bad_record l p ≡ false
unfolding AllGood
place_good l p h k = none_meets (bad_record l) p (places l) (rw (places_from_lem l) (good_link l h).records) k
