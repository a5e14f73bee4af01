-- The count of slots compared, case by case as the code makes it, and what is promised of it. Assumes nothing.
use Prim.Native.Nat.{ℕ, zero, suc, ◌+◌, ◌*◌, ◌≤◌, ◌<◌}
use Rattle.std.specs.Prelude.{Option, Some, None}
use native.Mathlib.Omega.{arith}
use native.Mathlib.Decide.{dec_lt}
use native.Mathlib.Nat.{zero-add}
use mathlib.Core.Path.{◌≡◌, refl, sym, ap, ◌∙◌}
use mathlib.Core.Bool.{Bool, true, false, cond, ◌||◌}
use mathlib.Core.List.{List, [], ◌∷◌, ◌++◌}
use lib.ListN.{length, get_or, take, drop, length-append, drop_of_length-le, get_or-eq_default}
use lib.Seq.{drop-cons}
use Rattle.fid.specs.declared.OstFid.{OstFid}
use Rattle.layout.specs.Slot.{slot_names}
use Rattle.layout.specs.declared.Slot.{Slot}
use Rattle.layout.specs.declared.Slot.TheVariants.{Hole}
use Rattle.tables.specs.Records.{ParentRow, Tables, unused}
use Rattle.tables.specs.Positions.{slots_of, row_at, width, row_steps}
use Rattle.tables.specs.declared.Place.{Place}
use Rattle.rules.specs.Search.{slot_from, place_from, is_somewhere}
use Rattle.rules.specs.Rows.{parent_row, slot_at, names_at, scan, named, object_of}
use Rattle.rules.specs.Keeper.{claim_in}
use Rattle.rules.specs.Compared.{up_to, hit, in_turn, all_slots, cases_in, cases, compared_by, compared, LessLooking}
use Rattle.rules.proofs.Tests.{clash, never}
use Rattle.rules.proofs.Searches.{named_inside}

-- ## The slots of one case

module _ (f : OstFid) where
  -- a hole is compared like any other slot
  pub hole_counts : (rest : List Slot) → up_to f (Hole ∷ rest) ≡ suc (up_to f rest)
  unfolding up_to slot_names
  hole_counts rest = refl

  pub up_to_most : (l : List Slot) → up_to f l ≤ length l
  unfolding up_to
  up_to_most [] = omega arith
  up_to_most (s ∷ l) = go (slot_names f s) (up_to_most l)
    where
      go : (b : Bool) → up_to f l ≤ length l → suc (cond b 0 (up_to f l)) ≤ suc (length l)
      go true h = omega arith
      go false h = omega arith

  -- without a hit every one is compared
  up_to_all : (l : List Slot) → hit f l ≡ false → up_to f l ≡ length l
  unfolding up_to hit
  up_to_all [] e = refl
  up_to_all (s ∷ l) e = go (slot_names f s) e (up_to_all l)
    where
      go : (b : Bool) → (b || hit f l) ≡ false → (hit f l ≡ false → up_to f l ≡ length l) → suc (cond b 0 (up_to f l)) ≡ suc (length l)
      go true q ih = clash refl q
      go false q ih = ap suc (ih q)

  -- one list after another
  hit_both : (l m : List Slot) → hit f (l ++ m) ≡ (hit f l || hit f m)
  unfolding hit
  hit_both [] m = refl
  hit_both (s ∷ l) m = go (slot_names f s) (hit_both l m)
    where
      go : (b : Bool) → hit f (l ++ m) ≡ (hit f l || hit f m) → (b || hit f (l ++ m)) ≡ (b || hit f l || hit f m)
      go true ih = refl
      go false ih = ih

  -- ## From slot j of a list on, and then others

  module _ (l : List Slot) (j : ℕ) where
    pub slots_hit : (m : List Slot) → j < length l → slot_names f (get_or l j Hole) ≡ true → up_to f (drop j l ++ m) ≡ 1
    unfolding up_to
    slots_hit m h t = rw (drop-cons l j Hole h, t)

    pub slots_pass : (m : List Slot) → j < length l → slot_names f (get_or l j Hole) ≡ false → up_to f (drop j l ++ m) ≡ suc (up_to f (drop (suc j) l ++ m))
    unfolding up_to
    slots_pass m h t = rw (drop-cons l j Hole h, t)

    pub slots_left_lem : (m : List Slot) → j < length l → 1 ≤ up_to f (drop j l ++ m)
    unfolding up_to
    slots_left_lem m h = rw (drop-cons l j Hole h) (omega arith)

    pub slots_none : (m : List Slot) → length l ≤ j → up_to f (drop j l ++ m) ≡ up_to f m
    slots_none m h = rw (drop_of_length-le l h)

    -- ## The claimed slot

    pub one_there : j < length l → up_to f (take 1 (drop j l)) ≡ 1
    unfolding up_to
    one_there h = rw (drop-cons l j Hole h) (go (slot_names f (get_or l j Hole)))
      where
        go : (b : Bool) → suc (cond b 0 0) ≡ 1
        go true = refl
        go false = refl

    pub one_past : length l ≤ j → up_to f (take 1 (drop j l)) ≡ 0
    unfolding up_to
    one_past h = rw (drop_of_length-le l h)

  -- ## Cases in turn

  module _ (l : List Slot) (rest : List (List Slot)) where
    pub turn_hit : hit f l ≡ true → up_to f l ≡ in_turn f (l ∷ rest)
    unfolding in_turn
    turn_hit h = rw h (omega arith)

    pub turn_miss : (x : ℕ) → hit f l ≡ false → x ≡ in_turn f rest → up_to f l + x ≡ in_turn f (l ∷ rest)
    unfolding in_turn
    turn_miss x h e = rw (h, e)

    pub turn_most : (n : ℕ) → in_turn f rest ≤ n → in_turn f (l ∷ rest) ≤ length l + n
    unfolding in_turn
    turn_most n k = go (hit f l) (up_to_most l)
      where
        go : (b : Bool) → up_to f l ≤ length l → up_to f l + cond b 0 (in_turn f rest) ≤ length l + n
        go true h = omega arith
        go false h = omega arith

  pub turn_last : (l : List Slot) → up_to f l ≡ in_turn f (l ∷ [])
  unfolding in_turn
  turn_last l = go (hit f l) refl
    where
      go : (b : Bool) → hit f l ≡ b → up_to f l ≡ in_turn f (l ∷ [])
      go true e = rw e (omega arith)
      go false e = rw e (omega arith)

-- ## A row's slots, and the search that finds one of them

-- a slot that names the object is a hit of every list with it
hit_some : (f : OstFid) (l : List Slot) (j : ℕ) → slot_names f (get_or l j Hole) ≡ true → hit f l ≡ true
unfolding hit slot_names
hit_some f [] j t = clash t refl
hit_some f (s ∷ l) zero t = rw t
hit_some f (s ∷ l) (suc j) t = go (slot_names f s) (hit_some f l j t)
  where
    go : (b : Bool) → hit f l ≡ true → (b || hit f l) ≡ true
    go true e = refl
    go false e = e

module _ (ps : List ParentRow) (f : OstFid) (r : ℕ) where
  hit_from : (n j : ℕ) → j + n ≡ width ps r → is_somewhere (slot_from r n j (names_at ps f)) ≡ hit f (drop j (slots_of (row_at ps r)))
  unfolding slot_from hit names_at slot_at width
  hit_from zero j e = rw (drop_of_length-le (slots_of (row_at ps r)) {i = j} (omega arith))
  hit_from (suc n) j e =
      rw (drop-cons (slots_of (row_at ps r)) j Hole (omega arith)) (go (slot_names f (get_or (slots_of (row_at ps r)) j Hole)) (hit_from n (suc j) (omega arith)))
    where
      go : (b : Bool) → is_somewhere (slot_from r n (suc j) (names_at ps f)) ≡ hit f (drop (suc j) (slots_of (row_at ps r))) →
          is_somewhere (elim b [ true ↦ Some (r, j) | false ↦ slot_from r n (suc j) (names_at ps f) ]) ≡ (b || hit f (drop (suc j) (slots_of (row_at ps r))))
      go true ih = refl
      go false ih = ih

  pub hit_row : hit f (slots_of (row_at ps r)) ≡ is_somewhere (slot_from r (width ps r) 0 (names_at ps f))
  hit_row = sym (hit_from (width ps r) 0 (zero-add (width ps r)))

  pub hit_claimed : (j : ℕ) → hit f (take 1 (drop j (slots_of (row_at ps r)))) ≡ names_at ps f r j
  unfolding hit names_at slot_at slot_names
  hit_claimed j = go (dec_lt j (length (slots_of (row_at ps r))))
    where
      off : (b : Bool) → (b || false) ≡ b
      off true = refl
      off false = refl

      go : Dec (j < length (slots_of (row_at ps r))) → hit f (take 1 (drop j (slots_of (row_at ps r)))) ≡ slot_names f (get_or (slots_of (row_at ps r)) j Hole)
      go (yes h) = rw (drop-cons (slots_of (row_at ps r)) j Hole h) (off (slot_names f (get_or (slots_of (row_at ps r)) j Hole)))
      go (no n) = rw (drop_of_length-le (slots_of (row_at ps r)) {i = j} (omega arith), get_or-eq_default (slots_of (row_at ps r)) Hole {n = j} (omega arith))

-- ## All slots, row by row

module _ (ps : List ParentRow) (r : ℕ) where
  pub all_row : r < length ps → all_slots (drop r ps) ≡ slots_of (row_at ps r) ++ all_slots (drop (suc r) ps)
  unfolding all_slots row_at
  all_row h = rw (drop-cons ps r (unused []) h)

  pub all_past : (f : OstFid) → length ps ≤ r → up_to f (all_slots (drop r ps)) ≡ 0
  unfolding up_to all_slots
  all_past f h = rw (drop_of_length-le ps h)

or_first : (a b : Bool) → (a || b) ≡ false → a ≡ false
or_first true b e = clash refl e
or_first false b e = refl

or_second : (a b : Bool) → (a || b) ≡ false → b ≡ false
or_second true b e = clash refl e
or_second false b e = e

-- one row has no more slots than all, and no hit where all have none
pub within : (ps : List ParentRow) (r : ℕ) → length (slots_of (row_at ps r)) ≤ length (all_slots ps)
unfolding all_slots row_at slots_of
within [] r = omega arith
within (row ∷ ps) zero = rw (length-append (slots_of row) (all_slots ps)) (omega arith)
within (row ∷ ps) (suc r) = let h = within ps r in rw (length-append (slots_of row) (all_slots ps)) (omega arith)

hit_within : (f : OstFid) (ps : List ParentRow) (r : ℕ) → hit f (all_slots ps) ≡ false → hit f (slots_of (row_at ps r)) ≡ false
unfolding all_slots row_at slots_of hit
hit_within f [] r e = refl
hit_within f (row ∷ ps) zero e = or_first (hit f (slots_of row)) (hit f (all_slots ps)) (sym (hit_both f (slots_of row) (all_slots ps)) ∙ e)
hit_within f (row ∷ ps) (suc r) e = hit_within f ps r (or_second (hit f (slots_of row)) (hit f (all_slots ps)) (sym (hit_both f (slots_of row) (all_slots ps)) ∙ e))

-- "named by" a slot: one of all slots is a hit
module _ (ps : List ParentRow) (f : OstFid) where
  place_hit : (n r : ℕ) → r + n ≡ length ps → is_somewhere (place_from n r (width ps) (names_at ps f)) ≡ hit f (all_slots (drop r ps))
  unfolding place_from hit all_slots
  place_hit zero r e = rw (drop_of_length-le ps {i = r} (omega arith))
  place_hit (suc n) r e =
      rw (all_row ps r (omega arith), hit_both f, hit_row ps f r) (go (slot_from r (width ps r) 0 (names_at ps f)) (place_hit n (suc r) (omega arith)))
    where
      go : (a : Option (ℕ × ℕ)) → is_somewhere (place_from n (suc r) (width ps) (names_at ps f)) ≡ hit f (all_slots (drop (suc r) ps)) →
          is_somewhere (elim a [ Some (k, j) ↦ Some (k, j) | None ↦ place_from n (suc r) (width ps) (names_at ps f) ]) ≡ (is_somewhere a || hit f (all_slots (drop (suc r) ps)))
      go (Some (k, j)) ih = refl
      go None ih = ih

  named_hit : named ps f ≡ hit f (all_slots ps)
  unfolding named scan
  named_hit = place_hit (length ps) 0 (zero-add (length ps))

-- ## The count of each claim

module _ (ps : List ParentRow) (f : OstFid) where
  -- an object without a claim, or an absent one
  pub compared_unclaimed : up_to f (all_slots ps) ≡ compared_by ps f None
  unfolding compared_by cases
  compared_unclaimed = turn_last f (all_slots ps)

  module _ (p : Place) where
    -- the claimed parent is absent
    pub compared_absent : parent_row ps p.file ≡ None → up_to f (all_slots ps) ≡ compared_by ps f (Some p)
    unfolding compared_by cases cases_in
    compared_absent e = rw e (turn_last f (all_slots ps))

    -- it is in row r
    pub compared_in : (r : ℕ) → parent_row ps p.file ≡ Some r →
        in_turn f (take 1 (drop p.index (slots_of (row_at ps r))) ∷ slots_of (row_at ps r) ∷ all_slots ps ∷ []) ≡ compared_by ps f (Some p)
    unfolding compared_by cases cases_in
    compared_in r e = ap (λ (a : Option ℕ). in_turn f (cases_in ps p a)) (sym e)

-- ## What is promised

all_steps : (ps : List ParentRow) → row_steps ps ≡ length ps + length (all_slots ps)
unfolding row_steps all_slots
all_steps [] = refl
all_steps (row ∷ ps) = let h = all_steps ps in rw (length-append (slots_of row) (all_slots ps)) (omega (arith, h))

pub take_one : (l : List Slot) → length (take 1 l) ≤ 1
take_one [] = omega arith
take_one (s ∷ l) = omega arith

module _ (ps : List ParentRow) (f : OstFid) where
  all_most : in_turn f (all_slots ps ∷ []) ≤ 2 * length (all_slots ps) + 1
  unfolding in_turn
  all_most = let h = turn_most f (all_slots ps) [] 0 (omega arith) in omega arith

  claims_most : (p : Place) (a : Option ℕ) → in_turn f (cases_in ps p a) ≤ 2 * length (all_slots ps) + 1
  unfolding in_turn cases_in
  claims_most p None = all_most
  claims_most p (Some r) =
      let l = slots_of (row_at ps r) in
      let c = turn_most f (all_slots ps) [] 0 (omega arith) in
      let b = turn_most f l (all_slots ps ∷ []) (length (all_slots ps) + 0) c in
      let a = turn_most f (take 1 (drop p.index l)) (l ∷ all_slots ps ∷ []) (length l + (length (all_slots ps) + 0)) b in
      omega (arith, a, take_one (drop p.index l), within ps r)

  most_by : (c : Option Place) → compared_by ps f c ≤ 2 * length (all_slots ps) + 1
  unfolding compared_by cases
  most_by None = all_most
  most_by (Some p) = claims_most p (parent_row ps p.file)

  once_in : (p : Place) (r : ℕ) → parent_row ps p.file ≡ Some r → names_at ps f r p.index ≡ true → compared_by ps f (Some p) ≡ 1
  unfolding width
  once_in p r e t =
      let l = slots_of (row_at ps r) in
      sym (compared_in ps f p r e) ∙ sym (turn_hit f (take 1 (drop p.index l)) (l ∷ all_slots ps ∷ []) (hit_claimed ps f r p.index ∙ t))
      ∙ one_there f l p.index (named_inside ps f r p.index t).1

  unnamed_in : (p : Place) (r : ℕ) → parent_row ps p.file ≡ Some r → named ps f ≡ false → p.index < width ps r →
      compared_by ps f (Some p) ≡ 1 + width ps r + length (all_slots ps)
  unfolding width names_at slot_at
  unnamed_in p r e n h =
      let l = slots_of (row_at ps r) in
      let z : hit f (all_slots ps) ≡ false = sym (named_hit ps f) ∙ n in
      let y : hit f l ≡ false = hit_within f ps r z in
      let x : hit f (take 1 (drop p.index l)) ≡ false = hit_claimed ps f r p.index ∙ never (names_at ps f r p.index) (λ t. clash (hit_some f l p.index t) y) in
      let c = turn_miss f l (all_slots ps ∷ []) (up_to f (all_slots ps)) y (turn_last f (all_slots ps)) in
      let b = turn_miss f (take 1 (drop p.index l)) (l ∷ all_slots ps ∷ []) (up_to f l + up_to f (all_slots ps)) x c in
      sym (compared_in ps f p r e) ∙ sym b ∙ omega (arith, one_there f l p.index h, up_to_all f l y, up_to_all f (all_slots ps) z)

pub less_looking : (T : Tables) (f : OstFid) → LessLooking T f
unfolding compared
less_looking T f = record {
  all = all_steps T.parents;
  holes = hole_counts f;
  once = λ p r h t. rw h.0 (once_in T.parents f p r h.1 t);
  most = most_by T.parents f (claim_in (object_of T.objects f));
  unnamed = λ p r h n k. rw h.0 (unnamed_in T.parents f p r h.1 n k);
}
