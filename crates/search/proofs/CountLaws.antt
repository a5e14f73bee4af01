-- The counts of the searches: how large they can be, and what a loop over slots or rows has counted. Assumes nothing.
use mathlib.Core.Path.{◌≡◌, refl, sym}
use Rattle.std.specs.Prelude.{Option, Some, None}
use mathlib.Core.List.{List, [], ◌∷◌, ◌++◌, map}
use mathlib.Core.Bool.{Bool, true, false, cond}
use Prim.Native.Nat.{ℕ, suc, ◌+◌, ◌*◌, ◌/◌, ◌≤◌, ◌<◌}
use native.Mathlib.Numerals.{add-one}
use native.Mathlib.Omega.{arith}
use lib.Dec.{leb}
use lib.ListN.{length, length-append, take, drop, get_or-eq_default}
use Rattle.wire.proofs.Both.{and_first, and_second}
use Rattle.fid.specs.declared.OstFid.{OstFid}
use Rattle.layout.specs.Layout.{max_slots, accepted_layout}
use Rattle.layout.specs.Slot.{slot_names}
use Rattle.layout.specs.declared.Slot.{Slot}
use Rattle.layout.specs.declared.Slot.TheVariants.{Hole}
use Rattle.layout.proofs.LayoutLaws.{accepted_facts}
use Rattle.tables.specs.Records.{ParentRow}
use Rattle.tables.specs.Bytes.{parent_size, layout_room, is_used, layout_length, layout_bytes, parent_rows, parse_parent, parse_parents}
use Rattle.tables.specs.Positions.{slots_of, row_at, width}
use Rattle.tables.specs.Check.{all, when_used, good_layout, good_layouts}
use Rattle.tables.proofs.PositionLaws.{parents_many, parsed_parents, slots_unused, slots_used}
use Rattle.rules.specs.Rows.{slot_at, names_at}
use Rattle.rules.specs.Compared.{up_to, in_turn, all_slots}
use Rattle.rules.proofs.ComparedLaws.{up_to_most, take_one, one_there, one_past, slots_left_lem, slots_hit, slots_pass, slots_none, turn_most, turn_last, all_row, all_past, within}

-- ## The slots of all layouts are few

row_few : (row : List ℕ) → when_used good_layout row ≡ true → length (slots_of (parse_parent row)) ≤ max_slots
unfolding when_used good_layout
row_few row h = go (is_used row) refl h
  where
    go : (b : Bool) → is_used row ≡ b → cond b (good_layout row) true ≡ true → length (slots_of (parse_parent row)) ≤ max_slots
    go true u q = rw (← slots_used row u) (accepted_facts (layout_bytes row) (and_second (leb (layout_length row) layout_room) (accepted_layout (layout_bytes row)) q)).few
    go false u q = rw (← slots_unused row u) (omega arith)

rows_few : (rows : List (List ℕ)) → all (when_used good_layout) rows ≡ true → length (all_slots (map parse_parent rows)) ≤ max_slots * length rows
unfolding all all_slots
rows_few [] h = omega arith
rows_few (row ∷ rows) h =
    let a = row_few row (and_first (when_used good_layout row) (all (when_used good_layout) rows) h) in
    let b = rows_few rows (and_second (when_used good_layout row) (all (when_used good_layout) rows) h) in
    rw (length-append (slots_of (parse_parent row)) (all_slots (map parse_parent rows))) (omega (arith, a, b))

module _ (p : List ℕ) (good : good_layouts p ≡ true) where
  all_few : length (all_slots (parse_parents p)) ≤ max_slots * (length p / parent_size)
  unfolding good_layouts parse_parents
  all_few = rw (← parents_many p) (rows_few (parent_rows p) good)

  module _ (f : OstFid) where
    pub all_fit_lem : up_to f (all_slots (parse_parents p)) ≤ max_slots * (length p / parent_size)
    all_fit_lem = omega (arith, all_few, up_to_most f (all_slots (parse_parents p)))

    module _ (r : ℕ) where
      pub row_fits : up_to f (slots_of (row_at (parse_parents p) r)) ≤ max_slots * (length p / parent_size)
      row_fits = omega (arith, all_few, up_to_most f (slots_of (row_at (parse_parents p) r)), within (parse_parents p) r)

      pub both_fit : in_turn f (slots_of (row_at (parse_parents p) r) ∷ all_slots (parse_parents p) ∷ []) ≤ 2 * (max_slots * (length p / parent_size))
      both_fit =
          let ss = all_slots (parse_parents p) in
          let e = turn_last f ss in
          omega (arith, all_few, within (parse_parents p) r, turn_most f (slots_of (row_at (parse_parents p) r)) (ss ∷ []) (length ss) (rw (← e) (up_to_most f ss)))

-- ## The claimed slot, slot j of row r

pub one_fits : (p : List ℕ) (f : OstFid) (r j : ℕ) → up_to f (take 1 (drop j (slots_of (row_at (parse_parents p) r)))) ≤ 1
one_fits p f r j = let l = drop j (slots_of (row_at (parse_parents p) r)) in omega (arith, up_to_most f (take 1 l), take_one l)

module _ (ps : List ParentRow) (f : OstFid) (r j n : ℕ) (w : n ≡ width ps r) where
  pub claimed_past : n ≤ j → (◌≡◌ {A = Option (ℕ × ℕ)} None (cond (names_at ps f r j) (Some (r, j)) None)) × (0 ≡ up_to f (take 1 (drop j (slots_of (row_at ps r)))))
  unfolding names_at slot_at slot_names width
  claimed_past h =
      let l = slots_of (row_at ps r) in
      (rw (get_or-eq_default l Hole {n = j} (omega arith)), sym (one_past f l j (omega arith)))

  module _ (h : j < n) where
    pub claimed_hit : names_at ps f r j ≡ true → (◌≡◌ {A = Option (ℕ × ℕ)} (Some (r, j)) (cond (names_at ps f r j) (Some (r, j)) None)) × (1 ≡ up_to f (take 1 (drop j (slots_of (row_at ps r)))))
    unfolding width
    claimed_hit t = (rw t, sym (one_there f (slots_of (row_at ps r)) j (omega arith)))

    pub claimed_miss : names_at ps f r j ≡ false → (◌≡◌ {A = Option (ℕ × ℕ)} None (cond (names_at ps f r j) (Some (r, j)) None)) × (1 ≡ up_to f (take 1 (drop j (slots_of (row_at ps r)))))
    unfolding width
    claimed_miss t = (rw t, sym (one_there f (slots_of (row_at ps r)) j (omega arith)))

-- ## Slot by slot, row by row: s slots were compared, and x are in all

-- those from slot j of row r on, and then others
pub slot_count : List ParentRow → OstFid → ℕ → ℕ → List Slot → ℕ
slot_count ps f r j m = up_to f (drop j (slots_of (row_at ps r)) ++ m)

module _ (ps : List ParentRow) (f : OstFid) (r n : ℕ) (w : n ≡ width ps r) (j s x : ℕ) (m : List Slot) (e : x ≡ s + slot_count ps f r j m) where
  pub slot_fits : j < n → s + 1 ≤ x
  unfolding slot_count width
  slot_fits h = let z = slots_left_lem f (slots_of (row_at ps r)) j m (omega arith) in omega (arith, e, z)

  pub slot_counted : j < n → names_at ps f r j ≡ true → s + 1 ≡ x
  unfolding slot_count names_at slot_at width
  slot_counted h t = let z = slots_hit f (slots_of (row_at ps r)) j m (omega arith) t in omega (arith, e, z)

  pub slot_passed : j < n → names_at ps f r j ≡ false → x ≡ s + 1 + slot_count ps f r (j + 1) m
  unfolding slot_count names_at slot_at width
  slot_passed h t =
      let z = slots_pass f (slots_of (row_at ps r)) j m (omega arith) t in
      let y : slot_count ps f r (j + 1) m ≡ up_to f (drop (suc j) (slots_of (row_at ps r)) ++ m) = rw add-one in
      omega (arith, e, z, y)

  slots_passed : n ≤ j → x ≡ s + up_to f m
  unfolding slot_count width
  slots_passed h = let z = slots_none f (slots_of (row_at ps r)) j m (omega arith) in omega (arith, e, z)

-- those from row r on
pub row_count : List ParentRow → OstFid → ℕ → ℕ
row_count ps f r = up_to f (all_slots (drop r ps))

-- out of row r
pub row_leaves : (ps : List ParentRow) (f : OstFid) (r n : ℕ) → n ≡ width ps r → (j s x : ℕ) → x ≡ s + slot_count ps f r j (all_slots (drop (r + 1) ps)) →
    n ≤ j → x ≡ s + row_count ps f (r + 1)
unfolding row_count
row_leaves ps f r n w j s x e h = slots_passed ps f r n w j s x (all_slots (drop (r + 1) ps)) e h

module _ (p : List ℕ) (f : OstFid) where
  pub row_count_start : up_to f (all_slots (parse_parents p)) ≡ 0 + row_count (parse_parents p) f 0
  unfolding row_count
  row_count_start = omega arith

  module _ (r s x : ℕ) (e : x ≡ s + row_count (parse_parents p) f r) where
    -- into row r
    pub row_enters : r < length p / parent_size → x ≡ s + slot_count (parse_parents p) f r 0 (all_slots (drop (r + 1) (parse_parents p)))
    unfolding row_count slot_count
    row_enters h = rw (e, all_row (parse_parents p) r (rw (parsed_parents p) h), add-one)

    pub rows_passed : length p / parent_size ≤ r → s ≡ x
    unfolding row_count
    rows_passed h = let z = all_past (parse_parents p) r f (rw (parsed_parents p) h) in omega (arith, e, z)
