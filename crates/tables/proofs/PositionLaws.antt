-- Positions of parsed tables, read off the bytes: the number of rows, a row's slots, and the answers case by case. Assumes nothing.
use mathlib.Core.Path.{◌≡◌, refl, ap, ◌∙◌}
use mathlib.Core.List.{List, [], ◌∷◌, map}
use mathlib.Core.Bool.{Bool, true, false, ◌||◌}
use Prim.Native.Nat.{ℕ, suc, ◌+◌, ◌-◌, ◌*◌, ◌/◌, ◌≤◌, ◌<◌}
use native.Mathlib.Numerals.{add-one}
use native.Mathlib.Omega.{arith}
use borrow.Author.Tests.{eq-eqb, ne_eqb, lt-ltb, le-ltb, ltb-true}
use lib.Dec.{leb, ltb, eqb}
use lib.ListN.{length, get_or, take, drop, length-map, get_or-map}
use Rattle.wire.specs.Rows.{rows}
use Rattle.wire.proofs.RowLaws.{rows_length, rows_at}
use Rattle.wire.proofs.Both.{and_first}
use Rattle.layout.specs.Layout.{decode_layout, stripe_count, slot_start}
use Rattle.layout.proofs.SlotLaws.{length_slots}
use Rattle.tables.specs.Records.{unused, Tables}
use Rattle.tables.specs.Bytes.{parent_size, object_size, is_used, layout_bytes, decode_parent, parse_parent, parse_object, parent_rows, object_rows, parse, parse_row, parse_parents, parse_objects}
use Rattle.tables.specs.Positions.{slots_of, row_at, width, in_stage_one, in_stage_two, is_end, is_position, place, from_object, from_parent, after_part, next, row_steps, count_steps}
use Rattle.tables.specs.declared.Position.{Position}

-- ## Rows

pub parents_many : (p : List ℕ) → length (parent_rows p) ≡ length p / parent_size
unfolding parent_rows
parents_many p = rows_length parent_size (length p / parent_size) p

pub objects_many : (o : List ℕ) → length (object_rows o) ≡ length o / object_size
unfolding object_rows
objects_many o = rows_length object_size (length o / object_size) o

module _ (p : List ℕ) where
  pub parsed_parents : length (parse_parents p) ≡ length p / parent_size
  unfolding parse_parents
  parsed_parents = length-map (parent_rows p) parse_parent ∙ parents_many p

  -- row r of the table is row r of the bytes
  pub parsed_row : (r : ℕ) → r < length p / parent_size → row_at (parse_parents p) r ≡ parse_parent (take parent_size (drop (parent_size * r) p))
  unfolding parse_parents row_at parent_rows parse_parent is_used parse_row
  parsed_row r h =
      get_or-map parse_parent (parent_rows p) r []
      ∙ ap parse_parent (rows_at parent_size (length p / parent_size) r p h)

  pub parsed_width : (r : ℕ) → r < length p / parent_size → (n : ℕ) (row : List ℕ) → row ≡ take parent_size (drop (parent_size * r) p) →
      n ≡ length (slots_of (parse_parent row)) → n ≡ width (parse_parents p) r
  unfolding width
  parsed_width r h n row e k = rw (parsed_row r h, ← e) k

module _ (o : List ℕ) where
  pub parsed_objects : length (parse_objects o) ≡ length o / object_size
  unfolding parse_objects
  parsed_objects = length-map (object_rows o) parse_object ∙ objects_many o

  pub parsed_object : (r : ℕ) → r < length o / object_size →
      get_or (parse_objects o) r (unused []) ≡ parse_object (take object_size (drop (object_size * r) o))
  unfolding parse_objects object_rows parse_object is_used parse_row
  parsed_object r h =
      get_or-map parse_object (object_rows o) r []
      ∙ ap parse_object (rows_at object_size (length o / object_size) r o h)

-- the slots of a row
module _ (row : List ℕ) where
  pub slots_unused : is_used row ≡ false → 0 ≡ length (slots_of (parse_parent row))
  unfolding parse_parent slots_of parse_row
  slots_unused h = rw h

  pub slots_used : is_used row ≡ true → stripe_count (layout_bytes row) ≡ length (slots_of (parse_parent row))
  unfolding parse_parent slots_of decode_parent decode_layout stripe_count parse_row
  slots_used h = rw (h, length_slots (stripe_count (layout_bytes row)) (drop (slot_start (layout_bytes row)) (layout_bytes row)))

-- ## Which exist

module _ (p : List ℕ) (row part : ℕ) where
  pub one_past : length p / parent_size ≤ row → false ≡ in_stage_one (parse_parents p) row part
  unfolding in_stage_one
  one_past h = rw (parsed_parents p, le-ltb _ _ h)

  pub one_part : row < length p / parent_size → (n : ℕ) → n ≡ width (parse_parents p) row → leb part n ≡ in_stage_one (parse_parents p) row part
  unfolding in_stage_one
  one_part h n e = rw (parsed_parents p, lt-ltb _ _ h, e)

module _ (o : List ℕ) (row part : ℕ) where
  pub two_past : length o / object_size ≤ row → false ≡ in_stage_two (parse_objects o) row part
  unfolding in_stage_two
  two_past h = rw (parsed_objects o, le-ltb _ _ h)

  pub two_part : row < length o / object_size → eqb part 0 ≡ in_stage_two (parse_objects o) row part
  unfolding in_stage_two
  two_part h = rw (parsed_objects o, lt-ltb _ _ h)

module _ (p : Position) where
  pub end_stage : (p.stage ≡ 3 → ⊥) → false ≡ is_end p
  unfolding is_end
  end_stage h = rw (ne_eqb _ _ h)

  pub end_row : p.stage ≡ 3 → (p.row ≡ 0 → ⊥) → false ≡ is_end p
  unfolding is_end
  end_row h k = rw (eq-eqb _ _ h, ne_eqb _ _ k)

  pub end_part : p.stage ≡ 3 → p.row ≡ 0 → eqb p.part 0 ≡ is_end p
  unfolding is_end
  end_part h k = rw (eq-eqb _ _ h, eq-eqb _ _ k)

or_off : (b : Bool) → b ≡ (b || false || false)
or_off true = refl
or_off false = refl

or_mid : (b : Bool) → b ≡ (false || b || false)
or_mid true = refl
or_mid false = refl

-- an existing position of a stage, and of the end
module _ (T : Tables) (p : Position) where
  pub position_one : p.stage ≡ 1 → in_stage_one T.parents p.row p.part ≡ is_position T p
  unfolding is_position is_end
  position_one h = rw h (or_off (in_stage_one T.parents p.row p.part))

  pub position_two : p.stage ≡ 2 → in_stage_two T.objects p.row p.part ≡ is_position T p
  unfolding is_position is_end
  position_two h = rw h (or_mid (in_stage_two T.objects p.row p.part))

  pub position_end : (p.stage ≡ 1 → ⊥) → (p.stage ≡ 2 → ⊥) → is_end p ≡ is_position T p
  unfolding is_position
  position_end h k = rw (ne_eqb _ _ h, ne_eqb _ _ k)

-- a row of an existing position
pub one_row : (p : List ℕ) (row part : ℕ) → in_stage_one (parse_parents p) row part ≡ true → row < length p / parent_size
unfolding in_stage_one
one_row p row part h =
    rw (parsed_parents p) at (ltb-true row (length (parse_parents p)) (and_first (ltb row (length (parse_parents p))) (leb part (width (parse_parents p) row)) h))

pub two_row : (o : List ℕ) (row part : ℕ) → in_stage_two (parse_objects o) row part ≡ true → row < length o / object_size
unfolding in_stage_two
two_row o row part h = rw (parsed_objects o) at (ltb-true row (length (parse_objects o)) (and_first (ltb row (length (parse_objects o))) (eqb part 0) h))

-- ## The next

module _ (o : List ℕ) where
  pub object_past : (r : ℕ) → length o / object_size ≤ r → place 3 0 0 ≡ from_object (parse_objects o) r
  unfolding from_object
  object_past r h = rw (parsed_objects o, le-ltb _ _ h)

  pub object_is_lem : (r : ℕ) → r < length o / object_size → place 2 r 0 ≡ from_object (parse_objects o) r
  unfolding from_object
  object_is_lem r h = rw (parsed_objects o, lt-ltb _ _ h)

module _ (p o : List ℕ) where
  pub parent_past : (r : ℕ) → length p / parent_size ≤ r → from_object (parse_objects o) 0 ≡ from_parent (parse p o) r
  unfolding from_parent
  parent_past r h = rw (parsed_parents p, le-ltb _ _ h)

  pub parent_is : (r : ℕ) → r < length p / parent_size → place 1 r 0 ≡ from_parent (parse p o) r
  unfolding from_parent
  parent_is r h = rw (parsed_parents p, lt-ltb _ _ h)

module _ (T : Tables) (r part n : ℕ) (e : n ≡ width T.parents r) where
  pub part_past : n ≤ part → from_parent T (r + 1) ≡ after_part T r part
  unfolding after_part
  part_past h = rw (← e, le-ltb _ _ h, add-one)

  pub part_next : part < n → place 1 r (part + 1) ≡ after_part T r part
  unfolding after_part
  part_next h = rw (← e, lt-ltb _ _ h, add-one)

module _ (T : Tables) (p : Position) where
  pub next_one : p.stage ≡ 1 → after_part T p.row p.part ≡ next T p
  unfolding next
  next_one h = rw (eq-eqb _ _ h)

  pub next_two : p.stage ≡ 2 → from_object T.objects (p.row + 1) ≡ next T p
  unfolding next
  next_two h = rw (add-one, h)

  pub next_end : (p.stage ≡ 1 → ⊥) → (p.stage ≡ 2 → ⊥) → place 3 0 0 ≡ next T p
  unfolding next
  next_end h k = rw (ne_eqb _ _ h, ne_eqb _ _ k)

-- ## The count

-- the steps of rows, one after another
pub steps_of : List (List ℕ) → ℕ
steps_of ls = row_steps (map parse_parent ls)

pub steps_start : (p : List ℕ) → row_steps (parse_parents p) ≡ steps_of (parent_rows p)
unfolding parse_parents steps_of
steps_start p = refl

pub steps_end : (ls : List (List ℕ)) → ls ≡ [] → steps_of ls ≡ 0
unfolding steps_of row_steps
steps_end ls e = rw e

pub steps_step : (ls rest : List (List ℕ)) (row : List ℕ) (w : ℕ) → ls ≡ row ∷ rest → w ≡ length (slots_of (parse_parent row)) → steps_of ls ≡ 1 + w + steps_of rest
unfolding steps_of row_steps
steps_step ls rest row w e k = rw (e, k) (omega arith)

pub count_is : (p o : List ℕ) (m n : ℕ) → m ≡ row_steps (parse_parents p) → n ≡ length o / object_size → m + n ≡ count_steps (parse p o)
unfolding count_steps
count_is p o m n e f = rw (e, f, parsed_objects o)
