-- The class of a slot, case by case as the code asks. Assumes nothing.
use mathlib.Core.Path.{◌≡◌, refl, sym, ap, ◌∙◌}
use Rattle.std.specs.Prelude.{Option}
use Rattle.tables.specs.declared.Object.{Object}
use Rattle.tables.specs.declared.Place.{Place}
use mathlib.Core.List.{List}
use mathlib.Core.Bool.{Bool, true, false}
use Prim.Native.Nat.{ℕ, ◌*◌, ◌/◌, ◌<◌}
use native.Mathlib.Omega.{arith}
use lib.ListN.{length, get_or, take, drop}
use Rattle.fid.specs.declared.MdtFid.{MdtFid}
use Rattle.fid.specs.declared.OstFid.{OstFid}
use Rattle.layout.specs.declared.Slot.{Slot}
use Rattle.layout.specs.declared.Slot.TheVariants.{Hole, Names}
use Rattle.tables.specs.Records.{ParentRow, used}
use Rattle.tables.specs.Bytes.{parent_size, is_used, decode_parent, parse_parent, parse, parse_parents, parse_objects}
use Rattle.tables.specs.Positions.{slots_of, row_at}
use Rattle.tables.proofs.PositionLaws.{parsed_row}
use Rattle.tables.specs.declared.Owner.{Owner}
use Rattle.rules.specs.Rows.{self_of, owner_of, slot_at, object_of}
use Rattle.rules.specs.Keeper.{claim_in, keeper_by, keeper, is_place}
use Rattle.rules.specs.Classes.{keeper_class, slot_class_of, slot_class}
use Rattle.rules.specs.declared.SlotClass.{SlotClass}
use Rattle.rules.specs.declared.SlotClass.TheVariants.{HOLE, MULTIPLE}
use Rattle.search.proofs.ParsedRows.{parent_used, parent_unused}
use Rattle.search.proofs.KeeperLaws.{keeper_is}
use Rattle.rules.specs.Places.{place_at}

-- a row with a slot that names an object is used
pub names_used : (p row : List ℕ) (r j : ℕ) (f : OstFid) (n i : ℕ) → r < length p / parent_size → row ≡ take parent_size (drop (parent_size * r) p) →
    Names f n i ≡ slot_at (parse_parents p) r j → is_used row ≡ true
unfolding slot_at slots_of
names_used p row r j f n i h at e = go (is_used row) refl
  where
    read : Names f n i ≡ get_or (slots_of (parse_parent row)) j Hole
    read = e ∙ ap (λ (w : ParentRow). get_or (slots_of w) j Hole) (parsed_row p r h ∙ ap parse_parent (sym at))

    go : (b : Bool) → is_used row ≡ b → b ≡ true
    go true u = refl
    go false u =
        let q : Names f n i ≡ Hole = read ∙ ap (λ (w : ParentRow). get_or (slots_of w) j Hole) (parent_unused row u) in
        let z : ◌≡◌ {A = ℕ} 0 1 = cc in
        absurd (omega arith)

module _ (p o : List ℕ) (r j : ℕ) (s : Slot) (e : s ≡ slot_at (parse_parents p) r j) where
  pub class_hole : s ≡ Hole → HOLE ≡ slot_class (parse p o) r j
  unfolding slot_class slot_class_of
  class_hole h = rw (← e, h)

  module _ (f : OstFid) (n i : ℕ) (h : s ≡ Names f n i) (found : Option Object) (q : found ≡ object_of (parse_objects o) f) (c : Option Place) (m : c ≡ claim_in found)
      (k : Option (ℕ × ℕ)) (t : k ≡ keeper_by (parse_parents p) f c) (b : Bool) (d : b ≡ is_place k r j) where
    place_is : is_place (keeper (parse p o) f) r j ≡ b
    place_is = sym (d ∙ ap (λ (a : Option (ℕ × ℕ)). is_place a r j) (t ∙ keeper_is (parse p o) f c (m ∙ ap claim_in q)))

    pub class_multiple : b ≡ false → MULTIPLE ≡ slot_class (parse p o) r j
    unfolding slot_class slot_class_of
    class_multiple z = rw (← e, h, place_is, z)

    pub class_keeper : b ≡ true → (row : List ℕ) (own : MdtFid) (owner : Owner) (a : SlotClass) → r < length p / parent_size →
        row ≡ take parent_size (drop (parent_size * r) p) → own ≡ (decode_parent row).self → owner ≡ (decode_parent row).owner →
        a ≡ keeper_class (place_at own j) i owner found → a ≡ slot_class (parse p o) r j
    unfolding slot_class slot_class_of self_of owner_of
    class_keeper z row own owner a l at x y w =
        let u : is_used row ≡ true = names_used p row r j f n i l at (sym h ∙ e) in
        let v : row_at (parse_parents p) r ≡ used (decode_parent row) = parsed_row p r l ∙ ap parse_parent (sym at) ∙ parent_used row u in
        rw (← e, h, place_is, z, v, ← x, ← y, ← q) w
