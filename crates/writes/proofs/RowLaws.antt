-- Rows of tables that passed, and decisions of the same step. Assumes nothing.
use mathlib.Core.Path.{◌≡◌, refl, sym, ap, ◌∙◌}
use mathlib.Core.List.{List, [], ◌∷◌}
use mathlib.Core.Bool.{Bool, true, false, cond}
use Prim.Native.Nat.{ℕ, zero, suc, ◌*◌, ◌/◌, ◌<◌}
use native.Mathlib.Omega.{arith}
use lib.ListN.{length, get_or, take, drop}
use Rattle.fid.specs.Fid.{good_file}
use Rattle.fid.specs.declared.OstFid.{OstFid}
use Rattle.layout.specs.declared.Slot.{Slot}
use Rattle.layout.specs.declared.Slot.TheVariants.{Hole, Names}
use Rattle.layout.specs.Layout.{max_slots}
use Rattle.tables.specs.Records.{ParentRow, unused, used, Tables}
use Rattle.tables.specs.Bytes.{parent_size, is_used, decode_parent, parse_parent, parse, parse_row, parse_parents}
use Rattle.tables.specs.Positions.{row_at, slots_of}
use Rattle.tables.specs.Check.{good_layout, good_parent, Sound}
use Rattle.tables.proofs.SoundLaws.{sound_facts, used_passes, layout_at_lem, parent_size_lem, parent_facts}
use Rattle.tables.proofs.PositionLaws.{parsed_row}
use Rattle.rules.specs.Rows.{slot_at}
use Rattle.search.proofs.ParsedRows.{parent_used}
use Rattle.stores.specs.UsedRow.{row_bytes, UsedAt}
use Rattle.stores.proofs.RowStores.{used_facts, count_of}
use Rattle.writes.specs.Plan.{Decides}
use Rattle.refusals.specs.declared.Refusal.{Refusal}
use Rattle.rules.specs.declared.Step.{Step}
use Rattle.rules.specs.declared.Step.TheVariants.{Rests, Stops}
use Rattle.writes.specs.Ready.{SlotReady}

-- ## Decisions

module _ (p o : List ℕ) (s : Tables → Step) where
  pub decides_rest : s (parse p o) ≡ Rests → Decides p o Rests s
  unfolding Decides
  decides_rest e = sym e

  pub decides_stop : (n : Refusal) → s (parse p o) ≡ Stops n → Decides p o (Stops n) s
  unfolding Decides
  decides_stop n e = sym e

  -- the same step under another name
  pub decides_same : (t : Tables → Step) (d : Step) → Decides p o d s → s (parse p o) ≡ t (parse p o) → Decides p o d t
  unfolding Decides
  decides_same t d h e = h ∙ e

-- ## Rows

pub row_is : (p : List ℕ) (r : ℕ) → r < length p / parent_size → row_at (parse_parents p) r ≡ parse_parent (row_bytes p r)
unfolding row_bytes
row_is p r k = parsed_row p r k

-- a used row of tables that passed
pub used_at : (p o : List ℕ) (r : ℕ) → Sound p o → r < length p / parent_size → is_used (row_bytes p r) ≡ true → UsedAt p r
unfolding row_bytes good_parent good_file
used_at p o r h k u =
    let row : List ℕ = take parent_size (drop (parent_size * r) p) in
    record {
      inside = omega arith;
      row = record {
        size = parent_size_lem p o h r row k refl;
        used = u;
        layout = used_passes good_layout row (layout_at_lem p row r (sound_facts p o h).layouts k refl) u;
        self = (parent_facts p o h r row k refl u).self;
      };
    }

pub row_inside : (p : List ℕ) (r : ℕ) → UsedAt p r → r < length p / parent_size
row_inside p r u = omega (arith, u.inside)

pub row_says : (p : List ℕ) (r : ℕ) → UsedAt p r → (row : List ℕ) → row ≡ row_bytes p r → row_at (parse_parents p) r ≡ used (decode_parent row)
row_says p r u row e = row_is p r (row_inside p r u) ∙ ap parse_parent (sym e) ∙ parent_used row (ap is_used e ∙ u.row.used)

-- ## A slot that names an object lies in a used row, inside its layout

past : (ss : List Slot) (j : ℕ) (f : OstFid) (n i : ℕ) → get_or ss j Hole ≡ Names f n i → j < length ss
past [] j f n i e = let z : ◌≡◌ {A = ℕ} 0 1 = cc in absurd (omega arith)
past (s ∷ ss) zero f n i e = omega arith
past (s ∷ ss) (suc j) f n i e = let h = past ss j f n i e in omega arith

in_row : (row : List ℕ) (j : ℕ) (f : OstFid) (n i : ℕ) → get_or (slots_of (parse_parent row)) j Hole ≡ Names f n i →
    (is_used row ≡ true) × (j < length (decode_parent row).layout.slots)
unfolding parse_parent parse_row slots_of
in_row row j f n i e = go (is_used row) refl e
  where
    go : (b : Bool) → is_used row ≡ b → get_or (slots_of (cond b (used (decode_parent row)) (unused (drop 1 row)))) j Hole ≡ Names f n i →
        (is_used row ≡ true) × (j < length (decode_parent row).layout.slots)
    go true u q = (u, past (decode_parent row).layout.slots j f n i q)
    go false u q = let z : ◌≡◌ {A = ℕ} 0 1 = cc in absurd (omega arith)

module _ (p o : List ℕ) (r j : ℕ) (h : Sound p o) (k : r < length p / parent_size) (s : Slot) (e : s ≡ slot_at (parse_parents p) r j) (f : OstFid) (n i : ℕ) (q : s ≡ Names f n i) where
  found : (is_used (row_bytes p r) ≡ true) × (j < length (decode_parent (row_bytes p r)).layout.slots)
  unfolding slot_at
  found = in_row (row_bytes p r) j f n i (ap (λ (w : ParentRow). get_or (slots_of w) j Hole) (sym (row_is p r k)) ∙ sym e ∙ q)

  pub slot_ready : SlotReady p o r j
  slot_ready = let c = count_of (row_bytes p r) in record { tables = h; row = used_at p o r h k found.0; slot = omega (arith, found.1) }

  pub slot_few : j < max_slots
  slot_few = let c = slot_ready in let g = used_facts (row_bytes p r) c.row.row in omega (arith, c.slot, g.layout.few)
