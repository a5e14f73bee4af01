-- Headers and slots decided, case by case as the code does it. Assumes nothing.
use Rattle.refusals.specs.declared.Refusal.TheVariants.{NoReserve, NoObjectRow}
use mathlib.Core.Path.{◌≡◌, sym, ap, ◌∙◌}
use Rattle.std.specs.Prelude.{Option, Some, None}
use mathlib.Core.List.{List}
use mathlib.Core.Bool.{true, false, cond}
use Prim.Native.Nat.{ℕ, ◌*◌, ◌/◌, ◌<◌}
use borrow.Author.Tests.{eq-eqb, ne_eqb}
use lib.ListN.{length, take, drop}
use Rattle.fid.specs.declared.MdtFid.{MdtFid}
use Rattle.fid.specs.declared.OstFid.{OstFid}
use Rattle.layout.specs.declared.Slot.{Slot}
use Rattle.layout.specs.declared.Slot.TheVariants.{Hole, Names}
use Rattle.tables.specs.Records.{used}
use Rattle.tables.specs.Bytes.{parent_size, object_size, decode_parent, decode_object, parse_object, parse, parse_reserve, parse_parents, parse_objects}
use Rattle.tables.specs.Positions.{row_at}
use Rattle.tables.specs.Check.{Sound}
use Rattle.tables.specs.declared.Object.{Object}
use Rattle.tables.specs.declared.Owner.{Owner}
use Rattle.rules.specs.Rows.{self_of, owner_of, slot_at, first_row, object_row, object_at, free_object, same_owner}
use Rattle.rules.specs.Classes.{header_class, slot_class}
use Rattle.rules.specs.Repairs.{repair_header, new_object, with_claim, usable, redirect, redirect_to, is_reusable, reusable, reuse, redirect_by, make_object, repair_slot, mend_at, mended, mend_write, index_write, mend_object}
use Rattle.rules.specs.Steps.{slot_step}
use Rattle.rules.specs.declared.HeaderClass.{HeaderClass}
use Rattle.rules.specs.declared.HeaderClass.TheVariants.{UNUSED, SELF, CLEAN as CLEAN-HEADER}
use Rattle.rules.specs.declared.SlotClass.{SlotClass}
use Rattle.rules.specs.declared.SlotClass.TheVariants.{HOLE, MULTIPLE, DANGLING, BLANK, UNMATCHED, WRONGOST as WRONG-OST, OWNER, CLEAN}
use Rattle.rules.specs.declared.Repair.{Repair}
use Rattle.rules.specs.declared.Repair.TheVariants.{OfSelf, OfMultiple, OfDangling, OfBlank, OfUnmatched, OfOwner, OfWrongOst}
use Rattle.search.proofs.ParsedRows.{object_used, parsed_object}
use Rattle.search.proofs.FoundRows.{object_inside, found_used}
use Rattle.stores.specs.UsedRow.{row_bytes, UsedAt}
use Rattle.writes.specs.Plan.{Decides}
use Rattle.rules.specs.declared.Write.{Write}
use Rattle.rules.specs.declared.Write.TheVariants.{Nothing, Object as PutObject, Own, Slot as PutSlot}
use Rattle.rules.specs.declared.Step.TheVariants.{Rests, Repairs, Stops}
use Rattle.writes.proofs.RowLaws.{decides_rest, decides_stop, row_says}
use Rattle.rules.specs.Places.{claims, place_at}
use Rattle.rules.specs.Settings.{Settings, creates}

-- ## Headers

module _ (p o : List ℕ) (r : ℕ) (h : Sound p o) (k : r < length p / parent_size) (c : HeaderClass) (e : c ≡ header_class (row_at (parse_parents p) r)) where
  pub header_unused : c ≡ UNUSED → Decides p o Rests (λ T. repair_header T r (header_class (row_at T.parents r)))
  unfolding repair_header
  header_unused q = decides_rest p o _ (rw (← e, q))

  pub header_clean : c ≡ CLEAN-HEADER → Decides p o Rests (λ T. repair_header T r (header_class (row_at T.parents r)))
  unfolding repair_header
  header_clean q = decides_rest p o _ (rw (← e, q))

  pub header_self : c ≡ SELF → Decides p o (Repairs OfSelf (Own r) Nothing Nothing) (λ T. repair_header T r (header_class (row_at T.parents r)))
  unfolding Decides repair_header
  header_self q = rw (← e, q)

-- ## MULTIPLE and DANGLING

module _ (p o : List ℕ) (r j ost : ℕ) (f : OstFid) where
  pub redirect_none : free_object (parse_objects o) ≡ None → Decides p o (Stops NoObjectRow) (λ T. redirect_to T.parents r j ost f (free_object T.objects))
  unfolding redirect_to
  redirect_none e = decides_stop p o _ NoObjectRow (rw e)

  pub make_none : free_object (parse_objects o) ≡ None → Decides p o (Stops NoObjectRow) (λ T. make_object (new_object T.parents f r j ost) (free_object T.objects))
  unfolding make_object
  make_none e = decides_stop p o _ NoObjectRow (rw e)

  module _ (i : ℕ) (e : free_object (parse_objects o) ≡ Some i) (x : Object) (q : x ≡ new_object (parse_parents p) f r j ost) where
    pub redirect_done : Decides p o (Repairs OfMultiple (PutObject i x) (PutSlot r j (Names f 0 ost)) Nothing) (λ T. redirect_to T.parents r j ost f (free_object T.objects))
    unfolding Decides redirect_to
    redirect_done = rw (e, ← q)

    pub make_done : Decides p o (Repairs OfDangling (PutObject i x) Nothing Nothing) (λ T. make_object (new_object T.parents f r j ost) (free_object T.objects))
    unfolding Decides make_object
    make_done = rw (e, ← q)

module _ (p o res : List ℕ) (r j ost : ℕ) (v : Option OstFid) (e : v ≡ usable (parse p o) (parse_reserve res)) where
  pub reserve_takes : (f : OstFid) → v ≡ Some f → redirect_to (parse_parents p) r j ost f (free_object (parse_objects o)) ≡ redirect (parse p o) r j ost (usable (parse p o) (parse_reserve res))
  unfolding redirect
  reserve_takes f q = rw (← e, q)

  pub reserve_empty : v ≡ None → Decides p o (Stops NoReserve) (λ T. redirect T r j ost (usable T (parse_reserve res)))
  unfolding redirect
  reserve_empty q = decides_stop p o _ NoReserve (rw (← e, q))

-- an object that is there for slot j of the file m, or the reserve
module _ (p o : List ℕ) (settings : Settings) (r j ost : ℕ) where
  pub multiple_off : creates settings.policy ≡ false →
      cond (creates settings.policy) (redirect_by settings (parse p o) r j ost (reusable (parse p o) r j)) Rests ≡ Rests
  multiple_off t = rw t

  module _ (u : UsedAt p r) (row : List ℕ) (e : row ≡ row_bytes p r) (m : MdtFid) (k : m ≡ (decode_parent row).self) (found : Option ℕ)
      (q : found ≡ first_row (parse_objects o) (is_reusable (parse_parents p) (place_at m j))) where
    found_is : found ≡ reusable (parse p o) r j
    unfolding reusable self_of
    found_is = rw (row_says p r u row e, ← k) q

    module _ (t : creates settings.policy ≡ true) where
      pub multiple_none : found ≡ None →
          redirect (parse p o) r j ost (usable (parse p o) settings.reserve)
          ≡ cond (creates settings.policy) (redirect_by settings (parse p o) r j ost (reusable (parse p o) r j)) Rests
      unfolding redirect_by
      multiple_none z = rw (t, ← found_is, z)

      pub multiple_some : (i : ℕ) → found ≡ Some i →
          reuse (parse_parents p) r j i (object_at (parse_objects o) i)
          ≡ cond (creates settings.policy) (redirect_by settings (parse p o) r j ost (reusable (parse p o) r j)) Rests
      unfolding redirect_by
      multiple_some i z = rw (t, ← found_is, z)

-- ## BLANK, UNMATCHED, WRONG-OST and OWNER

module _ (p o : List ℕ) (f : OstFid) (class : Repair) (r j n ost : ℕ) where
  pub mend_absent : object_row (parse_objects o) f ≡ None → Decides p o Rests (λ T. mend_at T class r j f n ost (object_row T.objects f))
  unfolding mend_at
  mend_absent e = decides_rest p o _ (rw e)

  module _ (i : ℕ) (e : object_row (parse_objects o) f ≡ Some i) (row : List ℕ) (at : row ≡ take object_size (drop (object_size * i) o)) (x : Object) (q : x ≡ decode_object row) where
    object_is_lem : object_at (parse_objects o) i ≡ used x
    object_is_lem =
        parsed_object o i (object_inside o f i e) ∙ ap parse_object (sym at) ∙ object_used row (found_used o f i row e at) ∙ ap (λ (v : Object). used v) (sym q)

    pub mend_done : (a b : Write) → a ≡ mend_write (parse_parents p) r j i x → b ≡ index_write r j f n ost x.ost →
        Decides p o (Repairs class a b Nothing) (λ T. mend_at T class r j f n ost (object_row T.objects f))
    unfolding mend_at mend_object Decides
    mend_done a b g k = rw (e, object_is_lem, g, k)

module _ (r j : ℕ) (f : OstFid) (n ost index : ℕ) where
  pub index_right : index ≡ ost → Nothing ≡ index_write r j f n ost index
  unfolding index_write
  index_right e = rw (eq-eqb index ost e)

  pub index_wrong : (index ≡ ost → ⊥) → PutSlot r j (Names f n index) ≡ index_write r j f n ost index
  unfolding index_write
  index_wrong d = rw (ne_eqb index ost d)

-- the object's write, by its claim on slot j of the file m and by its owner, of which the row says w
module _ (p : List ℕ) (r : ℕ) (u : UsedAt p r) (row : List ℕ) (e : row ≡ row_bytes p r) (m : MdtFid) (k : m ≡ (decode_parent row).self) (j o : ℕ) (x : Object) where
  pub mend_claim : claims x.claim (place_at m j) ≡ false → (y : Object) → y ≡ mended (parse_parents p) r j x → PutObject o y ≡ mend_write (parse_parents p) r j o x
  unfolding mend_write self_of
  mend_claim t y q = rw (q, row_says p r u row e, ← k, t)

  module _ (t : claims x.claim (place_at m j) ≡ true) (w : Owner) (g : w ≡ (decode_parent row).owner) where
    pub mend_owner : same_owner x.owner w ≡ false → (y : Object) → y ≡ mended (parse_parents p) r j x → PutObject o y ≡ mend_write (parse_parents p) r j o x
    unfolding mend_write self_of owner_of
    mend_owner s y q = rw (q, row_says p r u row e, ← k, ← g, t, s)

    pub mend_none : same_owner x.owner w ≡ true → Nothing ≡ mend_write (parse_parents p) r j o x
    unfolding mend_write self_of owner_of
    mend_none s = rw (row_says p r u row e, ← k, ← g, t, s)

-- ## Objects made

module _ (p : List ℕ) (r : ℕ) (u : UsedAt p r) (row : List ℕ) (e : row ≡ row_bytes p r) (w : Owner) (g : w ≡ (decode_parent row).owner) (m : MdtFid)
    (k : m ≡ (decode_parent row).self) where
  pub mended_is : (j : ℕ) (x : Object) →
      ◌≡◌ {A = Object} (record { fid = x.fid; ost = x.ost; owner = w; claim = Some (place_at m j); fresh = x.fresh }) (mended (parse_parents p) r j x)
  unfolding mended with_claim owner_of self_of
  mended_is j x = rw (row_says p r u row e, ← g, ← k)

  pub new_is : (f : OstFid) (j ost : ℕ) →
      ◌≡◌ {A = Object} (record { fid = f; ost = ost; owner = w; claim = Some (place_at m j); fresh = true }) (new_object (parse_parents p) f r j ost)
  unfolding new_object owner_of self_of
  new_is f j ost = rw (row_says p r u row e, ← g, ← k)

-- ## A slot by its class

module _ (p o : List ℕ) (settings : Settings) (r j : ℕ) (f : OstFid) (n ost : ℕ) (c : SlotClass) (e : c ≡ slot_class (parse p o) r j) where
  pub slot_hole : c ≡ HOLE → repair_slot settings (parse p o) r j f n ost (slot_class (parse p o) r j) ≡ Rests
  unfolding repair_slot
  slot_hole q = rw (← e, q)

  pub slot_clean : c ≡ CLEAN → repair_slot settings (parse p o) r j f n ost (slot_class (parse p o) r j) ≡ Rests
  unfolding repair_slot
  slot_clean q = rw (← e, q)

  pub slot_dangling_off : c ≡ DANGLING → creates settings.policy ≡ false → repair_slot settings (parse p o) r j f n ost (slot_class (parse p o) r j) ≡ Rests
  unfolding repair_slot
  slot_dangling_off q t = rw (← e, q, t)

  pub slot_multiple : c ≡ MULTIPLE →
      cond (creates settings.policy) (redirect_by settings (parse p o) r j ost (reusable (parse p o) r j)) Rests ≡ repair_slot settings (parse p o) r j f n ost (slot_class (parse p o) r j)
  unfolding repair_slot
  slot_multiple q = rw (← e, q)

  pub slot_dangling : c ≡ DANGLING → creates settings.policy ≡ true → make_object (new_object (parse_parents p) f r j ost) (free_object (parse_objects o)) ≡ repair_slot settings (parse p o) r j f n ost (slot_class (parse p o) r j)
  unfolding repair_slot
  slot_dangling q t = rw (← e, q, t)

  pub slot_blank : c ≡ BLANK → mend_at (parse p o) OfBlank r j f n ost (object_row (parse_objects o) f) ≡ repair_slot settings (parse p o) r j f n ost (slot_class (parse p o) r j)
  unfolding repair_slot
  slot_blank q = rw (← e, q)

  pub slot_unmatched : (g : MdtFid) (i : ℕ) → c ≡ UNMATCHED g i → mend_at (parse p o) OfUnmatched r j f n ost (object_row (parse_objects o) f) ≡ repair_slot settings (parse p o) r j f n ost (slot_class (parse p o) r j)
  unfolding repair_slot
  slot_unmatched g i q = rw (← e, q)

  pub slot_wrong_ost : c ≡ WRONG-OST → mend_at (parse p o) OfWrongOst r j f n ost (object_row (parse_objects o) f) ≡ repair_slot settings (parse p o) r j f n ost (slot_class (parse p o) r j)
  unfolding repair_slot
  slot_wrong_ost q = rw (← e, q)

  pub slot_owner : c ≡ OWNER → mend_at (parse p o) OfOwner r j f n ost (object_row (parse_objects o) f) ≡ repair_slot settings (parse p o) r j f n ost (slot_class (parse p o) r j)
  unfolding repair_slot
  slot_owner q = rw (← e, q)

module _ (p o : List ℕ) (settings : Settings) (r j : ℕ) (s : Slot) (e : s ≡ slot_at (parse_parents p) r j) where
  pub step_hole : s ≡ Hole → slot_step settings (parse p o) r j (slot_at (parse_parents p) r j) ≡ Rests
  unfolding slot_step
  step_hole q = rw (← e, q)

  pub step_names : (f : OstFid) (n i : ℕ) → s ≡ Names f n i →
      repair_slot settings (parse p o) r j f n i (slot_class (parse p o) r j) ≡ slot_step settings (parse p o) r j (slot_at (parse_parents p) r j)
  unfolding slot_step
  step_names f n i q = rw (← e, q)
