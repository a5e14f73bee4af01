-- Which object a redirect uses again, as the code asks row by row, and what it writes. Assumes nothing.
use mathlib.Core.Path.{◌≡◌, refl, sym, ap, ◌∙◌}
use Rattle.std.specs.Prelude.{Some}
use mathlib.Core.List.{List}
use mathlib.Core.Bool.{Bool, true, false, not, ◌&&◌, true≢false}
use Prim.Native.Nat.{ℕ, ◌*◌, ◌/◌, ◌<◌}
use native.Mathlib.Omega.{arith}
use lib.ListN.{length, take, drop}
use Rattle.layout.specs.declared.Slot.{Slot}
use Rattle.tables.specs.Records.{ParentRow, used}
use Rattle.tables.specs.Bytes.{object_size, is_used, decode_parent, decode_object, parse_object, parse_objects}
use Rattle.tables.specs.declared.Object.{Object}
use Rattle.tables.specs.declared.Owner.{Owner}
use Rattle.tables.specs.declared.Place.{Place}
use Rattle.rules.specs.Rows.{owner_of, named, object_at, first_row, same_owner}
use Rattle.rules.specs.Places.{claims}
use Rattle.rules.specs.Repairs.{with_owner, owner_write, slot_for, is_reusable, reuse}
use Rattle.rules.specs.declared.Write.{Write}
use Rattle.rules.specs.declared.Write.TheVariants.{Nothing, Object as PutObject, Slot as PutSlot}
use Rattle.rules.specs.declared.Repair.TheVariants.{OfMultiple}
use Rattle.rules.specs.declared.Step.TheVariants.{Repairs}
use Rattle.rules.proofs.Searches.{from_row_is}
use Rattle.tables.proofs.PositionLaws.{parsed_objects}
use Rattle.rules.specs.Search.{row_from}
use Rattle.search.proofs.ParsedRows.{first_object_is, object_used, object_unused, parsed_object}
use Rattle.stores.specs.UsedRow.{row_bytes, UsedAt}
use Rattle.writes.specs.Plan.{Decides}
use Rattle.writes.proofs.RowLaws.{row_says}

-- ## The owner

pub owner_same : (k : ℕ) (x : Object) (w : Owner) → same_owner x.owner w ≡ true → Nothing ≡ owner_write k x w
unfolding owner_write
owner_same k x w e = rw e

pub owner_other : (k : ℕ) (x : Object) (w : Owner) → same_owner x.owner w ≡ false → PutObject k (with_owner x w) ≡ owner_write k x w
unfolding owner_write
owner_other k x w e = rw e

-- ## A row

module _ (rows : List ParentRow) (home : Place) (row : List ℕ) where
  pub not_there : is_used row ≡ false → false ≡ is_reusable rows home (parse_object row)
  unfolding is_reusable
  not_there u = rw (object_unused row u)

  module _ (u : is_used row ≡ true) (x : Object) (e : x ≡ decode_object row) where
    pub not_claimed : (x.fresh && claims x.claim home) ≡ false → false ≡ is_reusable rows home (parse_object row)
    unfolding is_reusable
    not_claimed s = rw (object_used row u, ← e, s)

    pub unless_named : (x.fresh && claims x.claim home) ≡ true → (b : Bool) → b ≡ named rows x.fid → not b ≡ is_reusable rows home (parse_object row)
    unfolding is_reusable
    unless_named s b t = rw (object_used row u, ← e, s) (ap not t)

-- ## The first row

pub reusable_rows : (rows : List ParentRow) (home : Place) (o : List ℕ) →
    first_row (parse_objects o) (is_reusable rows home) ≡ row_from (length o / object_size) 0 (λ i. is_reusable rows home (parse_object (take object_size (drop (object_size * i) o))))
reusable_rows rows home o = first_object_is o (is_reusable rows home)

-- it lies in the table, and its row is used
module _ (o : List ℕ) (rows : List ParentRow) (home : Place) (i : ℕ) (e : first_row (parse_objects o) (is_reusable rows home) ≡ Some i) where
  pub reusable_inside : i < length o / object_size
  unfolding first_row
  reusable_inside = let k = (from_row_is _ 0 _ i e).1 in omega (arith, parsed_objects o)

  reusable_there : is_reusable rows home (object_at (parse_objects o) i) ≡ true
  unfolding first_row object_at
  reusable_there = (from_row_is _ 0 (λ r. is_reusable rows home (object_at (parse_objects o) r)) i e).0

  pub reusable_used : is_used (take object_size (drop (object_size * i) o)) ≡ true
  reusable_used = go (is_used (take object_size (drop (object_size * i) o))) refl
    where
      go : (b : Bool) → is_used (take object_size (drop (object_size * i) o)) ≡ b → b ≡ true
      go true u = refl
      go false u =
          absurd (true≢false (sym reusable_there ∙ ap (is_reusable rows home) (parsed_object o i reusable_inside)
          ∙ sym (not_there rows home (take object_size (drop (object_size * i) o)) u)))

-- ## The writes

module _ (p o : List ℕ) (r j i : ℕ) (u : UsedAt p r) (row : List ℕ) (e : row ≡ row_bytes p r) (w : Owner) (g : w ≡ (decode_parent row).owner)
    (k : i < length o / object_size) (line : List ℕ) (at : line ≡ take object_size (drop (object_size * i) o)) (t : is_used line ≡ true) (x : Object)
    (q : x ≡ decode_object line) where
  object_is_lem : object_at (parse_objects o) i ≡ used x
  object_is_lem = parsed_object o i k ∙ ap parse_object (sym at) ∙ object_used line t ∙ ap (λ (v : Object). used v) (sym q)

  pub reuse_done : (a : Write) (s : Slot) → a ≡ owner_write i x w → s ≡ slot_for x →
      Decides p o (Repairs OfMultiple a (PutSlot r j s) Nothing) (λ T. reuse T.parents r j i (object_at T.objects i))
  unfolding Decides reuse owner_of
  reuse_done a s b c = rw (object_is_lem, row_says p r u row e, ← g, b, c)
