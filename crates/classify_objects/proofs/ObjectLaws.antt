-- The class of an object row, case by case as the code asks. Assumes nothing.
use mathlib.Core.Path.{◌≡◌, sym, ap, ◌∙◌}
use Rattle.std.specs.Prelude.{Option, Some}
use mathlib.Core.List.{List}
use mathlib.Core.Bool.{Bool, true, false}
use Prim.Native.Nat.{ℕ, ◌*◌, ◌/◌, ◌<◌}
use lib.ListN.{length, take, drop}
use Rattle.tables.specs.Records.{ObjectRow, unused, used, Tables}
use Rattle.tables.specs.Bytes.{object_size, is_used, decode_object, parse_object, parse, parse_parents, parse_objects}
use Rattle.tables.specs.declared.Object.{Object}
use Rattle.rules.specs.Search.{is_somewhere}
use Rattle.rules.specs.Rows.{object_at, named}
use Rattle.rules.specs.Keeper.{keeper_by}
use Rattle.rules.specs.Places.{way, is_way}
use Rattle.rules.specs.Classes.{unnamed_class, object_class_of, object_class}
use Rattle.rules.specs.declared.Way.{Way}
use Rattle.rules.specs.declared.ObjectClass.{ObjectClass}
use Rattle.rules.specs.declared.ObjectClass.TheVariants.{UNUSED, KEPT, EMPTY, ORPHAN, CONFLICT}
use Rattle.search.proofs.ParsedRows.{parsed_object, object_used, object_unused}
use Rattle.search.proofs.KeeperLaws.{named_kept}
use Rattle.tables.specs.declared.Place.{Place}

-- ## Named by no slot

module _ (T : Tables) (fresh : Bool) (claim : Option Place) (home : Place) (e : claim ≡ Some home) where
  pub class_empty : fresh ≡ true → EMPTY ≡ unnamed_class T fresh claim
  unfolding unnamed_class
  class_empty h = rw (e, h)

  module _ (h : fresh ≡ false) (w : Way) (q : w ≡ way T home) (b : Bool) (t : b ≡ is_way w) where
    way_is : is_way (way T home) ≡ b
    way_is = sym (t ∙ ap is_way q)

    pub class_orphan : b ≡ true → ORPHAN ≡ unnamed_class T fresh claim
    unfolding unnamed_class
    class_orphan k = rw (e, h, way_is, k)

    pub class_conflict : b ≡ false → CONFLICT ≡ unnamed_class T fresh claim
    unfolding unnamed_class
    class_conflict k = rw (e, h, way_is, k)

-- ## A row

module _ (p o : List ℕ) (i : ℕ) (row : List ℕ) (h : i < length o / object_size) (at : row ≡ take object_size (drop (object_size * i) o)) where
  row_is : (x : ObjectRow) → parse_object row ≡ x → object_at (parse_objects o) i ≡ x
  row_is x e = parsed_object o i h ∙ ap parse_object (sym at) ∙ e

  pub class_unused : is_used row ≡ false → UNUSED ≡ object_class (parse p o) i
  unfolding object_class object_class_of
  class_unused u = rw (row_is (unused (drop 1 row)) (object_unused row u))

  module _ (u : is_used row ≡ true) (x : Object) (q : x ≡ decode_object row) (k : Option (ℕ × ℕ)) (t : k ≡ keeper_by (parse_parents p) x.fid x.claim)
      (b : Bool) (d : b ≡ is_somewhere k) where
    named_is : named (parse_parents p) x.fid ≡ b
    named_is = sym (d ∙ ap is_somewhere t ∙ named_kept (parse_parents p) x.fid x.claim)

    used_is : object_at (parse_objects o) i ≡ used x
    used_is = row_is (used (decode_object row)) (object_used row u) ∙ ap (λ (y : Object). used y) (sym q)

    pub class_kept : b ≡ true → KEPT ≡ object_class (parse p o) i
    unfolding object_class object_class_of
    class_kept z = rw (used_is, named_is, z)

    pub class_unnamed : b ≡ false → (c : ObjectClass) → c ≡ unnamed_class (parse p o) x.fresh x.claim → c ≡ object_class (parse p o) i
    unfolding object_class object_class_of
    class_unnamed z c w = rw (used_is, named_is, z) w
