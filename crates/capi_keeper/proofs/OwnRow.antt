-- One row of a table that passes: it passes too, and says of its object what the table says; so the answer for that object is the same. Assumes nothing.
use mathlib.Core.Path.{◌≡◌, refl, sym, ap, ◌∙◌}
use Rattle.std.specs.Prelude.{Option, Some, None}
use mathlib.Core.List.{List, [], ◌∷◌}
use mathlib.Core.Bool.{Bool, true, false, cond, ◌&&◌}
use Prim.Native.Nat.{ℕ, ◌*◌, ◌/◌, ◌<◌}
use native.Mathlib.Omega.{arith}
use lib.ListN.{length, take, drop}
use lib.Seq.{take_all}
use Rattle.wire.specs.Rows.{rows}
use Rattle.wire.proofs.Both.{and_first, and_second}
use Rattle.fid.specs.declared.OstFid.{OstFid}
use Rattle.tables.specs.Records.{ObjectRow}
use Rattle.tables.specs.Bytes.{object_size, is_used, object_rows, parent_rows, reserve_entries, parse_object, parse_objects}
use Rattle.tables.specs.Check.{all, when_used, whole_rows, used_mark, fresh_mark, parents_whole, objects_whole, tables_whole, reserve_whole, good_parent, good_object, good_entry, good_fids, none_twice, has_self, all_different, Sound}
use Rattle.tables.proofs.AllLaws.{row_fits, part_length, all_at}
use Rattle.tables.proofs.CheckLaws.{sound_pass, pass_sound}
use Rattle.tables.proofs.SoundLaws.{sound_facts}
use Rattle.rules.specs.Rows.{object_row, object_of, object_in_row, is_object, first_row}
use Rattle.rules.specs.Search.{row_from}
use Rattle.rules.specs.Keeper.{keeper}
use Rattle.rules.specs.Compared.{compared}
use Rattle.search.proofs.ParsedRows.{parsed_object}
use Rattle.search.proofs.FoundRows.{object_inside, object_found, lookup_missing, lookup_present}
use Rattle.capi_keeper.specs.Keepers.{asked, good_asked, keeper_number, keeper_numbers}
use Rattle.capi_keeper.specs.OwnRow.{row_alone, own_row, OwnRowAlone}
use Rattle.capi_keeper.proofs.AskedLaws.{refused, number_good, number_bad}

-- a table of one row
module _ (row : List ℕ) (n : length row ≡ object_size) where
  one_row : object_rows row ≡ row ∷ []
  unfolding object_rows rows
  one_row = rw (n, take_all object_size row (omega arith))

  row_whole : used_mark row ≡ true → when_used fresh_mark row ≡ true → objects_whole row ≡ true
  unfolding objects_whole whole_rows all
  row_whole u v = rw (one_row, n, u, v)

  row_good : when_used good_object row ≡ true → all (when_used good_object) (object_rows row) ≡ true
  unfolding all
  row_good g = rw (one_row, g)

  row_differs : none_twice (object_rows row) ≡ true
  unfolding none_twice has_self
  row_differs = rw one_row (go (is_used row))
    where
      go : (b : Bool) → (cond b true true && true) ≡ true
      go true = refl
      go false = refl

module _ (p o : List ℕ) (sound : Sound p o) where
  -- the parents with other objects
  swap : (q : List ℕ) → objects_whole q ≡ true → all (when_used good_object) (object_rows q) ≡ true → none_twice (object_rows q) ≡ true → Sound p q
  unfolding tables_whole good_fids all_different
  swap q w g d =
      let k = sound_pass p o sound in
      let pw = and_first (parents_whole p) (objects_whole o) (and_first (parents_whole p && objects_whole o) (reserve_whole []) k.whole) in
      let none = and_second (parents_whole p && objects_whole o) (reserve_whole []) k.whole in
      let pp = all (when_used good_parent) (parent_rows p) in
      let oo = all (when_used good_object) (object_rows o) in
      let ee = all good_entry (reserve_entries []) in
      let pg = and_first pp oo (and_first (pp && oo) ee k.fids) in
      let eg = and_second (pp && oo) ee k.fids in
      let pd = and_first (none_twice (parent_rows p)) (none_twice (object_rows o)) k.different in
      pass_sound p q (record { whole = rw (pw, w, none); layouts = k.layouts; fids = rw (pg, g, eg); different = rw (pd, d) })

  -- no row of it
  none_sound : Sound p []
  unfolding objects_whole whole_rows all none_twice object_rows rows
  none_sound = swap [] refl refl refl

  module _ (r : ℕ) (h : r < length o / object_size) where
    row_length : length (take object_size (drop (object_size * r) o)) ≡ object_size
    row_length = part_length object_size r o (row_fits object_size r (length o) (omega arith) h)

    -- one row of it
    row_sound : Sound p (take object_size (drop (object_size * r) o))
    unfolding object_rows
    row_sound =
        let k = sound_facts p o sound in
        let n = length o / object_size in
        let row = take object_size (drop (object_size * r) o) in
        swap row (row_whole row row_length (all_at used_mark object_size n r o k.objects_marks h) (all_at (when_used fresh_mark) object_size n r o k.fresh_marks h))
        (row_good row row_length (all_at (when_used good_object) object_size n r o k.objects h)) (row_differs row row_length)

-- ## What it says of its object

first_one : (x : ObjectRow) (f : OstFid) → is_object f x ≡ true → object_row (x ∷ []) f ≡ Some 0
unfolding object_row first_row row_from
first_one x f t = ap (λ (b : Bool). elim b [ true ↦ Some 0 | false ↦ None ]) t

first_is : (row : List ℕ) (f : OstFid) → length row ≡ object_size → is_object f (parse_object row) ≡ true → object_row (parse_objects row) f ≡ Some 0
unfolding parse_objects
first_is row f n t = rw (one_row row n) (first_one (parse_object row) f t)

module _ (o : List ℕ) (f : OstFid) where
  none_says : object_row (parse_objects o) f ≡ None → object_of (parse_objects []) f ≡ object_of (parse_objects o) f
  unfolding object_of object_in_row object_row first_row row_from parse_objects object_rows rows
  none_says e = lookup_missing o f e

  row_says : (r : ℕ) → object_row (parse_objects o) f ≡ Some r → object_of (parse_objects (take object_size (drop (object_size * r) o))) f ≡ object_of (parse_objects o) f
  row_says r e =
      let row = take object_size (drop (object_size * r) o) in
      let h = object_inside o f r e in
      let n : length row ≡ object_size = part_length object_size r o (row_fits object_size r (length o) (omega arith) h) in
      let t : is_object f (parse_object row) ≡ true = ap (is_object f) (sym (parsed_object o r h)) ∙ object_found o f r e in
      sym (lookup_present row f 0 row (first_is row f n t) (sym (take_all object_size row (omega arith)))) ∙ lookup_present o f r row e refl

-- ## So the answer is the same

module _ (p o q : List ℕ) (s i : ℕ) where
  -- of objects that pass alike
  number_alike : Sound p o → Sound p q → keeper_number p q s i ≡ keeper_number p o s i
  unfolding Sound
  number_alike k h = go (good_asked s i) refl
    where
      go : (b : Bool) → good_asked s i ≡ b → keeper_number p q s i ≡ keeper_number p o s i
      go true g = sym (number_good p q s i g) ∙ h ∙ sym k ∙ number_good p o s i g
      go false g = sym (number_bad p q s i g) ∙ ap refused (h ∙ sym k) ∙ number_bad p o s i g

  -- and say the same of the FID
  numbers_alike : object_of (parse_objects q) (asked s i) ≡ object_of (parse_objects o) (asked s i) → keeper_numbers p q s i ≡ keeper_numbers p o s i
  unfolding keeper_numbers keeper compared
  numbers_alike e = rw e

pub own_row_alone : OwnRowAlone
unfolding OwnRowAlone own_row row_alone
own_row_alone p o s i sound = go (object_row (parse_objects o) (asked s i)) refl
  where
    go : (a : Option ℕ) → object_row (parse_objects o) (asked s i) ≡ a →
        (keeper_number p (row_alone o a) s i ≡ keeper_number p o s i) × (keeper_numbers p (row_alone o a) s i ≡ keeper_numbers p o s i)
    go None e = (number_alike p o [] s i sound (none_sound p o sound), numbers_alike p o [] s i (none_says o (asked s i) e))
    go (Some r) e =
        let row = take object_size (drop (object_size * r) o) in
        (number_alike p o row s i sound (row_sound p o sound r (object_inside o (asked s i) r e)), numbers_alike p o row s i (row_says o (asked s i) r e))
