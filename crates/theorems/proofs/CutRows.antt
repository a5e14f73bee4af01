-- Records stored in the bytes of a table are rows set in its records. Assumes nothing.
use Prim.Native.Nat.{ℕ, zero, suc, ◌+◌, ◌*◌, ◌<◌}
use native.Mathlib.Nat.{mul-zero, mul-suc, zero-add, suc-add}
use native.Mathlib.Omega.{arith}
use mathlib.Core.Path.{◌≡◌, refl, sym, ap, ◌∙◌}
use mathlib.Core.List.{List, [], ◌∷◌, ◌++◌, map}
use lib.ListN.{length, get_or, take, drop, set, replicate, length-set}
use lib.Seq.{sets, take-nil, drop-nil, take_at, drop-append-add}
use Rattle.wire.proofs.Splice.{sets_mid, sets_whole}
use Rattle.tables.specs.Records.{unused, Tables}
use Rattle.tables.specs.Bytes.{parent_size, object_size, render_row, render_parent, render_object, parse, join, render_parents, render_objects}
use Rattle.tables.specs.Positions.{row_at}
use Rattle.tables.proofs.WritableRows.{FitParent, FitObject, parent_length, object_length}
use Rattle.tables.proofs.ParseLaws.{FitTables, tables_read_back}
use Rattle.rules.specs.Rows.{object_at}
use Rattle.rules.specs.Repairs.{destroyed, put_parent, put_object}
use Rattle.rules.specs.Cuts.{Target, object_record, destroyed_record, parent_record}
use Rattle.theorems.specs.Calls.{Lent}
use Rattle.theorems.specs.Cuts.{copy_row, stored, stored_all}
use Rattle.theorems.proofs.Written.{written}

-- ## Runs of stores

module _ {A : Type 0} where
  sets_one : (x : A) (l vs : List A) (i : ℕ) → sets (x ∷ l) (suc i) vs ≡ x ∷ sets l i vs
  sets_one x l [] i = refl
  sets_one x l (v ∷ vs) i = sets_one x (set l i v) vs (suc i)

  -- past the first list
  sets_past : (p l vs : List A) (i : ℕ) → sets (p ++ l) (length p + i) vs ≡ p ++ sets l i vs
  sets_past [] l vs i = rw zero-add
  sets_past (x ∷ p) l vs i = rw (suc-add, sets_one x (p ++ l) vs (length p + i)) (ap (λ (t : List A). x ∷ t) (sets_past p l vs i))

  -- over the first list
  sets_over : (p l vs : List A) → length p ≡ length vs → sets (p ++ l) 0 vs ≡ vs ++ l
  sets_over p l vs e =
      let m : sets (p ++ l) 0 vs ≡ sets p 0 vs ++ l = sets_mid [] l vs p 0 (omega arith) in
      m ∙ ap (λ (t : List A). t ++ l) (sets_whole vs p e)

-- ## One table

module _ {R : Type 0} (write : R → List ℕ) (size : ℕ) (d : R) where
  -- each row is written in so many bytes
  Sized : List R → Type 0
  Sized ws = (r : ℕ) → r < length ws → length (write (get_or ws r d)) ≡ size

  copy_row_lem : (xs ys : List R) (i : ℕ) → Sized xs → Sized ys → length xs ≡ length ys →
      copy_row size (join (map write ys)) i (join (map write xs)) ≡ join (map write (set xs i (get_or ys i d)))
  unfolding Sized copy_row join
  copy_row_lem [] [] i a b e = rw (drop-nil (size * i), take-nil size)
  copy_row_lem [] (y ∷ ys) i a b e = absurd (omega arith)
  copy_row_lem (x ∷ xs) [] i a b e = absurd (omega arith)
  copy_row_lem (x ∷ xs) (y ∷ ys) zero a b e =
      let p : length (write x) ≡ size = a 0 (omega arith) in
      let q : length (write y) ≡ size = b 0 (omega arith) in
      rw (mul-zero, take_at (write y) (join (map write ys)) size q) (sets_over (write x) (join (map write xs)) (write y) (omega arith))
  copy_row_lem (x ∷ xs) (y ∷ ys) (suc i) a b e =
      let p : length (write x) ≡ size = a 0 (omega arith) in
      let q : length (write y) ≡ size = b 0 (omega arith) in
      let m : size * suc i ≡ length (write x) + size * i = omega (arith, mul-suc size i) in
      let n : length (write x) + size * i ≡ length (write y) + size * i = omega arith in
      let z : drop (length (write x) + size * i) (write y ++ join (map write ys)) ≡ drop (size * i) (join (map write ys)) =
      ap (λ (k : ℕ). drop k (write y ++ join (map write ys))) n ∙ drop-append-add (write y) (join (map write ys)) (size * i) in
      rw (m, z, sets_past (write x) (join (map write xs)) (take size (drop (size * i) (join (map write ys)))) (size * i))
      (ap (λ (t : List ℕ). write x ++ t) (copy_row_lem xs ys i (λ r k. a (suc r) (omega arith)) (λ r k. b (suc r) (omega arith)) (omega arith)))

  -- a row of the bytes
  row_of : (ws : List R) (i : ℕ) → Sized ws → i < length ws → take size (drop (size * i) (join (map write ws))) ≡ write (get_or ws i d)
  unfolding Sized join
  row_of [] i a h = absurd (omega arith)
  row_of (w ∷ ws) zero a h =
      let p : length (write w) ≡ size = a 0 (omega arith) in
      rw (mul-zero, take_at (write w) (join (map write ws)) size p)
  row_of (w ∷ ws) (suc i) a h =
      let p : length (write w) ≡ size = a 0 (omega arith) in
      let m : size * suc i ≡ length (write w) + size * i = omega (arith, mul-suc size i) in
      rw (m, drop-append-add (write w) (join (map write ws)) (size * i)) (row_of ws i (λ r k. a (suc r) (omega arith)) (omega arith))

-- what holds of every row of both tables holds of every row of a table with one row copied
module _ {R : Type 0} (P : R → Type 0) (d : R) where
  Each : List R → Type 0
  Each ws = (r : ℕ) → r < length ws → P (get_or ws r d)

  copy_each : (xs ys : List R) (i : ℕ) → Each xs → Each ys → length xs ≡ length ys → Each (set xs i (get_or ys i d))
  unfolding Each
  copy_each [] ys i a b e = a
  copy_each (x ∷ xs) [] i a b e = absurd (omega arith)
  copy_each (x ∷ xs) (y ∷ ys) zero a b e = go
    where
      go : (r : ℕ) → r < length (y ∷ xs) → P (get_or (y ∷ xs) r d)
      go zero k = b 0 (omega arith)
      go (suc r) k = a (suc r) (omega arith)
  copy_each (x ∷ xs) (y ∷ ys) (suc i) a b e = go (copy_each xs ys i (λ r k. a (suc r) (omega arith)) (λ r k. b (suc r) (omega arith)) (omega arith))
    where
      go : ((r : ℕ) → r < length (set xs i (get_or ys i d)) → P (get_or (set xs i (get_or ys i d)) r d)) →
          (r : ℕ) → r < length (x ∷ set xs i (get_or ys i d)) → P (get_or (x ∷ set xs i (get_or ys i d)) r d)
      go ih zero k = a 0 (omega arith)
      go ih (suc r) k = ih r (omega arith)

-- ## Both tables

-- record x of the tables Y, put in the tables X
unfoldable pub copied : Tables → Target → Tables → Tables
copied Y (object_record o) X = put_object X o (object_at Y.objects o)
copied Y (destroyed_record o) X = put_object X o (object_at Y.objects o)
copied Y (parent_record r) X = put_parent X r (row_at Y.parents r)

unfoldable pub copied_all : Tables → List Target → Tables → Tables
copied_all Y [] X = X
copied_all Y (x ∷ xs) X = copied_all Y xs (copied Y x X)

-- tables of the same numbers of rows, which can all be written
pub record Alike (X Y : Tables) : Type 0 where
  pub fits : FitTables X
  pub others : FitTables Y
  pub tall : length X.parents ≡ length Y.parents
  pub size : length X.objects ≡ length Y.objects

sized_parents : (X : Tables) → FitTables X → Sized render_parent parent_size (unused []) X.parents
unfolding Sized
sized_parents X f r k = parent_length (get_or X.parents r (unused [])) (f.parents r k)

sized_objects : (X : Tables) → FitTables X → Sized render_object object_size (unused []) X.objects
unfolding Sized
sized_objects X f r k = object_length (get_or X.objects r (unused [])) (f.objects r k)

module _ (Y : Tables) where
  stored_objects : (X : Tables) (o : ℕ) → Alike X Y →
      copy_row object_size (render_objects Y) o (render_objects X) ≡ render_objects (put_object X o (object_at Y.objects o))
  unfolding render_objects put_object object_at
  stored_objects X o h =
      copy_row_lem render_object object_size (unused []) X.objects Y.objects o (sized_objects X h.fits) (sized_objects Y h.others) h.size

  stored_parents : (X : Tables) (r : ℕ) → Alike X Y →
      copy_row parent_size (render_parents Y) r (render_parents X) ≡ render_parents (put_parent X r (row_at Y.parents r))
  unfolding render_parents put_parent row_at
  stored_parents X r h =
      copy_row_lem render_parent parent_size (unused []) X.parents Y.parents r (sized_parents X h.fits) (sized_parents Y h.others) h.tall

  alike_object : (X : Tables) (o : ℕ) → Alike X Y → Alike (put_object X o (object_at Y.objects o)) Y
  unfolding put_object object_at Each
  alike_object X o h =
      record {
        fits = record {
          parents = h.fits.parents;
          objects = copy_each FitObject (unused []) X.objects Y.objects o h.fits.objects h.others.objects h.size;
        };
        others = h.others;
        tall = h.tall;
        size = length-set X.objects o (get_or Y.objects o (unused [])) ∙ h.size;
      }

  alike_parent : (X : Tables) (r : ℕ) → Alike X Y → Alike (put_parent X r (row_at Y.parents r)) Y
  unfolding put_parent row_at Each
  alike_parent X r h =
      record {
        fits = record {
          parents = copy_each FitParent (unused []) X.parents Y.parents r h.fits.parents h.others.parents h.tall;
          objects = h.fits.objects;
        };
        others = h.others;
        tall = length-set X.parents r (get_or Y.parents r (unused [])) ∙ h.tall;
        size = h.size;
      }

  pub stored_copied : (X : Tables) (x : Target) → Alike X Y → stored (written Y) x (written X) ≡ written (copied Y x X)
  unfolding stored written copied put_object put_parent render_parents render_objects
  stored_copied X (object_record o) h = λ i. record { parents = render_parents X; objects = stored_objects X o h i }
  stored_copied X (destroyed_record o) h = λ i. record { parents = render_parents X; objects = stored_objects X o h i }
  stored_copied X (parent_record r) h = λ i. record { parents = stored_parents X r h i; objects = render_objects X }

  pub alike_copied : (X : Tables) (x : Target) → Alike X Y → Alike (copied Y x X) Y
  unfolding copied
  alike_copied X (object_record o) h = alike_object X o h
  alike_copied X (destroyed_record o) h = alike_object X o h
  alike_copied X (parent_record r) h = alike_parent X r h

  -- the records stored in the bytes of the tables X as they stand in the bytes of the tables Y
  pub stored_written : (X : Tables) (xs : List Target) → Alike X Y → stored_all (written Y) xs (written X) ≡ written (copied_all Y xs X)
  unfolding stored_all copied_all
  stored_written X [] h = refl
  stored_written X (x ∷ xs) h =
      ap (λ (t : Lent). stored_all (written Y) xs t) (stored_copied X x h) ∙ stored_written (copied Y x X) xs (alike_copied X x h)

  -- one that changes nothing in the bytes changes nothing in the records
  pub stored_stays : (X : Tables) (x : Target) → Alike X Y → stored (written Y) x (written X) ≡ written X → copied Y x X ≡ X
  unfolding written
  stored_stays X x h e =
      let q : written (copied Y x X) ≡ written X = sym (stored_copied X x h) ∙ e in
      sym (tables_read_back (copied Y x X) (alike_copied X x h).fits) ∙ ap (λ (t : Lent). parse t.parents t.objects) q ∙ tables_read_back X h.fits

-- "A destroyed row becomes zero throughout"
pub destroyed_zero : (Y : Tables) → FitTables Y → (k : ℕ) → k < length Y.objects → object_at Y.objects k ≡ destroyed →
    take object_size (drop (object_size * k) (render_objects Y)) ≡ replicate object_size 0
unfolding render_objects object_at render_object render_row destroyed
destroyed_zero Y f k h e = row_of render_object object_size (unused []) Y.objects k (sized_objects Y f) h ∙ ap render_object e
