-- Tables whose rows can be written, not too many and no FID twice, pass the check once written. Assumes nothing.
use mathlib.Core.Path.{◌≡◌, refl, sym, ap, ◌∙◌}
use Rattle.std.specs.Prelude.{Option, Some, None}
use Rattle.tables.specs.declared.Place.{Place}
use mathlib.Core.List.{List, [], ◌∷◌, map}
use mathlib.Core.Bool.{Bool, true, false, cond, not, ◌&&◌, ◌||◌}
use Prim.Native.Nat.{ℕ, suc, ◌*◌, ◌/◌, ◌≤◌, ◌<◌}
use native.Mathlib.Nat.{mul-div_right}
use native.Mathlib.Omega.{arith}
use borrow.Author.Tests.{eq-eqb, ne_eqb, le-leb}
use lib.Dec.{leb, eqb}
use lib.ListN.{length, get_or, drop}
use Rattle.wire.specs.Numbers.{le}
use Rattle.wire.specs.Rows.{rows}
use Rattle.wire.proofs.Both.{and_first, and_second, and_both}
use Rattle.fid.specs.Fid.{good_fid, good_number, same_fid, zero_fid, good_object as good_object_fid, good_file}
use Rattle.fid.specs.declared.Fid.{Fid}
use Rattle.fid.proofs.FidLaws.{good_positive}
use Rattle.layout.specs.Slot.{max_index}
use Rattle.layout.specs.Layout.{accepted_layout}
use Rattle.layout.proofs.LayoutLaws.{written_accepted}
use Rattle.tables.specs.Records.{Parent, unused, used, Tables, TableRow}
use Rattle.tables.specs.Bytes.{parent_size, object_size, layout_room, is_used, layout_length, layout_bytes, render_parent, claim_fid, mark, render_object, parent_rows, object_rows, render_parents, render_objects, self_fid, claimed_fid, render_row, encode_parent, encode_object, ost_at, fresh_at, join}
use Rattle.tables.specs.Check.{all, when_used, max_parents, max_objects, whole_rows, is_mark, used_mark, fresh_mark, parents_whole, objects_whole, good_layout, good_layouts, good_parent, good_index, good_claim, fresh_claims, good_object, has_self, none_twice, all_different, Sound, is_row_of}
use Rattle.tables.specs.declared.Object.{Object}
use Rattle.fid.proofs.SameLaws.{same_self, same_is}
use Rattle.tables.proofs.Apart.{Apart, file_fid, thing_fid, OnceEach}
use Rattle.tables.proofs.CheckLaws.{tables_sound}
use Rattle.tables.proofs.WritableRows.{FitParent, FitClaim, has_claim, FitObject, file_self, file_room, file_layout, thing_self, thing_index, thing_claim, thing_fresh, FitFile, FitThing, file_long, thing_long}
use Rattle.tables.proofs.ParseLaws.{FitTables, join_length, rows_join}
use Rattle.tables.proofs.EitherRow.{FitRow, row_length, render_marked, row_tested, used_record}

-- ## Rows

parent_layout : (a : Parent) → FitFile a → good_layout (1 ∷ encode_parent a) ≡ true
unfolding good_layout
parent_layout a f =
    and_both (leb (layout_length (1 ∷ encode_parent a)) layout_room) (accepted_layout (layout_bytes (1 ∷ encode_parent a)))
    (le-leb (layout_length (1 ∷ encode_parent a)) layout_room (file_room a f))
    (ap accepted_layout (file_layout a f) ∙ written_accepted a.layout f.layout)

parent_self : (a : Parent) → FitFile a → good_parent (1 ∷ encode_parent a) ≡ true
unfolding good_parent good_file
parent_self a f = ap good_fid (file_self a f) ∙ f.good

mark_small : (b : Bool) → is_mark (mark b) ≡ true
unfolding is_mark mark
mark_small true = refl
mark_small false = refl

fresh_marked : (x : Object) → FitThing x → fresh_mark (1 ∷ encode_object x) ≡ true
unfolding fresh_mark
fresh_marked x f = ap is_mark (thing_fresh x f) ∙ mark_small x.fresh

or_second : (a b : Bool) → b ≡ true → (a || b) ≡ true
or_second true b h = refl
or_second false b h = h

-- a claim that fits is a good one, and one where there is a claim isn't zero
claim_good : (k : Option Place) → FitClaim k → (same_fid (claim_fid k) zero_fid || good_number (claim_fid k)) ≡ true
unfolding FitClaim claim_fid good_fid good_number
claim_good None f = rw (same_self zero_fid)
claim_good (Some p) f =
    or_second (same_fid (claim_fid (Some p)) zero_fid) (good_number p.file.0)
    (and_first (good_number p.file.0) (eqb p.file.0.ver 0) f.1)

claim_nonzero : (k : Option Place) → FitClaim k → has_claim k ≡ true → same_fid (claim_fid k) zero_fid ≡ false
unfolding FitClaim claim_fid has_claim same_fid zero_fid
claim_nonzero None f h = sym h
claim_nonzero (Some p) f h =
    let s : 0 < p.file.0.seq = good_positive p.file.0 f.1 in
    rw (ne_eqb p.file.0.seq 0 (λ e. omega arith))

fresh_has : (b : Bool) (k : Option Place) → FitClaim k → (b ≡ true → has_claim k ≡ true) →
    cond (eqb (mark b) 1) (not (same_fid (claim_fid k) zero_fid)) true ≡ true
unfolding mark
fresh_has true k f h = rw (claim_nonzero k f (h refl))
fresh_has false k f h = refl

object_good : (x : Object) → FitThing x → good_object (1 ∷ encode_object x) ≡ true
unfolding good_object good_object_fid good_index good_claim fresh_claims
object_good x f =
    let row : List ℕ = 1 ∷ encode_object x in
    let a : good_fid (self_fid row) ≡ true = ap good_fid (thing_self x f) ∙ f.good in
    let b : leb (le 4 (drop ost_at row)) max_index ≡ true = le-leb (le 4 (drop ost_at row)) max_index (rw (thing_index x f) f.ost) in
    let d : (same_fid (claimed_fid row) zero_fid || good_number (claimed_fid row)) ≡ true = rw (thing_claim x f) (claim_good x.claim f.claim) in
    let e : cond (eqb (get_or row fresh_at 0) 1) (not (same_fid (claimed_fid row) zero_fid)) true ≡ true =
    rw (thing_fresh x f, thing_claim x f) (fresh_has x.fresh x.claim f.claim f.fresh) in
    rw (a, b, d, e)

-- ## A table

pub whole : (size most n : ℕ) (l : List ℕ) → 1 ≤ size → length l ≡ size * n → n ≤ most → whole_rows size most l ≡ true
unfolding whole_rows
whole size most n l p h k =
    let e : length l / size ≡ n = rw h (mul-div_right n p) in
    rw (e, eq-eqb (size * n) (length l) (sym h), le-leb n most k)

module _ {R : Type 0} (write : R → List ℕ) (d : R) where
  each_all : (test : List ℕ → Bool) (ws : List R) → ((r : ℕ) → r < length ws → test (write (get_or ws r d)) ≡ true) → all test (map write ws) ≡ true
  unfolding all
  each_all test [] h = refl
  each_all test (w ∷ ws) h =
      and_both (test (write w)) (all test (map write ws)) (h 0 (omega arith)) (each_all test ws (λ r k. h (suc r) (omega arith)))

  -- a FID that no used row has
  has_not : (f : Fid) (ws : List R) → ((r : ℕ) → r < length ws → is_used (write (get_or ws r d)) ≡ true → self_fid (write (get_or ws r d)) ≡ f → ⊥) →
      has_self f (map write ws) ≡ false
  unfolding has_self is_used is_row_of
  has_not f [] h = refl
  has_not f (w ∷ ws) h = go (is_row_of f (write w)) refl (has_not f ws (λ r k. h (suc r) (omega arith)))
    where
      go : (b : Bool) → is_row_of f (write w) ≡ b → has_self f (map write ws) ≡ false → (b || has_self f (map write ws)) ≡ false
      go true e k =
          absurd (h 0 (omega arith) (and_first (is_used (write w)) (same_fid (self_fid (write w)) f) e)
          (same_is (self_fid (write w)) f (and_second (is_used (write w)) (same_fid (self_fid (write w)) f) e)))
      go false e k = k

  -- rows whose FIDs differ
  none_twice_lem : (ws : List R) →
      ((r s : ℕ) → r < length ws → s < length ws → is_used (write (get_or ws r d)) ≡ true → is_used (write (get_or ws s d)) ≡ true →
      self_fid (write (get_or ws r d)) ≡ self_fid (write (get_or ws s d)) → r ≡ s) → none_twice (map write ws) ≡ true
  unfolding none_twice
  none_twice_lem [] h = refl
  none_twice_lem (w ∷ ws) h =
      and_both (cond (is_used (write w)) (not (has_self (self_fid (write w)) (map write ws))) true) (none_twice (map write ws))
      (go (is_used (write w)) refl) (none_twice_lem ws (λ r s k l u v e. next r s (h (suc r) (suc s) (omega arith) (omega arith) u v e)))
    where
      next : (r s : ℕ) → suc r ≡ suc s → r ≡ s
      next r s e = omega arith

      go : (b : Bool) → is_used (write w) ≡ b → cond b (not (has_self (self_fid (write w)) (map write ws))) true ≡ true
      go true u =
          ap not (has_not (self_fid (write w)) ws
          (λ r k v e. let z : 0 ≡ suc r = h 0 (suc r) (omega arith) (omega arith) u v (sym e) in omega arith))
      go false u = refl

-- a table of either kind: `Fit` says which records can be written, `fid` the FID of one
module _ {A : Type 0} (encode : A → List ℕ) (Fit : A → Type 0) (size : ℕ) (fid : A → Fid) (ws : List (TableRow A)) (least : 1 ≤ size)
    (long : (x : A) → Fit x → length (1 ∷ encode x) ≡ size) (self : (x : A) → Fit x → self_fid (1 ∷ encode x) ≡ fid x)
    (fits : (r : ℕ) → r < length ws → FitRow Fit size (get_or ws r (unused []))) where
  each_long : (r : ℕ) → r < length ws → length (render_row encode (get_or ws r (unused []))) ≡ size
  each_long r k = row_length encode Fit size long (get_or ws r (unused [])) (fits r k)

  table_length : length (join (map (render_row encode) ws)) ≡ size * length ws
  table_length = join_length (render_row encode) size (unused []) ws each_long

  table_rows : rows size (length (join (map (render_row encode) ws)) / size) (join (map (render_row encode) ws)) ≡ map (render_row encode) ws
  table_rows = rows_join (render_row encode) size (unused []) least ws each_long

  table_whole : (most : ℕ) → length ws ≤ most → whole_rows size most (join (map (render_row encode) ws)) ≡ true
  table_whole most m = whole size most (length ws) (join (map (render_row encode) ws)) least table_length m

  table_marked : all used_mark (map (render_row encode) ws) ≡ true
  table_marked = each_all (render_row encode) (unused []) used_mark ws (λ r k. render_marked encode (get_or ws r (unused [])))

  table_pass : (test : List ℕ → Bool) → ((x : A) → Fit x → test (1 ∷ encode x) ≡ true) → all (when_used test) (map (render_row encode) ws) ≡ true
  table_pass test h =
      each_all (render_row encode) (unused []) (when_used test) ws (λ r k. row_tested encode Fit size test h (get_or ws r (unused [])) (fits r k))

  self_is : (w : TableRow A) (x : A) → FitRow Fit size w → w ≡ used x → self_fid (render_row encode w) ≡ fid x
  unfolding FitRow render_row
  self_is (unused b) x f e = let z : ◌≡◌ {A = ℕ} 0 1 = cc in absurd (omega arith)
  self_is (used y) x f e = self y f ∙ ap fid (same y x e)
    where
      same : (x y : A) → used x ≡ used y → x ≡ y
      same x y p = cc

  table_different : OnceEach fid ws → none_twice (map (render_row encode) ws) ≡ true
  table_different a =
      none_twice_lem (render_row encode) (unused []) ws (λ r s k l u v e.
      let x = used_record encode (get_or ws r (unused [])) u in
      let y = used_record encode (get_or ws s (unused [])) v in
      a r s x.0 y.0 x.1 y.1
      (sym (self_is (get_or ws r (unused [])) x.0 (fits r k) x.1) ∙ e ∙ self_is (get_or ws s (unused [])) y.0 (fits s l) y.1))

-- ## Both tables

module _ (T : Tables) (f : FitTables T) where
  pub rendered_parents : parent_rows (render_parents T) ≡ map render_parent T.parents
  unfolding parent_rows render_parents render_parent FitParent
  rendered_parents = table_rows encode_parent FitFile parent_size file_fid T.parents (omega arith) file_long file_self f.parents

  pub rendered_objects : object_rows (render_objects T) ≡ map render_object T.objects
  unfolding object_rows render_objects render_object FitObject
  rendered_objects = table_rows encode_object FitThing object_size thing_fid T.objects (omega arith) thing_long thing_self f.objects

  pub parents_length : length (render_parents T) ≡ parent_size * length T.parents
  unfolding render_parents render_parent FitParent
  parents_length = table_length encode_parent FitFile parent_size file_fid T.parents (omega arith) file_long file_self f.parents

  pub objects_length : length (render_objects T) ≡ object_size * length T.objects
  unfolding render_objects render_object FitObject
  objects_length = table_length encode_object FitThing object_size thing_fid T.objects (omega arith) thing_long thing_self f.objects

  parents_pass : (test : List ℕ → Bool) → ((a : Parent) → FitFile a → test (1 ∷ encode_parent a) ≡ true) →
      all (when_used test) (parent_rows (render_parents T)) ≡ true
  unfolding render_parent FitParent
  parents_pass test h =
      rw rendered_parents (table_pass encode_parent FitFile parent_size file_fid T.parents (omega arith) file_long file_self f.parents test h)

  objects_pass : (test : List ℕ → Bool) → ((x : Object) → FitThing x → test (1 ∷ encode_object x) ≡ true) →
      all (when_used test) (object_rows (render_objects T)) ≡ true
  unfolding render_object FitObject
  objects_pass test h =
      rw rendered_objects (table_pass encode_object FitThing object_size thing_fid T.objects (omega arith) thing_long thing_self f.objects test h)

  whole_parents : length T.parents ≤ max_parents → parents_whole (render_parents T) ≡ true
  unfolding parents_whole render_parents render_parent FitParent
  whole_parents m =
      and_both (whole_rows parent_size max_parents (render_parents T)) (all used_mark (parent_rows (render_parents T)))
      (table_whole encode_parent FitFile parent_size file_fid T.parents (omega arith) file_long file_self f.parents max_parents m)
      (rw rendered_parents (table_marked encode_parent FitFile parent_size file_fid T.parents (omega arith) file_long file_self f.parents))

  whole_objects : length T.objects ≤ max_objects → objects_whole (render_objects T) ≡ true
  unfolding objects_whole render_objects render_object FitObject
  whole_objects n =
      let a : Bool = whole_rows object_size max_objects (render_objects T) in
      let b : Bool = all used_mark (object_rows (render_objects T)) in
      let d : Bool = all (when_used fresh_mark) (object_rows (render_objects T)) in
      and_both (a && b) d
      (and_both a b (table_whole encode_object FitThing object_size thing_fid T.objects (omega arith) thing_long thing_self f.objects max_objects n) (rw rendered_objects (table_marked encode_object FitThing object_size thing_fid T.objects (omega arith) thing_long thing_self f.objects)))
      (objects_pass fresh_mark fresh_marked)

  different : Apart T → all_different (render_parents T) (render_objects T) ≡ true
  unfolding all_different render_parent render_object FitParent FitObject
  different a =
      and_both (none_twice (parent_rows (render_parents T))) (none_twice (object_rows (render_objects T)))
      (rw rendered_parents (table_different encode_parent FitFile parent_size file_fid T.parents (omega arith) file_long file_self f.parents a.parents))
      (rw rendered_objects (table_different encode_object FitThing object_size thing_fid T.objects (omega arith) thing_long thing_self f.objects a.objects))

  -- written, they pass
  pub fits_sound : length T.parents ≤ max_parents → length T.objects ≤ max_objects → Apart T → Sound (render_parents T) (render_objects T)
  unfolding good_layouts
  fits_sound m n a =
      let p : List ℕ = render_parents T in
      let o : List ℕ = render_objects T in
      tables_sound p o (and_both (parents_whole p) (objects_whole o) (whole_parents m) (whole_objects n)) (parents_pass good_layout parent_layout)
      (and_both (all (when_used good_parent) (parent_rows p)) (all (when_used good_object) (object_rows o)) (parents_pass good_parent parent_self)
      (objects_pass good_object object_good))
      (different a)
