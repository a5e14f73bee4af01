-- The directories under marks: their rows, and what is visible. Assumes nothing.
use Rattle.std.specs.Prelude.{Option, None, Some}
use mathlib.Core.Path.{◌≡◌, refl, sym, ap, ◌∙◌}
use mathlib.Core.Bool.{Bool, true, false, cond, not, ◌&&◌}
use mathlib.Core.List.{List, [], ◌∷◌}
use Prim.Native.Nat.{ℕ, zero, suc, ◌-◌, ◌/◌, ◌≤◌, ◌<◌}
use native.Mathlib.Nat.{not-suc-le-zero}
use native.Mathlib.Omega.{arith}
use borrow.Author.Tests.{lt-ltb, le-ltb}
use lib.Dec.{ltb, eqb}
use lib.ListN.{length, get_or}
use Rattle.fid.specs.Fid.{same_fid, zero_fid}
use Rattle.fid.specs.declared.Fid.{Fid}
use Rattle.fid.specs.declared.MdtFid.{MdtFid}
use Rattle.fid.proofs.SameLaws.{same_is, same_self}
use Rattle.names.specs.Rows.{Child, child_size, is_none, with_self, no_child, child_at, parse_children}
use Rattle.names.specs.Findings.{same}
use Rattle.names.specs.Visible.{no_self_mark, visible_mark, is_root, first_row, directory, first_marked, seen_by}
use Rattle.names.proofs.SoundLaws.{parsed_children}
use Rattle.names_judge.specs.Listed.{is_row}
use Rattle.names_judge.proofs.LookLaws.{first_is, row_inside}
use Rattle.names_marks.specs.Directories.{self_under, directories, visible_from}

pub under_less : (m : ℕ) (f : MdtFid) → m < no_self_mark → f ≡ self_under m f
unfolding self_under
under_less m f h = rw (lt-ltb m no_self_mark h)

pub under_none : (m : ℕ) (f : MdtFid) → no_self_mark ≤ m → ◌≡◌ {A = MdtFid} (record { 0 = zero_fid }) (self_under m f)
unfolding self_under
under_none m f h = rw (le-ltb m no_self_mark h)

-- ## Rows

directories_length : (ms : List ℕ) (cs : List Child) → length ms ≡ length cs → length (directories ms cs) ≡ length cs
unfolding directories
directories_length [] [] h = refl
directories_length [] (c ∷ cs) h = absurd (omega arith)
directories_length (m ∷ ms) [] h = absurd (omega arith)
directories_length (m ∷ ms) (c ∷ cs) h = ap suc (directories_length ms cs (omega arith))

self_at_lem : (ms : List ℕ) (cs : List Child) (r : ℕ) → length ms ≡ length cs → r < length cs →
    (get_or (directories ms cs) r no_child).self ≡ self_under (get_or ms r 0) (get_or cs r no_child).self
unfolding directories with_self
self_at_lem ms [] r h k = absurd (not-suc-le-zero k)
self_at_lem [] (c ∷ cs) r h k = absurd (omega arith)
self_at_lem (m ∷ ms) (c ∷ cs) zero h k = refl
self_at_lem (m ∷ ms) (c ∷ cs) (suc r) h k = self_at_lem ms cs r (omega arith) (omega arith)

module _ (c ms : List ℕ) (h : length ms ≡ length c / child_size) where
  fits : length ms ≡ length (parse_children c)
  fits = h ∙ sym (parsed_children c)

  pub directories_many : length (directories ms (parse_children c)) ≡ length c / child_size
  directories_many = directories_length ms (parse_children c) fits ∙ parsed_children c

  -- the self FID of row r, as it is read
  pub directory_self : (r : ℕ) (g f : MdtFid) → r < length c / child_size → g ≡ (child_at (parse_children c) r).self →
      f ≡ self_under (get_or ms r 0) g → f ≡ (child_at (directories ms (parse_children c)) r).self
  unfolding child_at
  directory_self r g f k q s =
      s ∙ ap (self_under (get_or ms r 0)) q ∙ sym (self_at_lem ms (parse_children c) r fits (omega (arith, parsed_children c)))

  module _ (f : MdtFid) (r : ℕ) where
    pub mark_past : length c / child_size ≤ r → false ≡ is_row (directories ms (parse_children c)) f r
    unfolding is_row
    mark_past k = rw (le-ltb r (length (directories ms (parse_children c))) (omega (arith, directories_many)))

    pub mark_there : r < length c / child_size → (g : MdtFid) → g ≡ (child_at (directories ms (parse_children c)) r).self →
        same_fid g.0 f.0 ≡ is_row (directories ms (parse_children c)) f r
    unfolding is_row same
    mark_there k g e =
        rw (lt-ltb r (length (directories ms (parse_children c))) (omega (arith, directories_many))) (ap (λ (x : MdtFid). same_fid x.0 f.0) e)

-- ## What is visible

zero_not : (f : MdtFid) → is_none f ≡ false → same_fid zero_fid f.0 ≡ false
unfolding is_none
zero_not f h = go (same_fid zero_fid f.0) refl
  where
    go : (b : Bool) → same_fid zero_fid f.0 ≡ b → b ≡ false
    go false e = refl
    go true e = sym (same_self zero_fid) ∙ ap (λ (x : Fid). same_fid x zero_fid) (same_is zero_fid f.0 e) ∙ h

-- a row has the FID under its mark
under_same : (m : ℕ) (g f : MdtFid) → is_none f ≡ false → same (self_under m g) f ≡ (ltb m no_self_mark && same g f)
unfolding self_under same
under_same m g f h = go (ltb m no_self_mark)
  where
    go : (b : Bool) → same_fid (cond b g (record { 0 = zero_fid })).0 f.0 ≡ (b && same_fid g.0 f.0)
    go true = refl
    go false = zero_not f h

later : (r m : ℕ) (ms : List ℕ) (f : MdtFid) (ds : List Child) (x : Option ℕ) → first_row f ds (suc r) ≡ x → visible_from r (m ∷ ms) x ≡ visible_from (suc r) ms x
unfolding visible_from
later r m ms f ds None e = refl
later r m ms f ds (Some k) e =
    let h = first_is f ds (suc r) k e in
    let z : k - r ≡ suc (k - suc r) = omega (arith, h.0) in
    rw z

first_marked_lem : (f : MdtFid) → is_none f ≡ false → (ms : List ℕ) (cs : List Child) (r : ℕ) →
    visible_from r ms (first_row f (directories ms cs) r) ≡ first_marked f ms cs
unfolding directories first_row first_marked visible_from with_self
first_marked_lem f h [] cs r = refl
first_marked_lem f h (m ∷ ms) [] r = refl
first_marked_lem f h (m ∷ ms) (c ∷ cs) r =
    rw (under_same m c.self f h) (go (ltb m no_self_mark && same c.self f) (first_marked_lem f h ms cs (suc r)))
  where
    go : (b : Bool) → visible_from (suc r) ms (first_row f (directories ms cs) (suc r)) ≡ first_marked f ms cs →
        visible_from r (m ∷ ms) (cond b (Some r) (first_row f (directories ms cs) (suc r))) ≡ cond b (eqb m visible_mark) (first_marked f ms cs)
    go true i = let z : r - r ≡ 0 = omega arith in rw z
    go false i = later r m ms f (directories ms cs) (first_row f (directories ms cs) (suc r)) refl ∙ i

module _ (marks : List ℕ) (cs : List Child) (f : MdtFid) where
  pub seen_root : is_root f ≡ true → true ≡ seen_by marks cs f
  unfolding seen_by
  seen_root h = rw h

  pub seen_found : is_root f ≡ false → (x : Option ℕ) → x ≡ directory (directories marks cs) f → visible_from 0 marks x ≡ seen_by marks cs f
  unfolding seen_by directory visible_from
  seen_found h x e = rw h (ap (visible_from 0 marks) e ∙ go (is_none f) refl)
    where
      go : (b : Bool) → is_none f ≡ b →
          visible_from 0 marks (cond b None (first_row f (directories marks cs) 0)) ≡ (not b && first_marked f marks cs)
      go true k = refl
      go false k = first_marked_lem f k marks cs 0

  module _ (h : is_root f ≡ false) where
    pub seen_out : directory (directories marks cs) f ≡ None → false ≡ seen_by marks cs f
    unfolding visible_from
    seen_out e = seen_found h None (sym e)

    pub seen_row : (r : ℕ) → directory (directories marks cs) f ≡ Some r → eqb (get_or marks r 0) visible_mark ≡ seen_by marks cs f
    unfolding visible_from
    seen_row r e = let z : r - 0 ≡ r = omega arith in rw z at (seen_found h (Some r) (sym e))

pub marked_inside : (c marks : List ℕ) (f : MdtFid) (r : ℕ) → length marks ≡ length c / child_size → directory (directories marks (parse_children c)) f ≡ Some r →
    r < length marks
marked_inside c marks f r h d = omega (arith, row_inside (directories marks (parse_children c)) f r d, directories_many c marks h)
