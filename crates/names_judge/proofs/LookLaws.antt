-- What a look at a directory says, case by case, and what it means for every climb. Assumes nothing.
use Rattle.std.specs.Prelude.{None, Some}
use mathlib.Core.Path.{◌≡◌, refl, sym, ap, subst, ◌∙◌}
use mathlib.Core.Bool.{Bool, true, false, cond}
use mathlib.Core.List.{List, [], ◌∷◌}
use Prim.Native.Nat.{ℕ, suc, ◌-◌, ◌*◌, ◌/◌, ◌≤◌, ◌<◌}
use native.Mathlib.Omega.{arith}
use borrow.Author.Tests.{eq-eqb, ne_eqb, lt-ltb, le-ltb}
use lib.ListN.{length, take, drop, get_or}
use Rattle.fid.specs.declared.Fid.{Fid}
use Rattle.fid.specs.declared.MdtFid.{MdtFid}
use Rattle.fid.proofs.SameLaws.{same_is}
use Rattle.std.proofs.lemmas.Option.{none-some, same_Some}
use Rattle.names.specs.Rows.{Child, child_size, is_none, is_linked, link_length, decode_linked, decode_child, no_child, child_at, parse_children}
use Rattle.names.specs.Findings.{same}
use Rattle.names.specs.Visible.{is_root, first_row, directory}
use Rattle.names.proofs.SoundLaws.{parsed_children, parsed_child}
use Rattle.names_judge.specs.Levels.{Ended, within, note_at, ended_of, look_child, look_row, look_directory, look, Few}
use Rattle.names_judge.specs.declared.Looked.TheVariants.{Told, Above}

-- ## An end within the levels that are left

pub within_endless : (left : ℕ) (e : Ended) → e ≡ None → None ≡ within left e
unfolding within
within_endless left e p = rw p

module _ (left d : ℕ) (v : Bool) (e : Ended) (p : e ≡ Some (d, v)) where
  pub within_cut : left < d → None ≡ within left e
  unfolding within
  within_cut h = rw (p, lt-ltb left d h)

  pub within_fits : d ≤ left → Some (d, v) ≡ within left e
  unfolding within
  within_fits h = rw (p, le-ltb left d h)

pub few_ends : (most d : ℕ) (v : Bool) (e : Ended) → Few most e → e ≡ Some (d, v) → d ≤ most
unfolding Few
few_ends most d v e f p = subst (λ (x : Ended). Few most x) p f

-- ## Row r

module _ (c room : List ℕ) (r : ℕ) where
  pub look_noted : (note_at r room ≡ 0 → ⊥) → Told (ended_of (note_at r room)) ≡ look_row (parse_children c) room r
  unfolding look_row
  look_noted h = rw (ne_eqb (note_at r room) 0 h)

  module _ (row : List ℕ) (n : note_at r room ≡ 0) (h : r < length c / child_size) (p : row ≡ take child_size (drop (child_size * r) c)) where
    its_child : look_row (parse_children c) room r ≡ look_child r (decode_child row)
    unfolding look_row
    its_child = rw (eq-eqb (note_at r room) 0 n, p) (ap (look_child r) (parsed_child c r h))

    pub look_linked : (link_length row ≡ 0 → ⊥) → Told (Some (0, true)) ≡ look_row (parse_children c) room r
    unfolding look_child decode_child decode_linked is_linked
    look_linked l = sym (its_child ∙ linked_child l)
      where
        linked_child : (link_length row ≡ 0 → ⊥) → look_child r (decode_child row) ≡ Told (Some (0, true))
        linked_child l = rw (ne_eqb (link_length row) 0 l)

    pub look_none : link_length row ≡ 0 → is_none (decode_child row).up ≡ true → Told (Some (0, false)) ≡ look_row (parse_children c) room r
    unfolding look_child decode_child decode_linked is_linked
    look_none l u = sym (its_child ∙ lost l u)
      where
        lost : link_length row ≡ 0 → is_none (decode_child row).up ≡ true → look_child r (decode_child row) ≡ Told (Some (0, false))
        lost l u = rw (eq-eqb (link_length row) 0 l, u)

    pub look_up : link_length row ≡ 0 → is_none (decode_child row).up ≡ false → Above r (decode_child row).up ≡ look_row (parse_children c) room r
    unfolding look_child decode_child decode_linked is_linked
    look_up l u = sym (its_child ∙ up_child l u)
      where
        up_child : link_length row ≡ 0 → is_none (decode_child row).up ≡ false → look_child r (decode_child row) ≡ Above r (decode_child row).up
        up_child l u = rw (eq-eqb (link_length row) 0 l, u)

-- ## A directory

module _ (cs : List Child) (room : List ℕ) (f : MdtFid) where
  pub look_root : is_root f ≡ true → Told (Some (0, true)) ≡ look cs room f
  unfolding look
  look_root h = rw h

  module _ (n : is_root f ≡ false) where
    pub look_out : directory cs f ≡ None → Told (Some (0, false)) ≡ look cs room f
    unfolding look look_directory
    look_out d = rw (n, d)

    pub look_in_lem : (r : ℕ) → directory cs f ≡ Some r → look_row cs room r ≡ look cs room f
    unfolding look look_directory
    look_in_lem r d = rw (n, d)

-- the row of a FID is in the table and has it
pub first_is : (f : MdtFid) (cs : List Child) (s r : ℕ) → first_row f cs s ≡ Some r →
    (s ≤ r) × (r - s < length cs) × (same (get_or cs (r - s) no_child).self f ≡ true)
unfolding first_row
first_is f [] s r e = absurd (none-some r e)
first_is f (c ∷ cs) s r e = go (same c.self f) refl e (first_is f cs (suc s) r)
  where
    go : (b : Bool) → same c.self f ≡ b → cond b (Some s) (first_row f cs (suc s)) ≡ Some r →
        (first_row f cs (suc s) ≡ Some r → (suc s ≤ r) × (r - suc s < length cs) × (same (get_or cs (r - suc s) no_child).self f ≡ true)) →
        (s ≤ r) × (r - s < length (c ∷ cs)) × (same (get_or (c ∷ cs) (r - s) no_child).self f ≡ true)
    go true t x i =
        let p : s ≡ r = same_Some s r x in
        let z : r - s ≡ 0 = omega arith in
        (omega arith, omega arith, rw z t)
    go false t x i =
        let y = i x in
        let z : r - s ≡ suc (r - suc s) = omega (arith, y.0) in
        (omega (arith, y.0), omega (arith, y.0, y.1), rw z y.2)

module _ (cs : List Child) (f : MdtFid) (r : ℕ) (d : directory cs f ≡ Some r) where
  found_row : (r < length cs) × (same (child_at cs r).self f ≡ true)
  unfolding directory child_at
  found_row = go (is_none f) d
    where
      go : (b : Bool) → cond b None (first_row f cs 0) ≡ Some r → (r < length cs) × (same (get_or cs r no_child).self f ≡ true)
      go true e = absurd (none-some r e)
      go false e =
          let y = first_is f cs 0 r e in
          let z : r - 0 ≡ r = omega arith in
          (omega (arith, y.1), rw z at y.2)

  pub row_inside : r < length cs
  row_inside = found_row.0

  pub row_self : (child_at cs r).self ≡ f
  unfolding same
  row_self = ap {B = MdtFid} (λ (x : Fid). record { 0 = x }) (same_is (child_at cs r).self.0 f.0 found_row.1)

pub row_in_table : (c : List ℕ) (f : MdtFid) (r : ℕ) → directory (parse_children c) f ≡ Some r → r < length c / child_size
row_in_table c f r d = omega (arith, row_inside (parse_children c) f r d, parsed_children c)
