-- The closing line, case by case. Assumes nothing.
use Prim.Native.Nat.{ℕ, ◌+◌, ◌-◌, ◌*◌, ◌/◌, ◌≤◌, ◌<◌}
use mathlib.Core.Path.{◌≡◌, refl, sym, ap, subst, ◌∙◌}
use mathlib.Core.List.{List}
use mathlib.Core.Bool.{Bool, true, false, ◌||◌}
use native.Mathlib.Omega.{arith}
use lib.ListN.{length, take, drop, length-take}
use lib.Seq.{sets, take-take, take_all, drop-drop}
use lib.Dec.{eqb}
use borrow.Author.Tests.{ne_eqb, eqb-true, le-leb, lt-leb, lt-ltb, le-ltb}
use Rattle.wire.specs.Rows.{rows}
use Rattle.wire.proofs.RowLaws.{rows_at, rows_length}
use Rattle.tables.specs.Bytes.{parent_size, object_size, layout_room, parent_rows, object_rows}
use Rattle.tables.specs.declared.Owner.{Owner}
use Rattle.tables.proofs.AllLaws.{row_fits, part_length}
use Rattle.search.specs.FirstRow.{free_row}
use Rattle.intake.specs.declared.Kind.TheVariants.{Lov, Fid, Lma}
use Rattle.intake.specs.Says.{good_size, wanted}
use Rattle.intake.specs.Owners.{owning, next_owner, after_line, first, decimal}
use Rattle.intake.specs.Reading.{none, had, Reading, filled, fills, with_self, closes_entry, first_unused, parent_from, object_from}
use Rattle.intake.proofs.HeadLaws.{drop_take}
use Rattle.intake_bytes.specs.declared.Marks.{Marks}
use Rattle.intake_bytes.specs.Lent.{mark_of, base_of, part_of}
use Rattle.intake_line.specs.Entry.{attribute_in, entry_in, good_mark, GoodMarks}
use Rattle.std.specs.Prelude.{Some, None, Ok, Err}
use Rattle.refusals.specs.declared.Refusal.{Refusal}
use Rattle.refusals.specs.declared.Refusal.TheVariants.{BadDump, NoSelf, NoKind, NoFit}
use Rattle.refusals.specs.Numbers.{number}
use Rattle.intake_close.specs.OwnerLine.{OwnerRead, owner_in, OwnerTold, LineStops}
use Rattle.intake_close.specs.Closing.{Closed, self_in, claim_in, layout_in, with_tables, closed_as, stop_of, ParentClosed, ObjectClosed, OwnedClosed, EntryClosed}
use Rattle.intake_close.proofs.FillLaws.{self_length, claim_length, layout_length_lem, parent_length, object_length, row_changed, free_none, free_is}

refuses : (q : Refusal) → 33 ≤ number q → number q ≤ 37 → (33 ≤ stop_of (Err q)) × (stop_of (Err q) ≤ 37)
unfolding stop_of
refuses q h k = (h, k)

fills_row : (33 ≤ stop_of (Ok tt)) × (stop_of (Ok tt) ≤ 37)
unfolding stop_of
fills_row = (omega arith, omega arith)

-- ## A file

module _ (buf : List ℕ) (size : ℕ) (w : Owner) (p : List ℕ) where
  pub parent_long : layout_room < size → ParentClosed buf size w p p (Err NoFit)
  unfolding fills closed_as
  parent_long h = record {
    closes = λ R o line index after v q. rw (lt-leb size layout_room h);
    number = refuses NoFit (omega arith) (omega arith);
  }

  module _ (h : size ≤ layout_room) where
    pub parent_none : free_row p parent_size ≡ None → ParentClosed buf size w p p (Err NoFit)
    unfolding fills closed_as with_tables parent_rows
    parent_none e = record {
      closes = λ R o line index after v q.
          let k : length p / parent_size ≤ first_unused (rows parent_size (length p / parent_size) p) = free_none parent_size p e in
          rw (le-leb size layout_room h, rows_length parent_size (length p / parent_size) p, le-ltb _ _ k);
      number = refuses NoFit (omega arith) (omega arith);
    }

    pub parent_filled : (r : ℕ) (p' : List ℕ) → length buf ≡ 208 + layout_room → free_row p parent_size ≡ Some r
        → p' ≡ sets p (parent_size * r) (parent_from (self_in buf) (layout_in buf size) w.uid w.gid (take parent_size (drop (parent_size * r) p)))
        → ParentClosed buf size w p p' (Ok tt)
    unfolding fills filled closed_as with_tables parent_rows
    parent_filled r p' n e s =
        let f = free_is parent_size p r e in
        let l : length (layout_in buf size) ≡ size = layout_length_lem buf size (omega arith) in
        let row : length (take parent_size (drop (parent_size * r) p)) ≡ parent_size =
        part_length parent_size r p (row_fits parent_size r (length p) (omega arith) f.1) in
        let m : length (parent_from (self_in buf) (layout_in buf size) w.uid w.gid (take parent_size (drop (parent_size * r) p))) ≡ parent_size =
        parent_length (self_in buf) (layout_in buf size) w (take parent_size (drop (parent_size * r) p)) (self_length buf (omega arith)) row (omega arith) in
        record {
          closes = λ R o line index after v q.
              rw (le-leb size layout_room h, rows_length parent_size (length p / parent_size) p, f.0, lt-ltb _ _ f.1, q h, rows_at parent_size (length p / parent_size) r p f.1, s)
              (ap (λ (z : List (List ℕ)). filled R line after z (object_rows o)) (sym (row_changed parent_size r p _ (omega arith) f.1 m)));
          number = fills_row;
        }

-- ## An object

module _ (buf : List ℕ) (w : Owner) (index : ℕ) (o : List ℕ) where
  pub object_none : free_row o object_size ≡ None → ObjectClosed buf w index o o (Err NoFit)
  unfolding fills closed_as with_tables object_rows
  object_none e = record {
    closes = λ R p line size after.
        let k : length o / object_size ≤ first_unused (rows object_size (length o / object_size) o) = free_none object_size o e in
        rw (rows_length object_size (length o / object_size) o, le-ltb _ _ k);
    number = refuses NoFit (omega arith) (omega arith);
  }

  pub object_filled : (r : ℕ) (o' : List ℕ) → 208 ≤ length buf → free_row o object_size ≡ Some r
      → o' ≡ sets o (object_size * r) (object_from (self_in buf) (claim_in buf) w.uid w.gid index) → ObjectClosed buf w index o o' (Ok tt)
  unfolding fills filled closed_as with_tables object_rows
  object_filled r o' n e s =
      let f = free_is object_size o r e in
      let m : length (object_from (self_in buf) (claim_in buf) w.uid w.gid index) ≡ object_size =
      object_length (self_in buf) (claim_in buf) w index (self_length buf n) (claim_length buf n) in
      record {
        closes = λ R p line size after.
            rw (rows_length object_size (length o / object_size) o, f.0, lt-ltb _ _ f.1, s)
            (ap (λ (z : List (List ℕ)). filled R line after (parent_rows p) z) (sym (row_changed object_size r o _ (omega arith) f.1 m)));
        number = fills_row;
      }

-- ## What is kept of an entry, by its marks

module _ (buf : List ℕ) (m : Marks) (g : GoodMarks m) (n : length buf ≡ 208 + layout_room) where
  lma_none : m.lma ≡ 0 → attribute_in buf Lma m.lma ≡ none
  unfolding attribute_in
  lma_none e = rw e

  lma_size_lem : (m.lma ≡ 0 → ⊥) → m.lma - 1 ≡ 24
  unfolding good_mark good_size mark_of
  lma_size_lem e = eqb-true (m.lma - 1) 24 (subst (λ (t : Bool). (t || eqb (m.lma - 1) 24) ≡ true) (ne_eqb m.lma 0 e) (g Lma))

  lma_had : (m.lma ≡ 0 → ⊥) → attribute_in buf Lma m.lma ≡ had 24 (take 24 (take 24 (drop 160 buf)))
  unfolding attribute_in part_of wanted base_of
  lma_had e = rw (ne_eqb m.lma 0 e, lma_size_lem e)

  self_kept : drop 8 (take 24 (take 24 (drop 160 buf))) ≡ self_in buf
  unfolding self_in
  self_kept = ap (drop 8) (take-take 24 24 (drop 160 buf) (omega arith)) ∙ drop_take 8 16 (drop 160 buf) ∙ ap (take 16) (drop-drop 8 160 buf)

  fid_size_lem : (m.fid ≡ 0 → ⊥) → 16 ≤ m.fid - 1
  unfolding good_mark good_size mark_of
  fid_size_lem e = go (eqb (m.fid - 1) 16) refl (subst (λ (t : Bool). (t || (eqb (m.fid - 1) 16 || eqb (m.fid - 1) 32)) ≡ true) (ne_eqb m.fid 0 e) (g Fid)) where
    go : (t : Bool) → eqb (m.fid - 1) 16 ≡ t → (t || eqb (m.fid - 1) 32) ≡ true → 16 ≤ m.fid - 1
    go true q h = omega (arith, eqb-true (m.fid - 1) 16 q)
    go false q h = omega (arith, eqb-true (m.fid - 1) 32 h)

  fid_none : m.fid ≡ 0 → attribute_in buf Fid m.fid ≡ none
  unfolding attribute_in
  fid_none e = rw e

  fid_had : (m.fid ≡ 0 → ⊥) → attribute_in buf Fid m.fid ≡ had (m.fid - 1) (claim_in buf)
  unfolding attribute_in part_of wanted base_of claim_in
  fid_had e = rw (ne_eqb m.fid 0 e, take_all (m.fid - 1) (take 16 (drop 144 buf)) (omega (arith, length-take 16 (drop 144 buf), fid_size_lem e)))

  lov_none : m.lov ≡ 0 → attribute_in buf Lov m.lov ≡ none
  unfolding attribute_in
  lov_none e = rw e

  lov_had : (m.lov ≡ 0 → ⊥) → attribute_in buf Lov m.lov ≡ had (m.lov - 1) (take (m.lov - 1) (part_of (length buf) Lov buf))
  unfolding attribute_in
  lov_had e = rw (ne_eqb m.lov 0 e)

  layout_kept : (size : ℕ) → size ≤ layout_room → take size (part_of (length buf) Lov buf) ≡ layout_in buf size
  unfolding part_of wanted base_of layout_in
  layout_kept size h = take-take size (length buf - 208) (drop 208 buf) (omega arith)

  -- ## An entry that has an owner

  module _ (w : Owner) (index : ℕ) (p o : List ℕ) where
    pub owned_bare : m.lma ≡ 0 → OwnedClosed buf m w index p o p o (Err NoSelf)
    unfolding entry_in with_self closed_as
    owned_bare e = record { closes = λ R line from after. rw (lma_none e); number = refuses NoSelf (omega arith) (omega arith) }

    module _ (e : m.lma ≡ 0 → ⊥) where
      -- with its self FID
      owned : (R : Reading) (line from : ℕ) (after : List ℕ)
          → with_self layout_room (with_tables R p o) line (entry_in buf from m) (owning w.uid w.gid index after) (entry_in buf from m).lma
          ≡ fills layout_room (with_tables R p o) line (self_in buf) w.uid w.gid index after (attribute_in buf Lov m.lov) (attribute_in buf Fid m.fid)
      unfolding entry_in with_self
      owned R line from after = rw (lma_had e, self_kept)

      pub owned_neither : m.lov ≡ 0 → m.fid ≡ 0 → OwnedClosed buf m w index p o p o (Err NoKind)
      unfolding fills closed_as
      owned_neither l f = record { closes = λ R line from after. owned R line from after ∙ rw (lov_none l, fid_none f); number = refuses NoKind (omega arith) (omega arith) }

      pub owned_both : (m.lov ≡ 0 → ⊥) → (m.fid ≡ 0 → ⊥) → OwnedClosed buf m w index p o p o (Err NoKind)
      unfolding fills closed_as
      owned_both l f = record { closes = λ R line from after. owned R line from after ∙ rw (lov_had l, fid_had f); number = refuses NoKind (omega arith) (omega arith) }

      pub owned_object : (o' : List ℕ) (r : Closed) → m.lov ≡ 0 → (m.fid ≡ 0 → ⊥) → ObjectClosed buf w index o o' r → OwnedClosed buf m w index p o p o' r
      owned_object o' r l f c = record {
        closes = λ R line from after. owned R line from after ∙ rw (lov_none l, fid_had f) (c.closes R p line (m.fid - 1) after);
        number = c.number;
      }

      pub owned_parent : (p' : List ℕ) (r : Closed) → (m.lov ≡ 0 → ⊥) → m.fid ≡ 0 → ParentClosed buf (m.lov - 1) w p p' r → OwnedClosed buf m w index p o p' o r
      owned_parent p' r l f c = record {
        closes = λ R line from after.
            owned R line from after ∙ rw (lov_had l, fid_none f) (c.closes R o line index after _ (layout_kept (m.lov - 1)));
        number = c.number;
      }

-- ## The entry's owner

module _ (buf : List ℕ) (m : Marks) (file : List ℕ) (taken end : ℕ) (p o : List ℕ) (s : LineStops file taken end) (x : OwnerRead)
    (t : OwnerTold (take (end - taken) (drop taken file)) x) where
  next_is : next_owner (drop taken file) ≡ owner_in (after_line (drop taken file)) x
  unfolding next_owner
  next_is = ap (λ (l : List ℕ). first (after_line (drop taken file)) (decimal false 0 l)) s.line ∙ t.owner (after_line (drop taken file))

  closing : (R : Reading) (line from : ℕ) → R.owners ≡ drop taken file
      → closes_entry layout_room (with_tables R p o) line (entry_in buf from m)
      ≡ with_self layout_room (with_tables R p o) line (entry_in buf from m) (owner_in (after_line (drop taken file)) x) (entry_in buf from m).lma
  unfolding closes_entry with_tables
  closing R line from e = rw (e, next_is)

  pub entry_none : x ≡ None → EntryClosed buf m file taken p o p o (Err BadDump)
  unfolding owner_in with_self closed_as
  entry_none e = record { closes = λ R line from q. closing R line from q ∙ rw e; number = refuses BadDump (omega arith) (omega arith) }

  pub entry_owned : (u g i : ℕ) (p' o' : List ℕ) (r : Closed) → x ≡ Some (u, g, i) → OwnedClosed buf m (record { uid = u; gid = g }) i p o p' o' r
      → EntryClosed buf m file taken p o p' o' r
  unfolding owner_in
  entry_owned u g i p' o' r e c = record {
    closes = λ R line from q. closing R line from q ∙ rw e (c.closes R line from (after_line (drop taken file)));
    number = c.number;
  }
