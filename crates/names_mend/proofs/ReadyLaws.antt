-- What is made ready, part by part, and that it stays as it is while rows keep what it is made of. Assumes nothing.
use mathlib.Core.Path.{◌≡◌, refl, sym, ap, subst, ◌∙◌}
use mathlib.Core.Bool.{Bool}
use mathlib.Core.List.{List, [], ◌∷◌, ◌++◌, map, append-nil}
use Prim.Native.Nat.{ℕ, ◌-◌, ◌≤◌}
use native.Mathlib.Omega.{arith}
use borrow.Rule.Slice.PartMut.{put_mid}
use lib.ListN.{length, take, drop, length-append, length-drop, drop_of_length-le}
use lib.Seq.{take_at, drop_at}
use Rattle.wire.proofs.Splice.{drop_take_all}
use Rattle.fid.specs.declared.MdtFid.{MdtFid}
use Rattle.index.specs.Entries.{sorted}
use Rattle.index.specs.Search.{Key, key, key_of, listed}
use Rattle.names.specs.Rows.{Entry, Child, parse_entries, parse_children}
use Rattle.names.specs.Visible.{seen_by}
use Rattle.names.specs.Sweeps.{one}
use Rattle.names_marks.specs.Directories.{IndexedUnder, Keeps}
use Rattle.names_marks.proofs.KeepLaws.{numbers_same, seen_same}
use Rattle.names_store.specs.Notes.{note_of, Noted}
use Rattle.names_prune.specs.ByChild.{entry_key, entry_numbers, ByChild}
use Rattle.names_mend.specs.Ready.{entries_at, Ready}

-- a list whose front and rest are written anew, one after the other
module _ (at : ℕ) (l ys : List ℕ) (e : length ys ≡ at) where
  rest_is : take (length (ys ++ drop at l) - at) (drop at (ys ++ drop at l)) ≡ drop at l
  rest_is = drop_take_all at (ys ++ drop at l) ∙ drop_at ys (drop at l) at e

  pub front_fits : at ≤ length (ys ++ drop at l)
  front_fits = rw length-append (omega arith)

  pub rest_long : length (take (length (ys ++ drop at l) - at) (drop at (ys ++ drop at l))) ≡ length l - at
  rest_long = rw (rest_is, length-drop)

  module _ (us : List ℕ) (f : length us ≡ length (take (length (ys ++ drop at l) - at) (drop at (ys ++ drop at l)))) where
    both_new : put_mid at (length (ys ++ drop at l) - at) (ys ++ drop at l) us ≡ ys ++ us
    both_new =
        let d : List ℕ = drop at l in
        let g : length d ≤ length (ys ++ d) - at = omega (arith, length-append ys d) in
        let z : drop (length (ys ++ d) - at) d ≡ [] = drop_of_length-le d g in
        rw (take_at ys d at e, drop_at ys d at e, z, append-nil us)

    front_new : take at (put_mid at (length (ys ++ drop at l) - at) (ys ++ drop at l) us) ≡ ys
    front_new = rw both_new (take_at ys us at e)

    rest_new : drop at (put_mid at (length (ys ++ drop at l) - at) (ys ++ drop at l) us) ≡ us
    rest_new = rw both_new (drop_at ys us at e)

    pub both_made : (entries children marks : List ℕ) (n : ℕ) → at ≡ entries_at children → IndexedUnder children marks ys n → ByChild entries us →
        IndexedUnder children marks (take (entries_at children) (put_mid at (length (ys ++ drop at l) - at) (ys ++ drop at l) us)) n
        × ByChild entries (drop (entries_at children) (put_mid at (length (ys ++ drop at l) - at) (ys ++ drop at l) us))
    both_made entries children marks n p i b =
        rw (← p) (subst (λ (x : List ℕ). IndexedUnder children marks x n) (sym front_new) i, subst (ByChild entries) (sym rest_new) b)

-- ## While rows keep what it is made of

keys_by_child : (es : List Entry) → map entry_key es ≡ map (λ (r : ℕ). key (key_of 0 r)) (map (λ (e : Entry). e.child) es)
unfolding entry_key
keys_by_child [] = refl
keys_by_child (e ∷ es) = ap (λ (l : List Key). key (key_of 0 e.child) ∷ l) (keys_by_child es)

notes_by_parent : (seen : MdtFid → Bool) (es : List Entry) → map (note_of seen) es ≡ map (λ (f : MdtFid). one (seen f)) (map (λ (e : Entry). e.parent) es)
unfolding note_of
notes_by_parent seen [] = refl
notes_by_parent seen (e ∷ es) = ap (λ (l : List ℕ). one (seen e.parent) ∷ l) (notes_by_parent seen es)

-- notes of the same directories
pub noted_kept : (seen : MdtFid → Bool) (e x notes : List ℕ) → length x ≡ length e →
    map (λ (y : Entry). y.parent) (parse_entries x) ≡ map (λ (y : Entry). y.parent) (parse_entries e) → Noted seen e notes → Noted seen x notes
unfolding Noted
noted_kept seen e x notes l p n =
    rw l (n ∙ notes_by_parent seen (parse_entries e) ∙ ap (map (λ (f : MdtFid). one (seen f))) (sym p) ∙ sym (notes_by_parent seen (parse_entries x)))

-- the same directories are visible
pub same_seen : (marks : List ℕ) (cs ds : List Child) → Keeps marks cs ds → seen_by marks ds ≡ seen_by marks cs
same_seen marks cs ds k = λ i f. seen_same marks cs ds k f i

module _ (e x c y marks index notes : List ℕ) (n : ℕ) (r : Ready e c marks index notes n) (le : length x ≡ length e) (lc : length y ≡ length c)
    (k : Keeps marks (parse_children c) (parse_children y)) (p : map (λ (z : Entry). z.parent) (parse_entries x) ≡ map (λ (z : Entry). z.parent) (parse_entries e))
    (q : map (λ (z : Entry). z.child) (parse_entries x) ≡ map (λ (z : Entry). z.child) (parse_entries e)) where
  at_same : entries_at y ≡ entries_at c
  unfolding entries_at
  at_same = rw lc

  directories_kept : IndexedUnder y marks (take (entries_at y) index) n
  directories_kept =
      let d = r.directories in
      rw at_same
      (record {
        few = rw lc d.few;
        marked = rw lc d.marked;
        room = d.room;
        rows = d.rows ∙ ap sorted (sym (numbers_same marks (parse_children c) (parse_children y) k));
      })

  by_child_kept : ByChild x (drop (entries_at y) index)
  unfolding entry_numbers
  by_child_kept =
      let b = r.by_child in
      let m : map entry_key (parse_entries x) ≡ map entry_key (parse_entries e) =
      keys_by_child (parse_entries x) ∙ ap (map (λ (i : ℕ). key (key_of 0 i))) q ∙ sym (keys_by_child (parse_entries e)) in
      rw at_same
      (record { few = rw le b.few; room = rw le b.room; rows = rw le (b.rows ∙ ap (λ (l : List Key). sorted (listed l 0)) (sym m)) })

  pub ready_kept : Ready x y marks index notes n
  ready_kept =
      record {
        index_long = rw at_same r.index_long;
        notes_long = rw le r.notes_long;
        directories = directories_kept;
        by_child = by_child_kept;
        noted = subst (λ (v : MdtFid → Bool). Noted v x notes) (sym (same_seen marks (parse_children c) (parse_children y) k))
            (noted_kept (seen_by marks (parse_children c)) e x notes le p r.noted);
      }
