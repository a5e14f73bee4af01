-- A row of a table written: what the table says then, and that it passes the check as before. Assumes nothing.
use mathlib.Core.Path.{◌≡◌, refl, sym, ap, ◌∙◌}
use mathlib.Core.Bool.{Bool, true}
use mathlib.Core.List.{List, [], ◌∷◌, map}
use Prim.Native.Nat.{ℕ, zero, suc, ◌+◌, ◌-◌, ◌*◌, ◌/◌, ◌≤◌, ◌<◌}
use native.Mathlib.Nat.{add-zero}
use native.Mathlib.Omega.{arith}
use borrow.Author.Tests.{lt-ltb, eq-eqb, le-leb}
use borrow.Rule.Slice.PartMut.{put_mid}
use lib.ListN.{length, take, drop, get_or, set, length-set}
use lib.Seq.{sets, length-sets}
use Rattle.wire.specs.Rows.{rows}
use Rattle.wire.proofs.Both.{and_first, and_second}
use Rattle.wire.proofs.RowLaws.{rows_at, rows_inside}
use Rattle.wire.proofs.Splice.{sets_whole, put_sets}
use Rattle.tables.specs.Check.{all, whole_rows, first_failing}
use Rattle.tables.proofs.AllLaws.{row_fits, part_length}
use Rattle.tables.proofs.SoundLaws.{WholeFacts}
use Rattle.names.specs.Rows.{entry_size, child_size, child_row, decode_entry, decode_child, entry_rows, child_rows, parse_entries, parse_children}
use Rattle.names.specs.Check.{max_rows, names_whole, child_there, children_there, good_name, good_link_ea, names_good, names_tests, names_number, SoundNames}
use Rattle.names.proofs.SoundLaws.{NamesFacts, names_facts, children_many}

map_set : {A B : Type 0} (f : A → B) (l : List A) (i : ℕ) (a : A) → map f (set l i a) ≡ set (map f l) i (f a)
map_set f [] i a = refl
map_set f (x ∷ l) zero a = refl
map_set f (x ∷ l) (suc i) a = ap (λ t. f x ∷ t) (map_set f l i a)

-- ## Rows

-- a row that is written whole
row_stored : (size r : ℕ) (t y : List ℕ) → 1 ≤ size → length y ≡ size → size * (length t / size) ≡ length t → r < length t / size →
    rows size (length t / size) (sets t (size * r) y) ≡ set (rows size (length t / size) t) r y
row_stored size r t y p h w k =
    let n : ℕ = length t / size in
    let a : get_or (rows size n t) r [] ≡ take size (drop (size * r) t) = rows_at size n r t k in
    let m : length (take size (drop (size * r) t)) ≡ length y = part_length size r t (row_fits size r (length t) p k) ∙ sym h in
    let e : sets (get_or (rows size n t) r []) 0 y ≡ y = ap (λ (l : List ℕ). sets l 0 y) a ∙ sets_whole y (take size (drop (size * r) t)) m in
    (rw add-zero at (rows_inside size n r 0 t y (omega arith) k (omega arith))) ∙ ap (λ (l : List ℕ). set (rows size n t) r l) e

-- a row that is lent as a part and comes back
pub row_back : (size r : ℕ) (t y z : List ℕ) → 1 ≤ size → z ≡ y → length y ≡ size → r < length t / size →
    put_mid (size * r) (size * r + size - size * r) t z ≡ sets t (size * r) y
row_back size r t y z p e h k = rw e (put_sets (size * r) (size * r + size) t y (omega arith) (row_fits size r (length t) p k))

all_set : (test : List ℕ → Bool) (l : List (List ℕ)) (i : ℕ) (y : List ℕ) → all test l ≡ true → test y ≡ true → all test (set l i y) ≡ true
unfolding all
all_set test [] i y h k = refl
all_set test (x ∷ l) zero y h k = rw (k, and_second (test x) (all test l) h)
all_set test (x ∷ l) (suc i) y h k = rw (and_first (test x) (all test l) h, all_set test l i y (and_second (test x) (all test l) h) k)

whole_of : (size most : ℕ) (l : List ℕ) → WholeFacts size most l → whole_rows size most l ≡ true
unfolding whole_rows
whole_of size most l w = rw (eq-eqb (size * (length l / size)) (length l) w.exact, le-leb (length l / size) most w.few)

-- what is known of both tables makes them pass
pub facts_sound : (e c : List ℕ) → NamesFacts e c → SoundNames e c
unfolding SoundNames names_number names_tests first_failing names_whole names_good
facts_sound e c f =
    rw (whole_of entry_size max_rows e f.entries_whole, whole_of child_size max_rows c f.children_whole, f.there, f.names, f.links)

-- ## Child rows

module _ (e c : List ℕ) (h : SoundNames e c) (r : ℕ) (k : r < length c / child_size) (y : List ℕ) (n : length y ≡ child_size) where
  child_rows_lem : child_rows (sets c (child_size * r) y) ≡ set (child_rows c) r y
  unfolding child_rows
  child_rows_lem = rw (length-sets c (child_size * r) y) (row_stored child_size r c y (omega arith) n (names_facts e c h).children_whole.exact k)

  pub child_stored : parse_children (sets c (child_size * r) y) ≡ set (parse_children c) r (decode_child y)
  unfolding parse_children
  child_stored = ap (map decode_child) child_rows_lem ∙ map_set decode_child (child_rows c) r y

  pub child_sound : good_link_ea y ≡ true → SoundNames e (sets c (child_size * r) y)
  unfolding children_there
  child_sound g =
      let f = names_facts e c h in
      let l : length (sets c (child_size * r) y) ≡ length c = length-sets c (child_size * r) y in
      let w : WholeFacts child_size max_rows (sets c (child_size * r) y) = record { exact = rw l f.children_whole.exact; few = rw l f.children_whole.few } in
      let m : length (child_rows (sets c (child_size * r) y)) ≡ length (child_rows c) = rw (child_rows_lem, length-set (child_rows c) r y) in
      facts_sound e (sets c (child_size * r) y)
      (record {
        entries_whole = f.entries_whole;
        children_whole = w;
        there = rw m f.there;
        names = f.names;
        links = rw child_rows_lem (all_set good_link_ea (child_rows c) r y f.links g);
      })

-- ## Entry rows

module _ (e c : List ℕ) (h : SoundNames e c) (i : ℕ) (k : i < length e / entry_size) (y : List ℕ) (n : length y ≡ entry_size) where
  entry_rows_lem : entry_rows (sets e (entry_size * i) y) ≡ set (entry_rows e) i y
  unfolding entry_rows
  entry_rows_lem = rw (length-sets e (entry_size * i) y) (row_stored entry_size i e y (omega arith) n (names_facts e c h).entries_whole.exact k)

  pub entry_stored : parse_entries (sets e (entry_size * i) y) ≡ set (parse_entries e) i (decode_entry y)
  unfolding parse_entries
  entry_stored = ap (map decode_entry) entry_rows_lem ∙ map_set decode_entry (entry_rows e) i y

  pub entry_sound : good_name y ≡ true → child_row y < length c / child_size → SoundNames (sets e (entry_size * i) y) c
  unfolding children_there child_there
  entry_sound g t =
      let f = names_facts e c h in
      let l : length (sets e (entry_size * i) y) ≡ length e = length-sets e (entry_size * i) y in
      let w : WholeFacts entry_size max_rows (sets e (entry_size * i) y) = record { exact = rw l f.entries_whole.exact; few = rw l f.entries_whole.few } in
      facts_sound (sets e (entry_size * i) y) c
      (record {
        entries_whole = w;
        children_whole = f.children_whole;
        there = rw entry_rows_lem (all_set (child_there (length (child_rows c))) (entry_rows e) i y f.there
            (lt-ltb (child_row y) (length (child_rows c)) (omega (arith, children_many c))));
        names = rw entry_rows_lem (all_set good_name (entry_rows e) i y f.names g);
        links = f.links;
      })
