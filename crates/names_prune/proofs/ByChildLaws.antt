-- The entries by the row of their child: what is listed, and what is found. Assumes nothing.
use Rattle.std.specs.Prelude.{None, Some}
use mathlib.Core.Path.{◌≡◌, refl, sym, ap, ◌∙◌}
use mathlib.Core.Bool.{Bool, true, false, cond, ◌&&◌, ◌||◌}
use mathlib.Core.List.{List, [], ◌∷◌, ◌++◌, map, append-nil}
use Prim.Native.Nat.{ℕ, suc, ◌+◌, ◌-◌, ◌*◌, ◌/◌, ◌≤◌, ◌<◌, ◌^◌}
use native.Mathlib.Numerals.{add-one}
use native.Mathlib.Nat.{add-zero}
use native.Mathlib.Omega.{arith}
use borrow.Author.Tests.{lt-ltb, le-ltb}
use lib.Dec.{eqb}
use lib.ListN.{length, take, drop, get_or, length-map, drop_of_length-le}
use lib.Seq.{sets, drop-cons}
use Rattle.wire.specs.Numbers.{bytes}
use Rattle.wire.proofs.Both.{and_second}
use Rattle.fid.specs.Fid.{same_fid}
use Rattle.fid.specs.declared.MdtFid.{MdtFid}
use Rattle.linkea.specs.Link.{Link}
use Rattle.tables.specs.Check.{all}
use Rattle.tables.proofs.AllLaws.{all_at}
use Rattle.index.specs.Entries.{place_size, value_range, entries, number, sorted}
use Rattle.index.specs.Search.{Ordered, lowest_of, key_of, numbers_of, listed, is_key, first_with}
use Rattle.index.proofs.EntryLaws.{moved, number_key, number_fits}
use Rattle.index.proofs.OrderLaws.{sorted_ordered}
use Rattle.index.proofs.RowLaws.{sorted_first}
use Rattle.std.proofs.lemmas.Option.{none-some, same_Some}
use Rattle.names.specs.Rows.{Entry, entry_size, name_room, name_length, decode_entry, entry_rows, parse_entries}
use Rattle.names.specs.Check.{good_name}
use Rattle.names.specs.Findings.{any, same, same_name, same_link, link_for}
use Rattle.names.specs.Sweeps.{named}
use Rattle.names.specs.Promises.{no_entry}
use Rattle.names.proofs.SoundLaws.{parsed_entries}
use Rattle.names_check.specs.Asked.{asked, entry_at}
use Rattle.names_check.proofs.TestLaws.{name_room_lem}
use Rattle.names_check.proofs.FindingLaws.{entry_row}
use Rattle.names_prune.specs.ByChild.{entry_key, entry_numbers, is_named, first_named}

-- a child's row is its key
zero_key : (r : ℕ) → key_of 0 r ≡ r
unfolding key_of
zero_key r = omega arith

-- ## Rows

pub row_entry : (t : List ℕ) (i : ℕ) (row : List ℕ) → i < length t / entry_size → row ≡ take entry_size (drop (entry_size * i) t) →
    decode_entry row ≡ get_or (parse_entries t) i no_entry
unfolding no_entry entry_at
row_entry t i row h e = ap decode_entry e ∙ sym (entry_row t i h)

-- the name of an entry row lies in its room
pub row_name : (t : List ℕ) (i : ℕ) (row : List ℕ) → all good_name (entry_rows t) ≡ true → i < length t / entry_size →
    row ≡ take entry_size (drop (entry_size * i) t) → name_length row ≤ name_room
unfolding entry_rows
row_name t i row g h e = name_room_lem row (ap good_name e ∙ all_at good_name entry_size (length t / entry_size) i t g h)

-- ## What is listed

module _ (es : List Entry) where
  -- the entries from i on
  pub listed_from : ℕ → List ℕ
  listed_from i = listed (map entry_key (drop i es)) i

  pub list_start : (l : List ℕ) → entries 0 l ++ listed_from 0 ≡ entry_numbers es
  unfolding listed_from entry_numbers entries
  list_start l = refl

  next : (i : ℕ) → i < length es → listed_from i ≡ number 0 (get_or es i no_entry).child i ∷ listed_from (i + 1)
  unfolding listed_from listed entry_key numbers_of
  next i h = rw (add-one i, drop-cons es i no_entry h, number_key 0 (get_or es i no_entry).child i)

  pub list_next : (i child : ℕ) (l new : List ℕ) → i < length es → place_size * i + place_size ≤ length l → child ≡ (get_or es i no_entry).child →
      child < 2 ^ 32 → i < 2 ^ 32 → new ≡ sets l (place_size * i) (bytes place_size (number 0 child i)) →
      entries i l ++ listed_from i ≡ entry_numbers es → entries (i + 1) new ++ listed_from (i + 1) ≡ entry_numbers es
  list_next i child l new h k e a b s w =
      let x : listed_from i ≡ number 0 child i ∷ listed_from (i + 1) = rw e (next i h) in
      moved i (number 0 child i) l new (listed_from (i + 1)) (entry_numbers es) k (number_fits 0 child i (omega arith) a b) s (rw x at w)

  pub list_end : (i : ℕ) (l : List ℕ) → length es ≤ i → entries i l ++ listed_from i ≡ entry_numbers es → entries i l ≡ entry_numbers es
  unfolding listed_from listed
  list_end i l h w = sym (append-nil (entries i l)) ∙ (rw (drop_of_length-le es h) at w)

  pub listed_ordered : (n : ℕ) (s : List ℕ) → entries n s ≡ sorted (entry_numbers es) → Ordered (entries n s)
  listed_ordered n s e = rw e (sorted_ordered (entry_numbers es))

-- ## One entry asked

module _ (t : List ℕ) (x : Link) (i : ℕ) where
  pub named_past : length t / entry_size ≤ i → false ≡ is_named (parse_entries t) x i
  unfolding is_named
  named_past h = rw (le-ltb i (length (parse_entries t)) (omega (arith, parsed_entries t)))

  named_there : i < length t / entry_size → (row : List ℕ) → row ≡ take entry_size (drop (entry_size * i) t) →
      same_link x (link_for (decode_entry row)) ≡ is_named (parse_entries t) x i
  unfolding is_named
  named_there h row e =
      rw (lt-ltb i (length (parse_entries t)) (omega (arith, parsed_entries t))) (ap (λ (y : Entry). same_link x (link_for y)) (row_entry t i row h e))

module _ (t : List ℕ) (parent : MdtFid) (name : List ℕ) (i : ℕ) (h : i < length t / entry_size) (row : List ℕ)
    (e : row ≡ take entry_size (drop (entry_size * i) t)) (f : MdtFid) (p : f ≡ (decode_entry row).parent) where
  pub named_elsewhere : same_fid parent.0 f.0 ≡ false → false ≡ is_named (parse_entries t) (asked parent name) i
  unfolding same_link same asked link_for
  named_elsewhere k = rw (← p, k) at (named_there t (asked parent name) i h row e)

  pub named_there_by : same_fid parent.0 f.0 ≡ true → (m : List ℕ) → m ≡ (decode_entry row).name →
      same_name name m ≡ is_named (parse_entries t) (asked parent name) i
  unfolding same_link same asked link_for
  named_there_by k m q = rw (← p, ← q, k) at (named_there t (asked parent name) i h row e)

-- ## What is found

module _ (r : ℕ) (x : Link) where
  first_with_lem : (test : ℕ → Bool) (es : List Entry) (i : ℕ) → ((j : ℕ) → j < length es → test (i + j) ≡ same_link x (link_for (get_or es j no_entry))) →
      first_with test (key_of 0 r) (map entry_key es) i ≡ first_named es r x i
  unfolding first_with first_named is_key entry_key
  first_with_lem test [] i t = refl
  first_with_lem test (e ∷ es) i t =
      let z : test i ≡ same_link x (link_for e) = rw add-zero at (t 0 (omega arith)) in
      let rest : first_with test (key_of 0 r) (map entry_key es) (suc i) ≡ first_named es r x (suc i) =
      first_with_lem test es (suc i) (λ j k. let e : i + suc j ≡ suc i + j = omega arith in rw (← e) (t (suc j) (omega arith))) in
      rw (rest, zero_key e.child, zero_key r, z)

  entry_test : (es : List Entry) (j : ℕ) → j < length es → is_named es x (0 + j) ≡ same_link x (link_for (get_or es j no_entry))
  unfolding is_named
  entry_test es j h = let z : 0 + j ≡ j = omega arith in rw (z, lt-ltb j (length es) h)

  pub first_found : (es : List Entry) → length es ≤ value_range → first_named es r x 0 ≡ lowest_of (is_named es x) (key_of 0 r) (sorted (entry_numbers es))
  unfolding entry_numbers
  first_found es h =
      sym (sorted_first (is_named es x) (key_of 0 r) (map entry_key es) (omega (arith, length-map es entry_key))
      ∙ first_with_lem (is_named es x) es 0 (entry_test es))

-- what is found of a record: an entry that has it, or none has
pub record Names (es : List Entry) (r : ℕ) (x : Link) (i k : ℕ) : Type 0 where
  pub from : i ≤ k
  pub inside : k < i + length es
  pub has : named es r x ≡ true
  pub link : same_link x (link_for (get_or es (k - i) no_entry)) ≡ true

pub found_none : (es : List Entry) (r : ℕ) (x : Link) (i : ℕ) → first_named es r x i ≡ None → named es r x ≡ false
unfolding first_named named any
found_none [] r x i h = refl
found_none (e ∷ es) r x i h = go (eqb e.child r && same_link x (link_for e)) h (found_none es r x (suc i))
  where
    go : (b : Bool) → cond b (Some i) (first_named es r x (suc i)) ≡ None → (first_named es r x (suc i) ≡ None → named es r x ≡ false) →
        (b || named es r x) ≡ false
    go true k on = absurd (none-some i (sym k))
    go false k on = on k

pub found_some : (es : List Entry) (r : ℕ) (x : Link) (i k : ℕ) → first_named es r x i ≡ Some k → Names es r x i k
unfolding first_named named any
found_some [] r x i k h = absurd (none-some k h)
found_some (e ∷ es) r x i k h = go (eqb e.child r && same_link x (link_for e)) refl h (found_some es r x (suc i) k)
  where
    go : (b : Bool) → (eqb e.child r && same_link x (link_for e)) ≡ b → cond b (Some i) (first_named es r x (suc i)) ≡ Some k →
        (first_named es r x (suc i) ≡ Some k → Names es r x (suc i) k) → Names (e ∷ es) r x i k
    go true t v on =
        let q : i ≡ k = same_Some i k v in
        let z : k - i ≡ 0 = omega arith in
        record { from = omega arith; inside = omega arith; has = rw t; link = rw z (and_second (eqb e.child r) (same_link x (link_for e)) t) }
    go false t v on =
        let f = on v in
        let z : k - i ≡ suc (k - suc i) = omega (arith, f.from) in
        record { from = omega (arith, f.from); inside = omega (arith, f.inside); has = rw t f.has; link = rw z f.link }
