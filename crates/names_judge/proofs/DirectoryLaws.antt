-- The directory of a FID is what the index of the child rows finds. Assumes nothing.
use Rattle.std.specs.Prelude.{None}
use mathlib.Core.Path.{◌≡◌, refl, sym, ap, ◌∙◌}
use mathlib.Core.Bool.{Bool, true, false, cond, ◌&&◌, and-false}
use mathlib.Core.List.{List, [], ◌∷◌, ◌++◌, map, append-nil}
use Prim.Native.Nat.{ℕ, suc, ◌+◌, ◌*◌, ◌/◌, ◌≤◌, ◌<◌, ◌^◌}
use native.Mathlib.Numerals.{add-one}
use native.Mathlib.Nat.{add-zero}
use native.Mathlib.Omega.{arith}
use borrow.Author.Tests.{eq-eqb, lt-ltb, le-ltb}
use lib.ListN.{length, take, drop, get_or, length-map, drop_of_length-le}
use lib.Seq.{sets, drop-cons}
use Rattle.wire.specs.Numbers.{bytes}
use Rattle.fid.specs.Fid.{same_fid}
use Rattle.fid.specs.declared.Fid.{Fid}
use Rattle.fid.specs.declared.MdtFid.{MdtFid}
use Rattle.fid.proofs.SameLaws.{same_is}
use Rattle.index.specs.Entries.{place_size, value_range, entries, number, sorted}
use Rattle.index.specs.Search.{Ordered, lowest_of, key_of, numbers_of, listed, is_key, first_with}
use Rattle.index.proofs.EntryLaws.{moved, number_key, number_fits}
use Rattle.index.proofs.OrderLaws.{sorted_ordered}
use Rattle.index.proofs.RowLaws.{sorted_first}
use Rattle.names.specs.Rows.{Child, child_size, is_none, no_child, child_at, decode_child, parse_children}
use Rattle.names.specs.Findings.{same}
use Rattle.names.specs.Visible.{first_row, directory}
use Rattle.names.proofs.SoundLaws.{parsed_children, parsed_child}
use Rattle.names_judge.specs.Listed.{child_key, child_numbers, is_row, listed_count, listed_bytes, Names}

-- ## What is found

-- a row that has the FID has its key
key_same : (c : Child) (f : MdtFid) → is_none f ≡ false → same c.self f ≡ true → is_key (key_of f.0.seq f.0.oid) (child_key c) ≡ true
unfolding same child_key is_none is_key
key_same c f h e =
    let p : c.self.0 ≡ f.0 = same_is c.self.0 f.0 e in
    rw (p, h) (eq-eqb (key_of f.0.seq f.0.oid) (key_of f.0.seq f.0.oid) refl)

key_and : (c : Child) (f : MdtFid) → is_none f ≡ false →
    (is_key (key_of f.0.seq f.0.oid) (child_key c) && same c.self f) ≡ same c.self f
key_and c f h = go (same c.self f) refl
  where
    go : (b : Bool) → same c.self f ≡ b → (is_key (key_of f.0.seq f.0.oid) (child_key c) && b) ≡ b
    go true e = rw (key_same c f h e)
    go false e = and-false (is_key (key_of f.0.seq f.0.oid) (child_key c))

-- the first row with the FID, by any test that says of each row whether it has it
first_with_lem : (f : MdtFid) (test : ℕ → Bool) → is_none f ≡ false → (cs : List Child) (r : ℕ) →
    ((j : ℕ) → j < length cs → test (r + j) ≡ same (get_or cs j no_child).self f) →
    first_with test (key_of f.0.seq f.0.oid) (map child_key cs) r ≡ first_row f cs r
unfolding first_with first_row
first_with_lem f test h [] r t = refl
first_with_lem f test h (c ∷ cs) r t =
    let z : test r ≡ same c.self f = rw add-zero at (t 0 (omega arith)) in
    let rest : first_with test (key_of f.0.seq f.0.oid) (map child_key cs) (suc r) ≡ first_row f cs (suc r) =
    first_with_lem f test h cs (suc r) (λ j k. let e : r + suc j ≡ suc r + j = omega arith in rw (← e) (t (suc j) (omega arith))) in
    rw (z, key_and c f h, rest)

row_test : (cs : List Child) (f : MdtFid) (j : ℕ) → j < length cs → is_row cs f (0 + j) ≡ same (get_or cs j no_child).self f
unfolding is_row child_at
row_test cs f j h = let z : 0 + j ≡ j = omega arith in rw (z, lt-ltb j (length cs) h)

pub directory_none : (cs : List Child) (f : MdtFid) → is_none f ≡ true → None ≡ directory cs f
unfolding directory
directory_none cs f h = rw h

pub directory_found : (cs : List Child) (f : MdtFid) → is_none f ≡ false → length cs ≤ value_range →
    directory cs f ≡ lowest_of (is_row cs f) (key_of f.0.seq f.0.oid) (sorted (child_numbers cs))
unfolding directory child_numbers
directory_found cs f h k =
    rw h
    (sym (sorted_first (is_row cs f) (key_of f.0.seq f.0.oid) (map child_key cs) (omega (arith, length-map cs child_key))
    ∙ first_with_lem f (is_row cs f) h cs 0 (row_test cs f)))

-- ## What is listed

-- a row that is passed by, and one that is put
module _ (f : MdtFid) (n r : ℕ) (l : List ℕ) where
  pub row_passed : is_none f ≡ true → (n ≡ listed_count f n) × (l ≡ listed_bytes f n r l)
  unfolding listed_count listed_bytes
  row_passed h = (rw h, rw h)

  pub row_put : (new : List ℕ) → is_none f ≡ false → new ≡ sets l (place_size * n) (bytes place_size (number f.0.seq f.0.oid r)) →
      (n + 1 ≡ listed_count f n) × (new ≡ listed_bytes f n r l)
  unfolding listed_count listed_bytes
  row_put new h e = (rw h, rw h e)

-- at most one entry more
pub list_few : (f : MdtFid) (n m : ℕ) → m ≡ listed_count f n → m ≤ n + 1
unfolding listed_count
list_few f n m e = go (is_none f) e
  where
    go : (b : Bool) → m ≡ cond b n (n + 1) → m ≤ n + 1
    go true h = omega arith
    go false h = omega arith

pub named : (answers : ℕ → MdtFid → Type 0) (cs : List Child) → Names answers cs → (r : ℕ) (f : MdtFid) → r < length cs → answers r f → f ≡ (child_at cs r).self
unfolding Names
named answers cs p = p

module _ (cs : List Child) where
  -- the entries of the rows from r on
  pub listed_from : ℕ → List ℕ
  listed_from r = listed (map child_key (drop r cs)) r

  pub list_start : (l : List ℕ) → entries 0 l ++ listed_from 0 ≡ child_numbers cs
  unfolding listed_from child_numbers entries
  list_start l = refl

  next_row : (r : ℕ) → r < length cs → listed_from r ≡ numbers_of (child_key (child_at cs r)) r (listed_from (r + 1))
  unfolding listed_from listed child_at
  next_row r h = rw (add-one r, drop-cons cs r no_child h)

  list_past : (r n : ℕ) (l : List ℕ) → r < length cs → is_none (child_at cs r).self ≡ true → entries n l ++ listed_from r ≡ child_numbers cs →
      entries n l ++ listed_from (r + 1) ≡ child_numbers cs
  unfolding child_key numbers_of
  list_past r n l h e i = ap (λ (x : List ℕ). entries n l ++ x) (sym (next_row r h ∙ rw e)) ∙ i

  list_put : (r n : ℕ) (l new : List ℕ) → r < length cs → place_size * n + place_size ≤ length l → (f : Fid) → f ≡ (child_at cs r).self.0 →
      f.seq < 2 ^ 64 → f.oid < 2 ^ 32 → r < 2 ^ 32 → is_none (child_at cs r).self ≡ false →
      new ≡ sets l (place_size * n) (bytes place_size (number f.seq f.oid r)) → entries n l ++ listed_from r ≡ child_numbers cs →
      entries (n + 1) new ++ listed_from (r + 1) ≡ child_numbers cs
  unfolding child_key numbers_of
  list_put r n l new h k f q a b d e s i =
      let x : listed_from r ≡ number f.seq f.oid r ∷ listed_from (r + 1) =
      next_row r h ∙ rw (e, number_key f.seq f.oid r, q) in
      moved n (number f.seq f.oid r) l new (listed_from (r + 1)) (child_numbers cs) k (number_fits f.seq f.oid r a b d) s (rw x at i)

  -- a row passed by or put
  pub list_row : (r n m : ℕ) (l new : List ℕ) (f : MdtFid) → f ≡ (child_at cs r).self → m ≡ listed_count f n → new ≡ listed_bytes f n r l →
      r < length cs → place_size * n + place_size ≤ length l → f.0.seq < 2 ^ 64 → f.0.oid < 2 ^ 32 → r < 2 ^ 32 →
      entries n l ++ listed_from r ≡ child_numbers cs → entries m new ++ listed_from (r + 1) ≡ child_numbers cs
  unfolding listed_count listed_bytes
  list_row r n m l new f p q s h k a b d i = go (is_none f) refl q s
    where
      go : (t : Bool) → is_none f ≡ t → m ≡ cond t n (n + 1) →
          new ≡ cond t l (sets l (place_size * n) (bytes place_size (number f.0.seq f.0.oid r))) →
          entries m new ++ listed_from (r + 1) ≡ child_numbers cs
      go true t x y = rw (x, y) (list_past r n l h (ap is_none (sym p) ∙ t) i)
      go false t x y = rw x (list_put r n l new h k f.0 (ap (λ (g : MdtFid). g.0) p) a b d (ap is_none (sym p) ∙ t) y i)

  pub list_end : (r n : ℕ) (l : List ℕ) → length cs ≤ r → entries n l ++ listed_from r ≡ child_numbers cs → entries n l ≡ child_numbers cs
  unfolding listed_from listed
  list_end r n l h i = sym (append-nil (entries n l)) ∙ (rw (drop_of_length-le cs h) at i)

-- ## The walk

pub listed_ordered : (cs : List Child) (n : ℕ) (s : List ℕ) → entries n s ≡ sorted (child_numbers cs) → Ordered (entries n s)
listed_ordered cs n s e = rw e (sorted_ordered (child_numbers cs))

-- row r is there and has the FID, or not
module _ (c : List ℕ) (f : MdtFid) (r : ℕ) where
  pub row_past : length c / child_size ≤ r → false ≡ is_row (parse_children c) f r
  unfolding is_row
  row_past h = rw (le-ltb r (length (parse_children c)) (omega (arith, parsed_children c)))

  pub row_there : r < length c / child_size → (g : MdtFid) → g ≡ (child_at (parse_children c) r).self →
      same_fid g.0 f.0 ≡ is_row (parse_children c) f r
  unfolding is_row same
  row_there h g e = rw (lt-ltb r (length (parse_children c)) (omega (arith, parsed_children c))) (ap (λ (x : MdtFid). same_fid x.0 f.0) e)

-- the self FID of row r, as it is read
pub its_self : (c : List ℕ) (r : ℕ) (row : List ℕ) (g : MdtFid) → r < length c / child_size → row ≡ take child_size (drop (child_size * r) c) →
    g ≡ (decode_child row).self → g ≡ (child_at (parse_children c) r).self
its_self c r row g h p q = q ∙ ap (λ (l : List ℕ). (decode_child l).self) p ∙ ap (λ (x : Child). x.self) (sym (parsed_child c r h))
