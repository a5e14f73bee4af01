-- What `chunks_exact` gives of a table: its whole rows, one after another, and a test of them all.
use Rattle.std.proofs.Common.{◌≡◌, ℕ, ◌+◌, ◌*◌, ◌/◌, ◌<◌, List, [], ◌∷◌, ◌++◌, length, take, drop, sym, ap, ◌∙◌, add-one, arith, Bool, Bor, Some, None}
use Rattle.std.proofs.Math.Nat.{add-mul-div_left, mul-one, div-eq_of_lt}
use Rattle.std.proofs.Math.Seq.{take-append_seam, drop-append_seam}
use Rattle.std.proofs.lemmas.List.{length-append}
use Rattle.std.proofs.lemmas.Iterator.{YieldsList}
use Rattle.std.proofs.lemmas.Iterator.Search.{all_from_yields_List}
use Rattle.std.specs.Fn.{Mut, Called}
use Rattle.std.specs.Iterator.{AlwaysYields, ChecksAll}
use Rattle.std.specs.List.{list_all}
use Rattle.std.specs.Slice.Iter.{chunks_exact_rest, chunks_exact_size, chunks_exact_steps}
use Rattle.std.specs.declared.slice.ChunksExact.{ChunksExact}
use Rattle.wire.specs.Rows.{rows}

-- the rows that are left
pub left : ChunksExact ℕ → List (List ℕ)
left s = rows (chunks_exact_size s) (length (chunks_exact_rest s) / chunks_exact_size s) (chunks_exact_rest s)

-- at first, those of the table
pub left_first : (s : ChunksExact ℕ) (size : ℕ) (l : List ℕ) → chunks_exact_rest s ≡ l → chunks_exact_size s ≡ size
    → left s ≡ rows size (length l / size) l
unfolding left
left_first s size l e z = rw (e, z)

module _ (s t : ChunksExact ℕ) (h : 0 < chunks_exact_size s) where
  -- a row is the first of them, and leaves the others
  pub left_some : (x : Bor (List ℕ)) → chunks_exact_steps s (Some x) t → left s ≡ x.now ∷ left t
  unfolding left rows
  left_some x p =
      let k : s.rest.now ≡ x.now ++ t.rest.now = p.1.0 in
      let q : length s.rest.now ≡ length t.rest.now + s.size * 1 =
      omega (arith, ap length k, length-append x.now t.rest.now, mul-one s.size, p.1.1) in
      let d : length s.rest.now / s.size ≡ length t.rest.now / s.size + 1 =
      ap (λ (n : ℕ). n / s.size) q ∙ add-mul-div_left (length t.rest.now) 1 h in
      let a : take s.size s.rest.now ≡ x.now = rw (k, ← p.1.1) (take-append_seam x.now t.rest.now) in
      let b : drop s.size s.rest.now ≡ t.rest.now = rw (k, ← p.1.1) (drop-append_seam x.now t.rest.now) in
      rw (p.0, d, add-one, a, b)

  -- no row comes where none is left
  pub left_none : chunks_exact_steps s None t → left s ≡ []
  unfolding left rows
  left_none p = rw (div-eq_of_lt p.1.0)

chunks : (ls : List (List ℕ)) (s : ChunksExact ℕ) → 0 < chunks_exact_size s → left s ≡ ls
    → AlwaysYields (chunks_exact_steps {A = ℕ}) (λ x. x.now) s ls
chunks [] s h e = λ x j p. cc (e, left_some s j h x p)
chunks (y ∷ ls) s h e = (
  (λ j p. cc (e, left_none s j h p)),
  λ x j p.
      let k : x.now ∷ left j ≡ y ∷ ls = sym (left_some s j h x p) ∙ e in
      (cc k, chunks ls j (omega (arith, p.0)) (cc k)),
)

-- `chunks_exact` gives the whole rows of a table
pub chunk_rows : (size : ℕ) (l : List ℕ) {s : ChunksExact ℕ} → 0 < size → chunks_exact_rest s ≡ l → chunks_exact_size s ≡ size
    → YieldsList (chunks_exact_steps {A = ℕ}) (λ x. x.now) s (rows size (length l / size) l)
chunk_rows size l {s} h e z = record { runs = chunks (rows size (length l / size) l) s (omega arith) (left_first s size l e z) }

-- `chunks_exact(size).all(f)`, where f computes a test of the row
pub chunks_all : {F : Type 0} {g : Mut F (Bor (List ℕ) × Unit {0}) Bool} {s : ChunksExact ℕ} {size : ℕ} {l : List ℕ} (test : List ℕ → Bool) (u : ChunksExact ℕ) (f : F) (r : Bool)
    → ChecksAll (chunks_exact_steps {A = ℕ}) g s f r u → 0 < size → chunks_exact_rest s ≡ l → chunks_exact_size s ≡ size
    → ((x : Bor (List ℕ)) (b : Bool) (q : F) → Called g f (x, tt) b q → (q ≡ f) × (b ≡ test x.now))
    → r ≡ list_all test (rows size (length l / size) l)
chunks_all {size = size} {l = l} test u f r d h e z k = all_from_yields_List test u f r d (chunk_rows size l h e z) k
