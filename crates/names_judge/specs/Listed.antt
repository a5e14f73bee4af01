-- The index of the child rows that have a self FID, by sequence and object id.
use Rattle.std.specs.Prelude.{ℕ, ◌+◌, ◌*◌, ◌/◌, ◌≤◌, ◌<◌, ◌≡◌, Bool, cond, ◌&&◌, List, map, ltb, length}
use Rattle.std.proofs.lemmas.List.Edits.{sets}
use Rattle.wire.specs.Numbers.{bytes}
use Rattle.index.specs.Entries.{place_size, number, entries, sorted}
use Rattle.fid.specs.declared.MdtFid.{MdtFid}
use Rattle.index.specs.Search.{Key, keyless, key, key_of, listed}
use Rattle.names.specs.Rows.{Child, child_size, is_none, child_at, parse_children}
use Rattle.names.specs.Check.{max_rows}
use Rattle.names.specs.Findings.{same}

unfoldable pub child_key : Child → Key
child_key c = cond (is_none c.self) keyless (key (key_of c.self.0.seq c.self.0.oid))

unfoldable pub child_numbers : List Child → List ℕ
child_numbers cs = listed (map child_key cs) 0

-- row r is there and has the FID
unfoldable pub is_row : List Child → MdtFid → ℕ → Bool
is_row cs f r = ltb r (length cs) && same (child_at cs r).self f

-- n entries and then that of row r, if its self FID is one
unfoldable pub listed_count : MdtFid → ℕ → ℕ
listed_count f n = cond (is_none f) n (n + 1)

unfoldable pub listed_bytes : MdtFid → ℕ → ℕ → List ℕ → List ℕ
listed_bytes f n r l = cond (is_none f) l (sets l (place_size * n) (bytes place_size (number f.0.seq f.0.oid r)))

-- the FIDs that rows may be given are the self FIDs of cs
unfoldable pub Names : (ℕ → MdtFid → Type 0) → List Child → Type 0
Names answers cs = (r : ℕ) (f : MdtFid) → r < length cs → answers r f → f ≡ (child_at cs r).self

-- n entries of the index are the child rows that have a self FID, in order
pub record Indexed (children index : List ℕ) (n : ℕ) : Type 0 where
  pub few : length children / child_size ≤ max_rows
  pub room : place_size * n ≤ length index
  pub rows : entries n index ≡ sorted (child_numbers (parse_children children))
