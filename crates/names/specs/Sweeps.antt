-- The four sweeps over the whole tables, under a visibility of directories. Document 02, 2026-06: "each sweep finished before the next".
use Rattle.std.specs.Prelude.{ℕ, suc, ◌+◌, ◌-◌, Bool, true, false, cond, not, ◌&&◌, ◌||◌, List, [], ◌∷◌, ◌++◌, map, length, set, ltb, eqb}
use Rattle.fid.specs.declared.MdtFid.{MdtFid}
use Rattle.linkea.specs.Link.{Link, LinkEA, encode_link_ea}
use Rattle.linkea_write.specs.Change.{appended}
use Rattle.names.specs.Rows.{Entry, Child, Linked, unlinked, linked, link_room, is_none, links_of, child_of, with_fid, with_self, with_link_ea}
use Rattle.names.specs.Findings.{any, same, same_link, link_for, has_link}

unfoldable pub one : Bool → ℕ
one b = cond b 1 0

-- ## 1: "A missing self FID is first taken from the first entry that has one"

module _ (seen : MdtFid → Bool) where
  -- "entries of hidden directories are left out of the mending"
  unfoldable pub gives : List Child → Entry → Bool
  gives cs e = seen e.parent && not (is_none e.fid) && is_none (child_of cs e).self

  unfoldable pub taking : List Child → Entry → List Child
  taking cs e = cond (gives cs e) (set cs e.child (with_self (child_of cs e) e.fid)) cs

  unfoldable pub sweep1 : List Entry → List Child → List Child
  sweep1 [] cs = cs
  sweep1 (e ∷ es) cs = sweep1 es (taking cs e)

  -- how many are taken
  unfoldable pub taken : List Entry → List Child → ℕ
  taken [] cs = 0
  taken (e ∷ es) cs = one (gives cs e) + taken es (taking cs e)

-- ## 2: "then a self FID wins"

module _ (seen : MdtFid → Bool) where
  -- "where no entry has one either nothing of that child is mended"
  unfoldable pub mends : List Child → Entry → Bool
  mends cs e = seen e.parent && not (is_none (child_of cs e).self)

  unfoldable pub written : List Child → Entry → Entry
  written cs e = cond (mends cs e) (with_fid e (child_of cs e).self) e

  unfoldable pub sweep2 : List Child → List Entry → List Entry
  sweep2 cs es = map (written cs) es

  -- how many are written
  unfoldable pub differs : List Child → Entry → Bool
  differs cs e = mends cs e && not (same e.fid (child_of cs e).self)

  unfoldable pub writes : List Child → List Entry → ℕ
  writes cs [] = 0
  writes cs (e ∷ es) = one (differs cs e) + writes cs es

-- ## 3: "Missing records are then appended in entry order"

-- "a new linkEA with time and padding 0"
unfoldable pub start_of : Linked → LinkEA
start_of unlinked = record { time = 0; padding = 0; links = [] }
start_of (linked e) = e

-- the link_ea of a child with a record more
unfoldable pub grown_link : Child → Link → LinkEA
grown_link c x = appended (start_of c.link) x

-- "A record that outgrows the room"
unfoldable pub outgrows : Child → Link → Bool
outgrows c x = ltb link_room (length (encode_link_ea (grown_link c x)))

unfoldable pub appending : List Child → Entry → List Child
appending cs e = set cs e.child (with_link_ea (child_of cs e) (grown_link (child_of cs e) (link_for e)))

-- what an entry asks of its child: nothing, a record for which there is room, or one that outgrows it
pub data Asks : Type 0 where
  nothing : Asks
  room : Asks
  more : Asks

-- the children after the sweep, how many records were appended, the entry it stopped in front of or the number of entries, and whether it stopped
pub record Appends : Type 0 where
  pub children : List Child
  pub count : ℕ
  pub reached : ℕ
  pub full : Bool

-- "stops the pass in front of it, with 38"
unfoldable pub onward : (List Child → ℕ → Appends) → List Child → ℕ → ℕ → Entry → Asks → Appends
onward rest cs n i e nothing = rest cs n
onward rest cs n i e room = rest (appending cs e) (suc n)
onward rest cs n i e more = record { children = cs; count = n; reached = i; full = true }

module _ (seen : MdtFid → Bool) where
  unfoldable pub lacks : List Child → Entry → Bool
  lacks cs e = mends seen cs e && not (has_link (link_for e) (child_of cs e))

  unfoldable pub asks : List Child → Entry → Asks
  asks cs e = cond (lacks cs e) (cond (outgrows (child_of cs e) (link_for e)) more room) nothing

  -- from entry i on, with n records appended before
  unfoldable pub sweep3 : List Entry → List Child → ℕ → ℕ → Appends
  sweep3 [] cs n i = record { children = cs; count = n; reached = i; full = false }
  sweep3 (e ∷ es) cs n i = onward (λ ds m. sweep3 es ds m (suc i)) cs n i e (asks cs e)

-- ## 4: "last, records without an entry of that child and later repeats are removed"

-- an entry of child r has the record
unfoldable pub named : List Entry → ℕ → Link → Bool
named es r x = any (λ (e : Entry). eqb e.child r && same_link x (link_for e)) es

module _ (seen : MdtFid → Bool) where
  -- "and records naming one stay": one of a hidden directory
  unfoldable pub goes : List Entry → ℕ → List Link → Link → Bool
  goes es r before x = seen x.parent && (not (named es r x) || any (same_link x) before)

  -- the records that stay, in their order; `before` are those that stood before
  unfoldable pub kept : List Entry → ℕ → List Link → List Link → List Link
  kept es r before [] = []
  kept es r before (x ∷ xs) = cond (goes es r before x) [] (x ∷ []) ++ kept es r (before ++ (x ∷ [])) xs

  unfoldable pub left_links : List Entry → ℕ → Child → List Link
  left_links es r c = kept es r [] (links_of c)

  -- how many go: none of a child without self FID
  unfoldable pub gone : List Entry → ℕ → Child → ℕ
  gone es r c = cond (is_none c.self) 0 (length (links_of c) - length (left_links es r c))

  -- a child of which none goes is as it was, its room too
  unfoldable pub pruned : List Entry → ℕ → Child → Child
  pruned es r c =
      cond (eqb (gone es r c) 0) c
      (with_link_ea c (record { time = (start_of c.link).time; padding = (start_of c.link).padding; links = left_links es r c }))

  -- the children from row r on
  unfoldable pub sweep4 : List Entry → List Child → ℕ → List Child
  sweep4 es [] r = []
  sweep4 es (c ∷ cs) r = pruned es r c ∷ sweep4 es cs (suc r)

  unfoldable pub removals : List Entry → List Child → ℕ → ℕ
  removals es [] r = 0
  removals es (c ∷ cs) r = gone es r c + removals es cs (suc r)
