-- How the children's rows change over a sweep and over a mending, from how one row changes in a step. Assumes nothing.
use Prim.Native.Nat.{ℕ, zero, suc, ◌+◌, ◌<◌}
use mathlib.Core.Path.{◌≡◌, refl, sym, ap}
use mathlib.Core.Bool.{Bool, true, false, cond}
use mathlib.Core.List.{List, [], ◌∷◌}
use native.Mathlib.Omega.{arith}
use borrow.Author.Tests.{eqb-true, eqb-false}
use lib.ListN.{length, set}
use lib.Seq.{get_or-set_same}
use lib.Dec.{eqb}
use Rattle.wire.specs.Numbers.{le}
use Rattle.fid.specs.Fid.{decode_fid, same_fid, zero_fid}
use Rattle.fid.specs.declared.MdtFid.{MdtFid}
use Rattle.names.specs.Rows.{Entry, Child, is_none, mdt_fid, decode_child, no_child, child_at, child_of, with_self, with_link_ea}
use Rattle.names.specs.Findings.{link_for, has_link}
use Rattle.names.specs.Sweeps.{Asks, nothing, room, more, gives, taking, sweep1, grown_link, appending, lacks, asks, onward, sweep3, start_of, left_links, gone, pruned, sweep4}
use Rattle.names.specs.Mend.{first, second, third, finish, mended}
use Rattle.names_promises.proofs.AskLaws.{gives_none, mends_seen, lacks_mends, lacks_link, asks_room}
use Rattle.names_promises.proofs.EachLaws.{Each, each_every}

-- the child with the record that an entry asks
unfoldable pub grown : Child → Entry → Child
grown c e = with_link_ea c (grown_link c (link_for e))

-- a row set by what R lets it become: R r c d says that row r may go from c to d
related_set : (R : ℕ → Child → Child → Type 0) → ((r : ℕ) (c : Child) → R r c c) → (cs : List Child) (k : ℕ) (c : Child) →
    R k (child_at cs k) c → (r : ℕ) → R r (child_at cs r) (child_at (set cs k c) r)
unfolding child_at
related_set R same [] k c h r = same r no_child
related_set R same (d ∷ ds) zero c h zero = h
related_set R same (d ∷ ds) zero c h (suc r) = same (suc r) (child_at ds r)
related_set R same (d ∷ ds) (suc k) c h zero = same 0 d
related_set R same (d ∷ ds) (suc k) c h (suc r) = related_set (λ j. R (suc j)) (λ j. same (suc j)) ds k c h r

-- the row of an entry's child, as set
pub set_own : (cs : List Child) (e : Entry) (d : Child) → e.child < length cs → child_of (set cs e.child d) e ≡ d
unfolding child_of child_at
set_own cs e d h = get_or-set_same cs e.child d no_child h

module _ (seen : MdtFid → Bool) (R : ℕ → Child → Child → Type 0) (same : (r : ℕ) (c : Child) → R r c c)
    (join : (r : ℕ) (a b c : Child) → R r a b → R r b c → R r a c) where
  -- ## Sweep 1

  module _ (step : (r : ℕ) (c : Child) (f : MdtFid) → is_none c.self ≡ true → R r c (with_self c f)) where
    taking_rows : (cs : List Child) (e : Entry) (r : ℕ) → R r (child_at cs r) (child_at (taking seen cs e) r)
    unfolding taking child_of
    taking_rows cs e r = go (gives seen cs e) refl
      where
        go : (b : Bool) → gives seen cs e ≡ b → R r (child_at cs r) (child_at (cond b (set cs e.child (with_self (child_of cs e) e.fid)) cs) r)
        go true h = related_set R same cs e.child (with_self (child_of cs e) e.fid) (step e.child (child_of cs e) e.fid (gives_none seen cs e h)) r
        go false h = same r (child_at cs r)

    pub sweep1_rows : (es : List Entry) (cs : List Child) (r : ℕ) → R r (child_at cs r) (child_at (sweep1 seen es cs) r)
    unfolding sweep1
    sweep1_rows [] cs r = same r (child_at cs r)
    sweep1_rows (e ∷ es) cs r =
        join r (child_at cs r) (child_at (taking seen cs e) r) (child_at (sweep1 seen es (taking seen cs e)) r)
        (taking_rows cs e r) (sweep1_rows es (taking seen cs e) r)

  -- ## Sweep 3: the step knows what P says of the entry

  module _ (P : Entry → Type 0)
      (step : (c : Child) (e : Entry) → P e → seen e.parent ≡ true → has_link (link_for e) c ≡ false → R e.child c (grown c e)) where
    appending_rows : (cs : List Child) (e : Entry) → P e → lacks seen cs e ≡ true → (r : ℕ) → R r (child_at cs r) (child_at (appending cs e) r)
    unfolding appending child_of grown
    appending_rows cs e p l r =
        related_set R same cs e.child (grown (child_of cs e) e)
        (step (child_of cs e) e p (mends_seen seen cs e (lacks_mends seen cs e l)) (lacks_link seen cs e l)) r

    pub sweep3_rows : (es : List Entry) → Each P es → (cs : List Child) (n i r : ℕ) → R r (child_at cs r) (child_at (sweep3 seen es cs n i).children r)
    unfolding sweep3 onward
    sweep3_rows [] ps cs n i r = same r (child_at cs r)
    sweep3_rows (e ∷ es) ps cs n i r = go (asks seen cs e) refl (λ ds m. sweep3_rows es ps.1 ds m (suc i) r)
      where
        go : (a : Asks) → asks seen cs e ≡ a → ((ds : List Child) (m : ℕ) → R r (child_at ds r) (child_at (sweep3 seen es ds m (suc i)).children r)) →
            R r (child_at cs r) (child_at (onward (λ (ds : List Child) (m : ℕ). sweep3 seen es ds m (suc i)) cs n i e a).children r)
        go nothing h rec = rec cs n
        go room h rec =
            join r (child_at cs r) (child_at (appending cs e) r) (child_at (sweep3 seen es (appending cs e) (suc n) (suc i)).children r)
            (appending_rows cs e ps.0 (asks_room seen cs e h) r) (rec (appending cs e) (suc n))
        go more h rec = same r (child_at cs r)

-- ## Sweep 4

-- a child with the records that stay
unfoldable pub shorter : (MdtFid → Bool) → List Entry → ℕ → Child → Child
shorter seen es r c =
    with_link_ea c (record { time = (start_of c.link).time; padding = (start_of c.link).padding; links = left_links seen es r c })

-- it is that child where a record goes, else as it was
pub pruned_either : (seen : MdtFid → Bool) (es : List Entry) (r : ℕ) (c : Child) (P : Child → Type 0) → (gone seen es r c ≡ 0 → P c) →
    ((gone seen es r c ≡ 0 → ⊥) → P (shorter seen es r c)) → P (pruned seen es r c)
unfolding pruned shorter
pruned_either seen es r c P old new = go (eqb (gone seen es r c) 0) refl
  where
    go : (b : Bool) → eqb (gone seen es r c) 0 ≡ b → P (cond b c (shorter seen es r c))
    go true h = old (eqb-true (gone seen es r c) 0 h)
    go false h = new (eqb-false (gone seen es r c) 0 h)

-- a row that isn't there stays so
none_pruned : (seen : MdtFid → Bool) (es : List Entry) (r : ℕ) → pruned seen es r no_child ≡ no_child
unfolding pruned gone no_child decode_child mdt_fid decode_fid le is_none same_fid zero_fid
none_pruned seen es r = refl

pub sweep4_at : (seen : MdtFid → Bool) (es : List Entry) (cs : List Child) (k r j : ℕ) → k + r ≡ j →
    child_at (sweep4 seen es cs k) r ≡ pruned seen es j (child_at cs r)
unfolding sweep4 child_at
sweep4_at seen es [] k r j h = sym (none_pruned seen es j)
sweep4_at seen es (c ∷ cs) k zero j h = ap (λ (i : ℕ). pruned seen es i c) (omega arith)
sweep4_at seen es (c ∷ cs) k (suc r) j h = sweep4_at seen es cs (suc k) r j (omega arith)

-- ## The mending

module _ (seen : MdtFid → Bool) (R : ℕ → Child → Child → Type 0) (same : (r : ℕ) (c : Child) → R r c c)
    (join : (r : ℕ) (a b c : Child) → R r a b → R r b c → R r a c)
    (one : (r : ℕ) (c : Child) (f : MdtFid) → is_none c.self ≡ true → R r c (with_self c f))
    (three : (c : Child) (e : Entry) → seen e.parent ≡ true → R e.child c (grown c e))
    (four : (es : List Entry) (r : ℕ) (c : Child) → R r c (pruned seen es r c)) (es : List Entry) (cs : List Child) (r : ℕ) where
  third_rows : R r (child_at cs r) (child_at (third seen es cs).children r)
  unfolding third first
  third_rows =
      join r (child_at cs r) (child_at (first seen es cs) r) (child_at (third seen es cs).children r) (sweep1_rows seen R same join one es cs r)
      (sweep3_rows seen R same join (λ e. Unit {0}) (λ c e p s l. three c e s) (second seen es cs)
      (each_every (λ e. Unit {0}) (λ e. tt) (second seen es cs)) (first seen es cs) 0 0 r)

  pub mended_rows : R r (child_at cs r) (child_at (mended seen es cs).children r)
  unfolding mended finish
  mended_rows = go (third seen es cs).full
    where
      go : (b : Bool) → R r (child_at cs r) (child_at (finish seen es cs b).children r)
      go true = third_rows
      go false =
          join r (child_at cs r) (child_at (third seen es cs).children r) (child_at (finish seen es cs false).children r) third_rows
          (rw (sweep4_at seen (second seen es cs) (third seen es cs).children 0 r r (omega arith))
          (four (second seen es cs) r (child_at (third seen es cs).children r)))
