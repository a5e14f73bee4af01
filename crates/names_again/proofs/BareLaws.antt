-- Of a child that has no self FID after a mending nothing is mended. Assumes nothing.
use mathlib.Core.Path.{◌≡◌, refl, sym, ap, subst, ◌∙◌}
use mathlib.Core.Bool.{Bool, true, false, cond, not, ◌&&◌, and-false, true≢false}
use mathlib.Core.List.{List, [], ◌∷◌}
use Prim.Native.Nat.{ℕ, zero, suc, ◌<◌}
use native.Mathlib.Omega.{arith}
use lib.ListN.{length, set}
use Rattle.wire.proofs.Both.{and_first}
use Rattle.fid.specs.Fid.{zero_fid}
use Rattle.fid.specs.declared.MdtFid.{MdtFid}
use Rattle.fid.proofs.SameLaws.{same_is}
use Rattle.names.specs.Rows.{Entry, Child, is_none, child_at, child_of, with_self, with_link_ea}
use Rattle.names.specs.Findings.{link_for}
use Rattle.names.specs.Sweeps.{Asks, nothing, room, more, gives, taking, sweep1, mends, written, sweep2, grown_link, appending, lacks, asks, onward, sweep3, gone, pruned, sweep4}
use Rattle.names.specs.Mend.{first, second, third, finish, mended}
use Rattle.names.specs.Promises.{entry_at}
use Rattle.names_promises.proofs.AskLaws.{lacks_mends, asks_room}
use Rattle.names_promises.proofs.EachLaws.{Each, each_from}
use Rattle.names_promises.proofs.RowFrames.{sweep1_rows, sweep4_at}
use Rattle.names_promises.proofs.SelfLaws.{sweep3_self, sweep4_self}
use Rattle.names_again.specs.Pass.{EveryBare}

-- ## Sweep 1

none_is : (f g : MdtFid) → is_none f ≡ true → is_none g ≡ true → f ≡ g
unfolding is_none
none_is f g p q = let e = same_is f.0 zero_fid p ∙ sym (same_is g.0 zero_fid q) in λ i. record { 0 = e i }

self_bare : (c : Child) (f : MdtFid) → is_none c.self ≡ true → is_none f ≡ true → with_self c f ≡ c
unfolding with_self
self_bare c f n h = let p = none_is f c.self h n in λ i. record { self = p i; up = c.up; link = c.link; rest = c.rest }

bare_by : {c d : Child} → c ≡ d → is_none c.self ≡ true → is_none d.self ≡ true
bare_by e h = subst (λ (x : Child). is_none x.self ≡ true) e h

module _ (seen : MdtFid → Bool) where
  sweep1_bare : (es : List Entry) (cs : List Child) (r : ℕ) → is_none (child_at (sweep1 seen es cs) r).self ≡ true →
      child_at (sweep1 seen es cs) r ≡ child_at cs r
  unfolding with_self
  sweep1_bare es cs r =
      sweep1_rows seen (λ i c d. is_none d.self ≡ true → d ≡ c) (λ i c h. refl)
      (λ i a b c p q h. let e : c ≡ b = q h in e ∙ p (bare_by e h)) (λ i c f n h. self_bare c f n h) es cs r

  -- no entry of a child without one gives it one
  set_none : (cs : List Child) (k r : ℕ) (d : Child) → (k ≡ r → is_none d.self ≡ true) → is_none (child_at cs r).self ≡ true →
      is_none (child_at (set cs k d) r).self ≡ true
  unfolding child_at
  set_none [] k r d f h = h
  set_none (c ∷ cs) zero zero d f h = f refl
  set_none (c ∷ cs) zero (suc r) d f h = h
  set_none (c ∷ cs) (suc k) zero d f h = h
  set_none (c ∷ cs) (suc k) (suc r) d f h = set_none cs k r d (λ e. f (ap suc e)) h

  abbrev GivesNone : ℕ → Entry → Type 0
  GivesNone r e = e.child ≡ r → seen e.parent ≡ true → is_none e.fid ≡ true

  gives_seen : (cs : List Child) (e : Entry) → gives seen cs e ≡ true → seen e.parent ≡ true
  unfolding gives
  gives_seen cs e h =
      and_first (seen e.parent) (not (is_none e.fid)) (and_first (seen e.parent && not (is_none e.fid)) (is_none (child_of cs e).self) h)

  taking_none : (cs : List Child) (e : Entry) (r : ℕ) → GivesNone r e → is_none (child_at cs r).self ≡ true → is_none (child_at (taking seen cs e) r).self ≡ true
  unfolding taking with_self
  taking_none cs e r f h = go (gives seen cs e) refl
    where
      go : (b : Bool) → gives seen cs e ≡ b → is_none (child_at (cond b (set cs e.child (with_self (child_of cs e) e.fid)) cs) r).self ≡ true
      go true g = set_none cs e.child r (with_self (child_of cs e) e.fid) (λ q. f q (gives_seen cs e g)) h
      go false g = h

  sweep1_none : (r : ℕ) (es : List Entry) → Each (GivesNone r) es → (cs : List Child) → is_none (child_at cs r).self ≡ true →
      is_none (child_at (sweep1 seen es cs) r).self ≡ true
  unfolding sweep1
  sweep1_none r [] f cs h = h
  sweep1_none r (e ∷ es) f cs h = sweep1_none r es f.1 (taking seen cs e) (taking_none cs e r f.0 h)

  -- ## Sweep 2

  written_bare : (cs : List Child) (e : Entry) → is_none (child_of cs e).self ≡ true → written seen cs e ≡ e
  unfolding written mends
  written_bare cs e h = rw (h, and-false (seen e.parent))

  second_bare : (cs : List Child) (es : List Entry) (i : ℕ) → is_none (child_of cs (entry_at es i)).self ≡ true →
      entry_at (sweep2 seen cs es) i ≡ entry_at es i
  unfolding sweep2 entry_at
  second_bare cs [] i h = refl
  second_bare cs (e ∷ es) zero h = written_bare cs e h
  second_bare cs (e ∷ es) (suc i) h = second_bare cs es i h

  -- ## Sweep 3

  -- a row set is another
  set_bare : (cs : List Child) (k r : ℕ) (d : Child) → is_none (child_at cs k).self ≡ false → is_none (child_at cs r).self ≡ true →
      child_at (set cs k d) r ≡ child_at cs r
  unfolding child_at
  set_bare [] k r d a b = refl
  set_bare (c ∷ cs) zero zero d a b = absurd (true≢false (sym b ∙ a))
  set_bare (c ∷ cs) zero (suc r) d a b = refl
  set_bare (c ∷ cs) (suc k) zero d a b = refl
  set_bare (c ∷ cs) (suc k) (suc r) d a b = set_bare cs k r d a b

  mends_some : (cs : List Child) (e : Entry) → mends seen cs e ≡ true → is_none (child_of cs e).self ≡ false
  unfolding mends
  mends_some cs e h = go (is_none (child_of cs e).self) h
    where
      go : (b : Bool) → (seen e.parent && not b) ≡ true → b ≡ false
      go true k = absurd (true≢false (sym k ∙ and-false (seen e.parent)))
      go false k = refl

  appending_bare : (cs : List Child) (e : Entry) (r : ℕ) → lacks seen cs e ≡ true → is_none (child_at cs r).self ≡ true →
      child_at (appending cs e) r ≡ child_at cs r
  unfolding appending child_of
  appending_bare cs e r l h =
      set_bare cs e.child r (with_link_ea (child_of cs e) (grown_link (child_of cs e) (link_for e))) (mends_some cs e (lacks_mends seen cs e l)) h

  sweep3_bare : (es : List Entry) (cs : List Child) (n i r : ℕ) → is_none (child_at cs r).self ≡ true →
      child_at (sweep3 seen es cs n i).children r ≡ child_at cs r
  unfolding sweep3 onward
  sweep3_bare [] cs n i r h = refl
  sweep3_bare (e ∷ es) cs n i r h = go (asks seen cs e) refl (λ ds m k. sweep3_bare es ds m (suc i) r k)
    where
      go : (a : Asks) → asks seen cs e ≡ a →
          ((ds : List Child) (m : ℕ) → is_none (child_at ds r).self ≡ true → child_at (sweep3 seen es ds m (suc i)).children r ≡ child_at ds r) →
          child_at (onward (λ (ds : List Child) (m : ℕ). sweep3 seen es ds m (suc i)) cs n i e a).children r ≡ child_at cs r
      go nothing a rec = rec cs n h
      go room a rec =
          let p : child_at (appending cs e) r ≡ child_at cs r = appending_bare cs e r (asks_room seen cs e a) h in
          rec (appending cs e) (suc n) (bare_by (sym p) h) ∙ p
      go more a rec = refl

  -- ## Sweep 4

  pruned_bare : (es : List Entry) (r : ℕ) (c : Child) → is_none c.self ≡ true → pruned seen es r c ≡ c
  unfolding pruned gone
  pruned_bare es r c h = rw h

  sweep4_bare : (es : List Entry) (cs : List Child) (r : ℕ) → is_none (child_at cs r).self ≡ true → child_at (sweep4 seen es cs 0) r ≡ child_at cs r
  sweep4_bare es cs r h = sweep4_at seen es cs 0 r r (omega arith) ∙ pruned_bare es r (child_at cs r) h

  -- ## The mending

  module _ (es : List Entry) (cs : List Child) where
    -- a child that has none after sweep 1 is as then
    after_first : (b : Bool) (r : ℕ) → is_none (child_at (first seen es cs) r).self ≡ true → child_at (finish seen es cs b).children r ≡ child_at (first seen es cs) r
    unfolding finish third
    after_first true r n = sweep3_bare (second seen es cs) (first seen es cs) 0 0 r n
    after_first false r n =
        let p : child_at (third seen es cs).children r ≡ child_at (first seen es cs) r = sweep3_bare (second seen es cs) (first seen es cs) 0 0 r n in
        sweep4_bare (second seen es cs) (third seen es cs).children r (bare_by (sym p) n) ∙ p

    -- and one that has none at the end has none then
    first_none : (b : Bool) (r : ℕ) → is_none (child_at (finish seen es cs b).children r).self ≡ true → is_none (child_at (first seen es cs) r).self ≡ true
    unfolding finish third
    first_none true r h = subst (λ (f : MdtFid). is_none f ≡ true) (sweep3_self seen (second seen es cs) (first seen es cs) 0 0 r) h
    first_none false r h =
        subst (λ (f : MdtFid). is_none f ≡ true)
        (sweep4_self seen (second seen es cs) (third seen es cs).children 0 r ∙ sweep3_self seen (second seen es cs) (first seen es cs) 0 0 r) h

    stays_none : (b : Bool) (r : ℕ) → is_none (child_at cs r).self ≡ true → ((i : ℕ) → i < length es → GivesNone r (entry_at es i)) →
        is_none (child_at (finish seen es cs b).children r).self ≡ true
    unfolding first
    stays_none b r h f =
        let n : is_none (child_at (first seen es cs) r).self ≡ true = sweep1_none r es (each_from (GivesNone r) es f) cs h in
        bare_by (sym (after_first b r n)) n

    children_bare : (b : Bool) (r : ℕ) → is_none (child_at (finish seen es cs b).children r).self ≡ true →
        child_at (finish seen es cs b).children r ≡ child_at cs r
    unfolding first
    children_bare b r h = let n = first_none b r h in after_first b r n ∙ sweep1_bare es cs r n

    entries_bare : (b : Bool) (i : ℕ) → is_none (child_of (finish seen es cs b).children (entry_at es i)).self ≡ true →
        entry_at (finish seen es cs b).entries i ≡ entry_at es i
    unfolding child_of second finish
    entries_bare true i h = second_bare (first seen es cs) es i (first_none true (entry_at es i).child h)
    entries_bare false i h = second_bare (first seen es cs) es i (first_none false (entry_at es i).child h)

pub every_bare : EveryBare
unfolding EveryBare mended
every_bare seen es cs =
    let b : Bool = (third seen es cs).full in
    record { none = stays_none seen es cs b; children = children_bare seen es cs b; entries = entries_bare seen es cs b }
