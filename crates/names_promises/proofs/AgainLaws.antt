-- A second mending, after a finished one, changes nothing and reports nothing. Assumes nothing.
use Prim.Native.Nat.{ℕ, suc, ◌+◌}
use mathlib.Core.Path.{◌≡◌, refl, ap₂}
use mathlib.Core.Bool.{Bool, true, false, cond, not, ◌&&◌}
use mathlib.Core.List.{List, [], ◌∷◌}
use borrow.Author.Tests.{not-false}
use native.Mathlib.Omega.{arith}
use lib.ListN.{length}
use Rattle.fid.specs.declared.MdtFid.{MdtFid}
use Rattle.names.specs.Rows.{Entry, Child, child_of, with_fid}
use Rattle.names.specs.Findings.{same}
use Rattle.names.specs.Sweeps.{one, gives, taking, sweep1, taken, mends, written, sweep2, differs, writes, asks, onward, sweep3, sweep4, removals}
use Rattle.names.specs.Mend.{first, second, third, report_of, finish, mended}
use Rattle.names.specs.Promises.{quiet, Belong}
use Rattle.names_promises.proofs.EachLaws.{Each}
use Rattle.names_promises.proofs.FrameLaws.{entries_many}
use Rattle.names_promises.proofs.KeptLaws.{pruned_none, pruned_again}
use Rattle.names_promises.proofs.SameLinks.{fid_is}
use Rattle.names_promises.proofs.StillLaws.{Still, finished, still}

module _ (seen : MdtFid → Bool) (cs : List Child) where
  -- ## Sweep 1

  taking_still : (e : Entry) → gives seen cs e ≡ false → taking seen cs e ≡ cs
  unfolding taking
  taking_still e h = rw h

  sweep1_still : (es : List Entry) → Each (Still seen cs) es → sweep1 seen es cs ≡ cs
  unfolding sweep1
  sweep1_still [] k = refl
  sweep1_still (e ∷ es) k = rw (taking_still e k.0.gift) (sweep1_still es k.1)

  taken_still : (es : List Entry) → Each (Still seen cs) es → taken seen es cs ≡ 0
  unfolding taken one
  taken_still [] k = refl
  taken_still (e ∷ es) k = rw (taking_still e k.0.gift, k.0.gift, taken_still es k.1)

  -- ## Sweep 2

  written_still : (e : Entry) → differs seen cs e ≡ false → written seen cs e ≡ e
  unfolding written differs with_fid
  written_still e h = go (mends seen cs e) h
    where
      go : (b : Bool) → (b && not (same e.fid (child_of cs e).self)) ≡ false → cond b (with_fid e (child_of cs e).self) e ≡ e
      go true h =
          let p = fid_is e.fid (child_of cs e).self (not-false (same e.fid (child_of cs e).self) h) in
          rw (← p)
      go false h = refl

  sweep2_still : (es : List Entry) → Each (Still seen cs) es → sweep2 seen cs es ≡ es
  unfolding sweep2
  sweep2_still [] k = refl
  sweep2_still (e ∷ es) k = ap₂ (λ (x : Entry) (xs : List Entry). x ∷ xs) (written_still e k.0.difference) (sweep2_still es k.1)

  writes_still : (es : List Entry) → Each (Still seen cs) es → writes seen cs es ≡ 0
  unfolding writes one
  writes_still [] k = refl
  writes_still (e ∷ es) k = rw (k.0.difference, writes_still es k.1)

  -- ## Sweep 3

  sweep3_still : (es : List Entry) → Each (Still seen cs) es → (n i j : ℕ) → i + length es ≡ j →
      sweep3 seen es cs n i ≡ record { children = cs; count = n; reached = j; full = false }
  unfolding sweep3 asks onward
  sweep3_still [] k n i j h = let p : i ≡ j = omega arith in rw p
  sweep3_still (e ∷ es) k n i j h = rw k.0.lack (sweep3_still es k.1 n (suc i) j (omega arith))

-- ## Sweep 4

module _ (seen : MdtFid → Bool) (es : List Entry) where
  sweep4_again : (cs : List Child) (k : ℕ) → sweep4 seen es (sweep4 seen es cs k) k ≡ sweep4 seen es cs k
  unfolding sweep4
  sweep4_again [] k = refl
  sweep4_again (c ∷ cs) k = ap₂ (λ (x : Child) (xs : List Child). x ∷ xs) (pruned_again seen es k c) (sweep4_again cs (suc k))

  removals_again : (cs : List Child) (k : ℕ) → removals seen es (sweep4 seen es cs k) k ≡ 0
  unfolding sweep4 removals
  removals_again [] k = refl
  removals_again (c ∷ cs) k = rw (pruned_none seen es k c, removals_again cs (suc k))

-- ## All

module _ (seen : MdtFid → Bool) (es : List Entry) (cs : List Child) (k : Each (Still seen cs) es)
    (p : sweep4 seen es cs 0 ≡ cs) (q : removals seen es cs 0 ≡ 0) where
  still_again : mended seen es cs ≡ record { answer = 0; entries = es; children = cs; report = quiet (length es) }
  unfolding mended finish first second third report_of quiet
  still_again =
      let a = sweep1_still seen cs es k in
      let b = sweep2_still seen cs es k in
      let c = sweep3_still seen cs es k 0 0 (length es) (omega arith) in
      rw (a, b, c) (rw (a, b, c, p, q, taken_still seen cs es k, writes_still seen cs es k))

module _ (seen : MdtFid → Bool) (es : List Entry) (cs : List Child) (a : (mended seen es cs).answer ≡ 0) where
  rows_again : sweep4 seen (mended seen es cs).entries (mended seen es cs).children 0 ≡ (mended seen es cs).children
  unfolding mended finish
  rows_again = rw (finished seen es cs a) (sweep4_again seen (second seen es cs) (third seen es cs).children 0)

  none_again : removals seen (mended seen es cs).entries (mended seen es cs).children 0 ≡ 0
  unfolding mended finish
  none_again = rw (finished seen es cs a) (removals_again seen (second seen es cs) (third seen es cs).children 0)

  pub mended_again : Belong es cs →
      mended seen (mended seen es cs).entries (mended seen es cs).children
      ≡ record { answer = 0; entries = (mended seen es cs).entries; children = (mended seen es cs).children; report = quiet (length es) }
  mended_again b =
      rw (← entries_many seen es cs)
      (still_again seen (mended seen es cs).entries (mended seen es cs).children (still seen es cs b a) rows_again none_again)
