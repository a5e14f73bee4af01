-- A finished mending leaves every entry of a visible directory settled. Assumes nothing.
use Prim.Native.Nat.{ℕ, ◌<◌}
use mathlib.Core.Path.{◌≡◌, refl, sym, ◌∙◌}
use mathlib.Core.Bool.{Bool, true, false, not, ◌&&◌, and-true}
use mathlib.Core.List.{List}
use borrow.Author.Tests.{not-false}
use native.Mathlib.Omega.{arith}
use lib.ListN.{length}
use Rattle.fid.specs.declared.MdtFid.{MdtFid}
use Rattle.names.specs.Rows.{Entry, Child, is_none, child_of}
use Rattle.names.specs.Findings.{same, link_for, has_link, fids_finding, fid_finding, link_finding}
use Rattle.names.specs.Sweeps.{gives, mends, differs, lacks}
use Rattle.names.specs.Mend.{mended}
use Rattle.names.specs.Promises.{Settled, consistent, bare, entry_at, Belong}
use Rattle.names_promises.proofs.EachLaws.{each_at}
use Rattle.names_promises.proofs.FrameLaws.{entries_many}
use Rattle.names_promises.proofs.SameLinks.{fid_is}
use Rattle.names_promises.proofs.StillLaws.{Still, still}

module _ (seen : MdtFid → Bool) (cs : List Child) (e : Entry) (s : seen e.parent ≡ true) (k : Still seen cs e) where
  -- a child without self FID: the entry gives none
  no_fid : is_none (child_of cs e).self ≡ true → is_none e.fid ≡ true
  unfolding gives
  no_fid n =
      let h : (not (is_none e.fid) && true) ≡ false = rw (s, n) at k.gift in
      not-false (is_none e.fid) (sym (and-true (not (is_none e.fid))) ∙ h)

  -- one with self FID: the entry has the same, and its record
  own_fid : is_none (child_of cs e).self ≡ false → same e.fid (child_of cs e).self ≡ true
  unfolding differs mends
  own_fid n = not-false (same e.fid (child_of cs e).self) (rw (s, n) at k.difference)

  own_link : is_none (child_of cs e).self ≡ false → has_link (link_for e) (child_of cs e) ≡ true
  unfolding lacks mends
  own_link n = not-false (has_link (link_for e) (child_of cs e)) (rw (s, n) at k.lack)

  still_settled : Settled e (child_of cs e)
  unfolding fid_finding fids_finding link_finding
  still_settled = go (is_none (child_of cs e).self) refl
    where
      go : (b : Bool) → is_none (child_of cs e).self ≡ b → Settled e (child_of cs e)
      go true n = bare (rw (n, no_fid n))
      go false n =
          let q : is_none e.fid ≡ false = rw (fid_is e.fid (child_of cs e).self (own_fid n)) n in
          consistent (rw (n, q, own_fid n)) (rw (own_link n))

pub mended_settled : (seen : MdtFid → Bool) (es : List Entry) (cs : List Child) → Belong es cs → (mended seen es cs).answer ≡ 0 → (i : ℕ) →
    i < length es → seen (entry_at (mended seen es cs).entries i).parent ≡ true →
    Settled (entry_at (mended seen es cs).entries i) (child_of (mended seen es cs).children (entry_at (mended seen es cs).entries i))
mended_settled seen es cs b a i h s =
    still_settled seen (mended seen es cs).children (entry_at (mended seen es cs).entries i) s
    (each_at (Still seen (mended seen es cs).children) (mended seen es cs).entries (still seen es cs b a) i (omega (arith, entries_many seen es cs)))
