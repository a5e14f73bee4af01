-- What it says of an entry and its child that the entry gives, mends, lacks or asks. Assumes nothing.
use mathlib.Core.Path.{◌≡◌, refl}
use mathlib.Core.Bool.{Bool, true, false, cond, not, ◌&&◌, true≢false}
use mathlib.Core.List.{List}
use borrow.Author.Tests.{not-true}
use Rattle.wire.proofs.Both.{and_first, and_second}
use Rattle.fid.specs.declared.MdtFid.{MdtFid}
use Rattle.names.specs.Rows.{Entry, Child, is_none, child_of}
use Rattle.names.specs.Findings.{link_for, has_link}
use Rattle.names.specs.Sweeps.{nothing, room, more, gives, mends, differs, outgrows, lacks, asks}

module _ (seen : MdtFid → Bool) (cs : List Child) (e : Entry) where
  pub gives_none : gives seen cs e ≡ true → is_none (child_of cs e).self ≡ true
  unfolding gives
  gives_none h = and_second (seen e.parent && not (is_none e.fid)) (is_none (child_of cs e).self) h

  pub mends_seen : mends seen cs e ≡ true → seen e.parent ≡ true
  unfolding mends
  mends_seen h = and_first (seen e.parent) (not (is_none (child_of cs e).self)) h

  pub lacks_mends : lacks seen cs e ≡ true → mends seen cs e ≡ true
  unfolding lacks
  lacks_mends h = and_first (mends seen cs e) (not (has_link (link_for e) (child_of cs e))) h

  pub lacks_link : lacks seen cs e ≡ true → has_link (link_for e) (child_of cs e) ≡ false
  unfolding lacks
  lacks_link h = not-true (has_link (link_for e) (child_of cs e)) (and_second (mends seen cs e) (not (has_link (link_for e) (child_of cs e))) h)

  pub asks_room : asks seen cs e ≡ room → lacks seen cs e ≡ true
  unfolding asks
  asks_room h = go (lacks seen cs e) h
    where
      go : (b : Bool) → cond b (cond (outgrows (child_of cs e) (link_for e)) more room) nothing ≡ room → b ≡ true
      go true h = refl
      go false h = cc

  pub asks_nothing : asks seen cs e ≡ nothing → lacks seen cs e ≡ false
  unfolding asks
  asks_nothing h = go (lacks seen cs e) (outgrows (child_of cs e) (link_for e)) h
    where
      go : (b o : Bool) → cond b (cond o more room) nothing ≡ nothing → b ≡ false
      go true true h = cc
      go true false h = cc
      go false o h = refl

-- these read no more of a child than its self FID
module _ (seen : MdtFid → Bool) (cs ds : List Child) (e : Entry) (h : (child_of ds e).self ≡ (child_of cs e).self) where
  pub gives_same : gives seen ds e ≡ gives seen cs e
  unfolding gives
  gives_same = rw h

  mends_same : mends seen ds e ≡ mends seen cs e
  unfolding mends
  mends_same = rw h

  pub differs_same : differs seen ds e ≡ differs seen cs e
  unfolding differs mends
  differs_same = rw h

  -- and this its records: where the entry's stays, what lacked none lacks none
  pub lacks_same : (has_link (link_for e) (child_of cs e) ≡ true → has_link (link_for e) (child_of ds e) ≡ true) → lacks seen cs e ≡ false →
      lacks seen ds e ≡ false
  unfolding lacks
  lacks_same k l = rw mends_same (go (mends seen cs e) (has_link (link_for e) (child_of cs e)) l k)
    where
      go : (m b : Bool) → (m && not b) ≡ false → (b ≡ true → has_link (link_for e) (child_of ds e) ≡ true) →
          (m && not (has_link (link_for e) (child_of ds e))) ≡ false
      go true true l k = rw (k refl)
      go true false l k = absurd (true≢false l)
      go false b l k = refl
