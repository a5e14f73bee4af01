-- Every entry has exactly one FID finding and one link finding. Assumes nothing.
use mathlib.Core.Path.{◌≡◌, refl}
use mathlib.Core.Bool.{Bool, true, false, cond}
use Rattle.names.specs.Rows.{Entry, Child, is_none}
use Rattle.names.specs.Findings.{same, has_link, link_for, fids_finding, fid_finding, link_finding}
use Rattle.names.specs.Promises.{SaysFid, agree, no_dirent, differ, no_self, neither, SaysLink, there, missing, EveryFinding}
use Rattle.names.specs.declared.FidFinding.{FidFinding}
use Rattle.names.specs.declared.FidFinding.TheVariants.{FidAgrees, NoDirentFid, FidDiffers, NoSelfFid, NeitherFid}
use Rattle.names.specs.declared.LinkFinding.{LinkFinding}
use Rattle.names.specs.declared.LinkFinding.TheVariants.{RecordThere, NoRecord}
use Rattle.names_check.proofs.LinkLaws.{neither_fid, no_self_fid, no_dirent_fid, fid_agrees, fid_differs, record_there, no_record}

module _ (e : Entry) (c : Child) where
  its_fid : SaysFid e c (fid_finding e c)
  unfolding fid_finding fids_finding
  its_fid = go (is_none c.self) (is_none e.fid) (same e.fid c.self) refl refl refl
    where
      go : (a b d : Bool) → is_none c.self ≡ a → is_none e.fid ≡ b → same e.fid c.self ≡ d →
          SaysFid e c (cond a (cond b NeitherFid NoSelfFid) (cond b NoDirentFid (cond d FidAgrees FidDiffers)))
      go true true d p q r = neither p q
      go true false d p q r = no_self p q
      go false true d p q r = no_dirent p q
      go false false true p q r = agree p q r
      go false false false p q r = differ p q r

  fid_only : (x : FidFinding) → SaysFid e c x → x ≡ fid_finding e c
  unfolding fid_finding same
  fid_only x (agree p q r) = fid_agrees e.fid c.self p q r
  fid_only x (no_dirent p q) = no_dirent_fid e.fid c.self p q
  fid_only x (differ p q r) = fid_differs e.fid c.self p q r
  fid_only x (no_self p q) = no_self_fid e.fid c.self p q
  fid_only x (neither p q) = neither_fid e.fid c.self p q

  its_link : SaysLink e c (link_finding e c)
  unfolding link_finding
  its_link = go (has_link (link_for e) c) refl
    where
      go : (b : Bool) → has_link (link_for e) c ≡ b → SaysLink e c (cond b RecordThere NoRecord)
      go true p = there p
      go false p = missing p

  link_only : (x : LinkFinding) → SaysLink e c x → x ≡ link_finding e c
  link_only x (there p) = record_there e c p
  link_only x (missing p) = no_record e c p

pub every_finding : EveryFinding
unfolding EveryFinding
every_finding e c = record { fid = its_fid e c; fid_alone = fid_only e c; link = its_link e c; link_alone = link_only e c }
