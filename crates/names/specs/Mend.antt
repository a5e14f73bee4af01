-- The mending under a visibility: the sweeps one after the other. Document 02, 2026-06.
use Rattle.std.specs.Prelude.{ℕ, Bool, true, false, List}
use Rattle.refusals.specs.Numbers.{number}
use Rattle.refusals.specs.declared.Refusal.TheVariants.{LinkFull}
use Rattle.fid.specs.declared.MdtFid.{MdtFid}
use Rattle.names.specs.Rows.{Entry, Child}
use Rattle.names.specs.Sweeps.{Appends, sweep1, taken, sweep2, writes, sweep3, sweep4, removals}

-- "with 38"
abbrev pub link_full : ℕ
link_full = number LinkFull

-- the numbers of a report: self FIDs taken, FID-in-dirents written, records appended, records removed, the entry it stopped in front of, else
-- the number of entries
pub record Report : Type 0 where
  pub taken : ℕ
  pub written : ℕ
  pub appended : ℕ
  pub removed : ℕ
  pub reached : ℕ

-- what a mending leaves
pub record Mended : Type 0 where
  pub answer : ℕ
  pub entries : List Entry
  pub children : List Child
  pub report : Report

module _ (seen : MdtFid → Bool) (es : List Entry) (cs : List Child) where
  -- the children after sweep 1, the entries after sweep 2, and sweep 3 over both
  unfoldable pub first : List Child
  first = sweep1 seen es cs

  unfoldable pub second : List Entry
  second = sweep2 seen first es

  unfoldable pub third : Appends
  third = sweep3 seen second first 0 0

  unfoldable pub report_of : ℕ → Report
  report_of removed =
      record {
        taken = taken seen es cs;
        written = writes seen first es;
        appended = third.count;
        removed = removed;
        reached = third.reached;
      }

  -- sweep 4, but where the pass stops: then sweeps 1 and 2 and the appends before it stand
  unfoldable pub finish : Bool → Mended
  finish true = record { answer = link_full; entries = second; children = third.children; report = report_of 0 }
  finish false =
      record {
        answer = 0;
        entries = second;
        children = sweep4 seen second third.children 0;
        report = report_of (removals seen second third.children 0);
      }

  unfoldable pub mended : Mended
  mended = finish third.full
