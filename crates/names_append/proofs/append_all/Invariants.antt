use mathlib.Core.Path.{◌≡◌}
use mathlib.Core.Bool.{Bool}
use Prim.Native.Nat.{◌≤◌}
use lib.ListN.{length}
use Rattle.fid.specs.declared.MdtFid.{MdtFid}
use Rattle.names.specs.Rows.{parse_entries, parse_children}
use Rattle.names.specs.Check.{SoundNames}
use Rattle.names.specs.Sweeps.{sweep3}
use Rattle.names_store.specs.Notes.{Noted}
use Rattle.names_append.proofs.AskLaws.{swept_from}
use Rattle.names_append.proofs.append_all.Given as goal

abbrev pub invariant-loop-i : goal.invariant-loop-i
invariant-loop-i l = (l.i ≤ l.count) × (l.n ≤ l.i) × (length l.children ≡ length l.initial.children) × SoundNames l.entries l.children
    × ((seen : MdtFid → Bool) → Noted seen l.entries l.notes →
    sweep3 seen (parse_entries l.entries) (parse_children l.initial.children) 0 0 ≡ swept_from seen l.entries l.i (parse_children l.children) l.n)
