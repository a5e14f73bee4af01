use mathlib.Core.Path.{◌≡◌}
use mathlib.Core.Bool.{Bool}
use Prim.Native.Nat.{◌+◌, ◌≤◌}
use lib.ListN.{length}
use Rattle.fid.specs.declared.MdtFid.{MdtFid}
use Rattle.names.specs.Rows.{parse_entries, parse_children}
use Rattle.names.specs.Check.{SoundNames}
use Rattle.names.specs.Sweeps.{writes}
use Rattle.names_store.specs.Notes.{Noted}
use Rattle.names_fids.proofs.DirentLaws.{done_to, writes_from}
use Rattle.names_fids.proofs.dirents.write_fids.Given as goal

abbrev pub invariant-loop-i : goal.invariant-loop-i
invariant-loop-i l = (l.i ≤ l.count) × (l.n ≤ l.i) × (length l.entries ≡ length l.initial.entries) × SoundNames l.entries l.children
    × ((seen : MdtFid → Bool) → Noted seen l.initial.entries l.notes →
    done_to seen (parse_children l.children) l.initial.entries l.i l.entries
    × (writes seen (parse_children l.children) (parse_entries l.initial.entries) ≡ l.n + writes_from seen (parse_children l.children) l.initial.entries l.i))
