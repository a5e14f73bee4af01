use mathlib.Core.Path.{◌≡◌}
use Prim.Native.Nat.{◌-◌}
use lib.ListN.{length}
use Rattle.linkea.specs.Link.{decode_link_ea}
use Rattle.names.specs.Rows.{parse_entries, parse_children}
use Rattle.names.specs.Visible.{seen_by}
use Rattle.names_prune.proofs.RecordLaws.{Walked}
use Rattle.names_prune.proofs.FlagLaws.{Flagged}
use Rattle.names_prune.proofs.records.Lent.flag.Given as goal

abbrev pub invariant-loop-at : goal.invariant-loop-at
invariant-loop-at l = Walked l.l l.k l.at × Flagged (seen_by l.self.marks.now (parse_children l.self.children.now)) (parse_entries l.self.entries.now) l.r (decode_link_ea l.l).links l.k l.gone l.flags
    × (length l.flags ≡ length l.initial.flags)

abbrev pub decreases-loop-at : goal.decreases-loop-at
decreases-loop-at l = length l.l - l.at
