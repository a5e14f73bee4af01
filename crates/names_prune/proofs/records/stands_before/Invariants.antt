use mathlib.Core.Path.{◌≡◌}
use Prim.Native.Nat.{◌-◌, ◌≤◌}
use lib.ListN.{take}
use Rattle.linkea.specs.Link.{decode_link_ea}
use Rattle.names.specs.Findings.{any, same_link}
use Rattle.names_check.specs.Asked.{asked}
use Rattle.names_prune.proofs.RecordLaws.{any_to, Walked}
use Rattle.names_prune.proofs.records.stands_before.Given as goal

abbrev pub invariant-loop-j : goal.invariant-loop-j
invariant-loop-j l = (l.j ≤ l.k) × Walked l.l l.j l.at
    × (any (same_link (asked l.parent l.name)) (take l.k (decode_link_ea l.l).links) ≡ any_to (same_link (asked l.parent l.name)) (decode_link_ea l.l).links l.j l.k)

abbrev pub decreases-loop-j : goal.decreases-loop-j
decreases-loop-j l = l.k - l.j
