use mathlib.Core.Path.{◌≡◌}
use Prim.Native.Nat.{◌-◌}
use lib.ListN.{length}
use Rattle.linkea.specs.Link.{decode_link_ea}
use Rattle.linkea.proofs.PlaceLaws.{AllGood}
use Rattle.names.specs.Findings.{any, same_link}
use Rattle.names_check.specs.Asked.{asked}
use Rattle.names_check.proofs.LinkLaws.{any_from}
use Rattle.names_check.proofs.links.has_link.Given as goal

abbrev pub invariant-loop-at : goal.invariant-loop-at
invariant-loop-at l = AllGood l.l l.at × (any (same_link (asked l.parent l.name)) (decode_link_ea l.l).links ≡ any_from (same_link (asked l.parent l.name)) l.l l.at)

abbrev pub decreases-loop-at : goal.decreases-loop-at
decreases-loop-at l = length l.l - l.at
