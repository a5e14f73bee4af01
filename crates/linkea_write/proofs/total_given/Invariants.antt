use Rattle.std.proofs.Common.{◌≡◌, ◌+◌, take, sum_by}
use Rattle.linkea.specs.Link.{link_header}
use Rattle.linkea_write.proofs.ChunkLaws.{long}
use Rattle.linkea_write.proofs.total_given.Given as goal

abbrev pub invariant-loop-given : goal.invariant-loop-given
invariant-loop-given l = l.total ≡ link_header + sum_by long (take l.given-index l.records)
