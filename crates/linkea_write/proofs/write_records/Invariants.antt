use Rattle.std.proofs.Common.{◌≡◌, ◌+◌, take, sum_by}
use Rattle.linkea.specs.Link.{link_header}
use Rattle.linkea_write.proofs.ChunkLaws.{long, stored}
use Rattle.linkea_write.proofs.write_records.Given as goal

abbrev pub invariant-loop-given : goal.invariant-loop-given
invariant-loop-given l = record {
  place : l.a ≡ link_header + sum_by long (take l.given-index l.records);
  done : l.dest ≡ stored l.names l.initial.dest l.records l.given-index;
}
