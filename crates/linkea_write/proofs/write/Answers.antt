use Rattle.std.proofs.Common.{◌≡◌, length, sym, ap, ◌∙◌, arith}
use lib.Seq.{sets, length-sets}
use Rattle.linkea.specs.Link.{link_header, encode_links}
use Rattle.linkea_write.proofs.ChunkLaws.{bad_so, bytes_so, links_so}
use Rattle.linkea_write.proofs.WriteLaws.{write_facts, write_bad, write_short, write_done}
use Rattle.linkea_write.proofs.write.Goals as goal

pub returns-then-refused_given : goal.returns-then-refused_given
returns-then-refused_given c =
    let whole = write_bad _ _ _ _ (sym c.refused_given.ensures ∙ c.if-refused_given.true) in
    record { answer = whole.0; bytes = whole.1 }

pub returns-then-dest-h : goal.returns-then-dest-h
returns-then-dest-h c =
    let whole = write_short _ _ _ _ (sym c.refused_given.ensures ∙ c.if-refused_given.false) (omega arith) in
    record { answer = whole.0; bytes = whole.1 }

pub write_header-requires : goal.write_header-requires
write_header-requires c = omega (arith, (write_facts _ _ _ (sym c.refused_given.ensures ∙ c.if-refused_given.false)).total)

pub write_records-requires : goal.write_records-requires
write_records-requires c =
    let f = write_facts _ _ _ (sym c.refused_given.ensures ∙ c.if-refused_given.false) in
    let n = c.args.h.count in
    let b = bad_so c.args.numbers.now c.args.names.now n _ f.even c.as_chunks.ensures.front in
    let s = bytes_so c.args.numbers.now c.args.names.now n _ f.even c.as_chunks.ensures.front in
    let l : length c.write_header.new.dest ≡ length c.args.dest.now = rw (c.write_header.ensures, length-sets) in
    record { taken = b ∙ f.good; room = omega (arith, f.total, s, l) }

pub returns : goal.returns
returns c =
    let f = write_facts _ _ _ (sym c.refused_given.ensures ∙ c.if-refused_given.false) in
    let k = links_so c.args.numbers.now c.args.names.now c.args.h.count _ f.even c.as_chunks.ensures.front in
    let whole = write_done _ _ _ _ _ _ (sym c.refused_given.ensures ∙ c.if-refused_given.false) (omega arith) c.write_header.ensures
    (c.write_records.ensures ∙ ap (λ ls. sets c.write_header.new.dest link_header (encode_links ls)) k) in
    record { answer = whole.0; bytes = whole.1 }
