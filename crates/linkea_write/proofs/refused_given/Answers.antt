use Rattle.std.proofs.Common.{sym, ap, ◌∙◌, arith}
use borrow.Author.Tests.{not-true, not-false}
use Rattle.linkea.specs.Link.{link_header}
use Prim.Native.Nat.{◌+◌}
use Rattle.linkea_write.proofs.GivenLaws.{none_long}
use Rattle.linkea_write.proofs.ChunkLaws.{bad_so, bytes_so, bytes_small}
use Rattle.linkea_write.proofs.WriteLaws.{refused_count, refused_bad, refused_total}
use Rattle.linkea_write.proofs.refused_given.Goals as goal

pub returns-then-numbers-h : goal.returns-then-numbers-h
returns-then-numbers-h c = refused_count _ _ _ c.if-numbers-h.true

pub returns-then-not-good_given : goal.returns-then-not-good_given
returns-then-not-good_given c =
    let b = bad_so c.args.numbers.now c.args.names.now c.args.h.count _ c.if-numbers-h.false c.as_chunks.ensures.front in
    refused_bad c.args.h c.args.numbers.now c.args.names.now c.if-numbers-h.false
    (sym b ∙ not-false _ (sym c.good_given.ensures ∙ c.if-not-good_given.true))

pub total_given-requires : goal.total_given-requires
total_given-requires c =
    let n = c.args.h.count in
    let b = bad_so c.args.numbers.now c.args.names.now n _ c.if-numbers-h.false c.as_chunks.ensures.front in
    let s = bytes_so c.args.numbers.now c.args.names.now n _ c.if-numbers-h.false c.as_chunks.ensures.front in
    let g = sym b ∙ not-true _ (sym c.good_given.ensures ∙ c.if-not-good_given.false) in
    omega (arith, s, bytes_small n c.args.numbers.now 0 (none_long _ c.args.names.now n g))

pub returns : goal.returns
returns c =
    let n = c.args.h.count in
    let b = bad_so c.args.numbers.now c.args.names.now n _ c.if-numbers-h.false c.as_chunks.ensures.front in
    let s = bytes_so c.args.numbers.now c.args.names.now n _ c.if-numbers-h.false c.as_chunks.ensures.front in
    refused_total c.args.h c.args.numbers.now c.args.names.now c.if-numbers-h.false _
    (sym b ∙ not-true _ (sym c.good_given.ensures ∙ c.if-not-good_given.false)) (c.total_given.ensures ∙ ap (λ m. link_header + m) s)
