use Rattle.std.proofs.Common.{rules, arith, ◌∙◌}
use Rattle.wire.proofs.ChunkLaws.{chunks_all}
use Rattle.layout_write.specs.Writer.{given_at}
use Rattle.layout_write.proofs.GivenLaws.{allowed_one, given_tests}
use Rattle.layout_write.proofs.allowed_numbers.Goals as goal

pub returns : goal.returns
unfolding allowed_one
returns c =
    let a = c.args in
    chunks_all (λ part. allowed_one a.holes (given_at part 0)) _ _ _ c.all.ensures.ran (omega arith) c.chunks_exact.ensures.rest c.chunks_exact.ensures.size (λ x b q k. search rules)
    ∙ given_tests a.holes a.numbers.now
