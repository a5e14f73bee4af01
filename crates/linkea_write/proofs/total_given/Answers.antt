use Rattle.std.proofs.Common.{[], arith}
use Rattle.std.proofs.lemmas.List.Sums.{sum_by_more, sum_by_more_le}
use Rattle.linkea_write.specs.Writer.{size_given, number_of}
use Rattle.linkea_write.proofs.ChunkLaws.{long}
use Rattle.linkea_write.proofs.total_given.Goals as goal

pub overflow_add-total : goal.overflow_add-total
unfolding size_given number_of
overflow_add-total c =
    let m = sum_by_more_le long c.args.records.now c.loop-given.given-index [] c.loop-given-test.true in
    omega (arith, m, c.requires)

pub overflow_add-total-in-loop-given : goal.overflow_add-total-in-loop-given
unfolding size_given number_of
overflow_add-total-in-loop-given c =
    let m = sum_by_more_le long c.args.records.now c.loop-given.given-index [] c.loop-given-test.true in
    omega (arith, m, c.requires, c.loop-given.invariant)

pub loop-given-preserved : goal.loop-given-preserved
unfolding size_given number_of
loop-given-preserved c =
    let m = sum_by_more long c.args.records.now c.loop-given.given-index [] c.loop-given-test.true in
    omega (arith, m, c.loop-given.invariant)
