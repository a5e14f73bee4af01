use Rattle.std.proofs.Common.{[], get_or, refl, ◌∙◌, arith}
use Rattle.std.proofs.lemmas.List.Sums.{sum_by_more, sum_by_more_le}
use Rattle.linkea_write.specs.Writer.{size_given, number_of}
use Rattle.linkea_write.proofs.ChunkLaws.{long, stored_first, stored_next, stored_all}
use Rattle.linkea_write.proofs.WriteLaws.{part_long}
use Rattle.linkea_write.proofs.write_records.Goals as goal

pub loop-given-init : goal.loop-given-init
loop-given-init c = record { place = refl; done = stored_first c.args.names.now c.args.dest.now c.args.records.now }

pub overflow_add-e : goal.overflow_add-e
unfolding size_given number_of
overflow_add-e c =
    let m = sum_by_more_le long c.args.records.now c.loop-given.given-index [] c.loop-given-test.true in
    omega (arith, m, c.requires.room)

pub overflow_add-e-in-loop-given : goal.overflow_add-e-in-loop-given
unfolding size_given number_of
overflow_add-e-in-loop-given c =
    let m = sum_by_more_le long c.args.records.now c.loop-given.given-index [] c.loop-given-test.true in
    omega (arith, m, c.requires.room, c.loop-given.invariant.place)

pub slice_bounds-put_given-end : goal.slice_bounds-put_given-end
unfolding size_given number_of
slice_bounds-put_given-end c =
    let m = sum_by_more_le long c.args.records.now c.loop-given.given-index [] c.loop-given-test.true in
    omega (arith, m, c.requires.room, c.loop-given.invariant.place, c.loop-given.auto.dest)

pub put_given-requires-clause-room : goal.put_given-requires-clause-room
unfolding size_given number_of
put_given-requires-clause-room c =
    let g = c.loop-given in
    let m = sum_by_more_le long c.args.records.now g.given-index [] c.loop-given-test.true in
    part_long g.dest g.a (long (get_or c.args.records.now g.given-index [])) (omega (arith, m, c.requires.room, g.invariant.place, g.auto.dest))

pub loop-given-preserved : goal.loop-given-preserved
unfolding size_given number_of
loop-given-preserved c =
    let g = c.loop-given in
    let rs = c.args.records.now in
    let m = sum_by_more long rs g.given-index [] c.loop-given-test.true in
    let n = sum_by_more_le long rs g.given-index [] c.loop-given-test.true in
    record {
      place = omega (arith, m, g.invariant.place);
      done = stored_next c.args.names.now c.args.dest.now rs g.given-index g.a g.dest _ c.requires.taken c.loop-given-test.true g.invariant.place
          (omega (arith, n, c.requires.room, g.invariant.place, g.auto.dest)) g.invariant.done c.put_given.ensures;
    }

pub returns : goal.returns
returns c = c.loop-given.invariant.done ∙ stored_all c.args.names.now c.args.dest.now c.args.records.now c.loop-given.given-index c.loop-given-test.false
