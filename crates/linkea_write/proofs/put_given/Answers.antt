use Rattle.std.proofs.Common.{◌≡◌, ◌∙◌, sym, length, arith}
use Rattle.linkea_write.proofs.GivenLaws.{taken_facts, narrow_some, start_of, size_of}
use Rattle.linkea_write.proofs.WriteLaws.{record_stores, part_long}
use lib.Seq.{length-sets}
use Rattle.linkea_write.specs.Writer.{size_given, number_of}
use Rattle.linkea_write.proofs.put_given.Goals as goal

pub unwrap-parent-requires : goal.unwrap-parent-requires
unwrap-parent-requires c = rw (narrow_some _ _ _ c.parent_given.ensures (taken_facts c.args.given.now _ 0 c.requires.taken).parent)

pub overflow_add-n : goal.overflow_add-n
overflow_add-n c = omega (arith, taken_facts c.args.given.now _ 0 c.requires.taken)

pub overflow_cast-n : goal.overflow_cast-n
overflow_cast-n c = omega (arith, taken_facts c.args.given.now _ 0 c.requires.taken)

pub overflow_add-a : goal.overflow_add-a
overflow_add-a c = omega (arith, taken_facts c.args.given.now _ 0 c.requires.taken)

pub slice_bounds-put_bytes-end : goal.slice_bounds-put_bytes-end
slice_bounds-put_bytes-end c = omega (arith, taken_facts c.args.given.now _ 0 c.requires.taken)

pub put_bytes-requires : goal.put_bytes-requires
unfolding size_given number_of
put_bytes-requires c =
    let t = taken_facts c.args.given.now c.args.names.now 0 c.requires.taken in
    let z : length c.write_in.new.s ≡ length c.args.part.now = rw (c.write_in.ensures, length-sets, c.put.ensures, length-sets) in
    omega (arith, part_long c.args.names.now (start_of c.args.given.now 0) (size_of c.args.given.now 0) t.inside, c.requires.room, z)

pub returns : goal.returns
unfolding size_given number_of
returns c =
    let s = sym c.unwrap-parent.ensures ∙ narrow_some _ _ _ c.parent_given.ensures (taken_facts c.args.given.now _ 0 c.requires.taken).parent in
    record_stores _ _ c.args.part.now _ _ _ 0 _ c.requires.taken c.requires.room (cc s) c.put.ensures c.write_in.ensures c.put_bytes.ensures
