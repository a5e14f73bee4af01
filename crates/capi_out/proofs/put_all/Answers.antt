use Rattle.std.proofs.Common.{◌+◌, length, refl, ap, ◌∙◌, arith}
use Rattle.wire.proofs.Splice.{put_sets}
use Rattle.capi_out.proofs.put_all.Goals as goal

pub returns : goal.returns
returns c =
    let a = c.args in
    rw c.copy_from_slice.ensures.after (put_sets a.at (a.at + length a.numbers.now) a.out.now a.numbers.now refl (omega arith))
