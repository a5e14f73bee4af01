use native.Mathlib.Omega.{arith}
use Rattle.linkea.proofs.PlaceLaws.{good_record}
use Rattle.linkea.proofs.RecordLaws.{length_read, found_is}
use Rattle.linkea.proofs.found_at.Goals as goal

pub get-n-requires : goal.get-n-requires
get-n-requires c = let b = c in omega (arith, good_record b.args.l.now b.args.p b.requires.1)

pub read_in-requires : goal.read_in-requires
read_in-requires c = let b = c in omega (arith, good_record b.args.l.now b.args.p b.requires.1)

pub overflow_sub-result : goal.overflow_sub-result
overflow_sub-result c =
    let b = c in
    omega (arith, good_record b.args.l.now b.args.p b.requires.1, c.get-n.ensures, length_read b.args.l.now b.args.p)

pub returns : goal.returns
returns c =
    let b = c in
    found_is b.args.l.now b.args.p _ _ c.get-n.ensures c.read_in.ensures
