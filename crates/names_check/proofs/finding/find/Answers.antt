use native.Mathlib.Omega.{arith}
use Rattle.names_check.proofs.FindingLaws.{found_start, found_next, found_all}
use Rattle.names_check.proofs.finding.find.Goals as goal

pub loop-i-init : goal.loop-i-init
loop-i-init c = let a = c.args in (omega arith, omega arith, found_start a.entries.now a.children.now a.out.now)

pub find_at-requires : goal.find_at-requires
find_at-requires c = let b = c in (b.requires.0, omega arith, omega arith)

pub loop-i-preserved : goal.loop-i-preserved
loop-i-preserved c =
    let w = c in
    let a = w.args in
    let k = c.find_at in
    (omega arith, omega arith, found_next a.entries.now a.children.now a.out.now w.loop-i.i w.loop-i.out _ (omega arith) w.loop-i.invariant.2 k.ensures)

pub shape_of-out : goal.shape_of-out
shape_of-out c = c.loop-i.invariant.1

pub returns : goal.returns
returns c =
    let w = c in
    let a = w.args in
    found_all a.entries.now a.children.now a.out.now w.loop-i.i w.loop-i.out (omega arith) w.loop-i.invariant.2
