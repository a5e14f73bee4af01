use native.Mathlib.Omega.{arith}
use Rattle.names_judge.proofs.DirectoryLaws.{list_start, list_row, list_few, list_end, named}
use Rattle.names_judge.proofs.listing.list_by.Goals as goal

pub loop-r-init : goal.loop-r-init
loop-r-init g c =
    (omega arith, omega arith, omega arith, λ cs h p. list_start cs c.args.index.now)

pub name-requires : goal.name-requires
name-requires g c = c.requires.callable c.loop-r.r (omega arith)

pub loop-r-preserved : goal.loop-r-preserved
loop-r-preserved g c =
    let k = c.put_row-n in (
      omega arith,
      omega (arith, list_few _ _ _ k.ensures.0),
      omega arith,
      λ cs h p.
          list_row cs c.loop-r.r c.loop-r.n _ c.loop-r.index _ _
          (named _ cs p c.loop-r.r _ (omega arith) c.name.ensures) k.ensures.0 k.ensures.1
          (omega arith) (omega arith) (omega (arith, c.name.type_inv)) (omega (arith, c.name.type_inv)) (omega arith) (c.loop-r.invariant.3 cs h p),
    )

pub returns : goal.returns
returns g c = record {
  listed = λ cs h p. list_end cs c.loop-r.r c.loop-r.n c.loop-r.index (omega arith) (c.loop-r.invariant.3 cs h p);
  few = omega arith;
}
