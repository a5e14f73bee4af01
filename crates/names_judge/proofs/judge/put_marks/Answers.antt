use native.Mathlib.Omega.{arith}
use mathlib.Core.Path.{◌∙◌}
use lib.ListN.{length-set, take}
use lib.Seq.{length-take-le}
use Rattle.names.specs.Rows.{parse_children}
use Rattle.names.specs.Visible.{max_levels}
use Rattle.names.proofs.SoundLaws.{parsed_children}
use Rattle.names_judge.proofs.JudgeLaws.{marks_start, marks_next, marks_all}
use Rattle.names_judge.proofs.judge.put_marks.Goals as goal

pub loop-r-init : goal.loop-r-init
loop-r-init c =
    (omega arith, omega arith, length-take-le _ c.args.marks.now (omega arith), c.requires.2, marks_start max_levels (parse_children c.args.children.now) _)

pub row_mark-requires : goal.row_mark-requires
row_mark-requires c = (c.requires.0, omega (arith, c.loop-r.invariant.1), c.loop-r.invariant.3, omega (arith, c.loop-r.invariant.2))

pub loop-r-preserved : goal.loop-r-preserved
loop-r-preserved c =
    let a = c.args in
    let k = c.row_mark in (
      omega (arith, c.loop-r.invariant.2),
      omega (arith, c.loop-r.invariant.1),
      length-set c.loop-r.mark-items c.loop-r.r k.result ∙ c.loop-r.invariant.2,
      k.ensures.1,
      marks_next max_levels (parse_children a.children.now) (take _ a.marks.now) c.loop-r.mark-items c.loop-r.r _ c.loop-r.invariant.4
          (omega (arith, c.loop-r.invariant.2, parsed_children a.children.now)) k.ensures.0,
    )

pub returns : goal.returns
returns c =
    let a = c.args in
    marks_all max_levels (parse_children a.children.now) a.marks.now c.loop-r.mark-items _ c.loop-r.r c.loop-r.invariant.4 (omega arith) (parsed_children a.children.now)
    (omega (arith, c.loop-r.invariant.2))
