use mathlib.Core.Path.{sym, ◌∙◌}
use native.Mathlib.Omega.{arith}
use Rattle.names.specs.Rows.{parse_children}
use Rattle.names.specs.Visible.{max_levels}
use Rattle.names.proofs.SoundLaws.{parsed_children}
use Rattle.names_judge.proofs.JudgeLaws.{long_start, long_here, long_on, long_done}
use Rattle.names_judge.proofs.judge.some_too_long.Goals as goal

pub loop-r-init : goal.loop-r-init
loop-r-init c =
    (omega arith, omega arith, c.requires.2, long_start max_levels (parse_children c.args.children.now))

pub row_too_long-requires : goal.row_too_long-requires
row_too_long-requires c = (c.requires.0, omega arith, c.loop-r.invariant.2, omega arith)

pub returns-then-row_too_long : goal.returns-then-row_too_long
returns-then-row_too_long c =
    let cs = parse_children c.args.children.now in
    let k = c.row_too_long in
    let n = parsed_children c.args.children.now in
    (sym (c.loop-r.invariant.3 ∙ long_here max_levels cs c.loop-r.r (omega (arith, n)) (sym k.ensures.0 ∙ c.if-row_too_long.true)), k.ensures.1)

pub loop-r-preserved : goal.loop-r-preserved
loop-r-preserved c =
    let cs = parse_children c.args.children.now in
    let k = c.row_too_long in
    let n = parsed_children c.args.children.now in (
      omega arith,
      omega arith,
      k.ensures.1,
      c.loop-r.invariant.3 ∙ long_on max_levels cs c.loop-r.r (omega (arith, n)) (sym k.ensures.0 ∙ c.if-row_too_long.false),
    )

pub shape_of-room : goal.shape_of-room
shape_of-room c = c.loop-r.invariant.1

pub returns : goal.returns
returns c =
    let cs = parse_children c.args.children.now in
    (sym (c.loop-r.invariant.3 ∙ long_done max_levels cs c.loop-r.r (omega (arith, parsed_children c.args.children.now))), c.loop-r.invariant.2)
