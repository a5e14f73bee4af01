use Rattle.std.proofs.Common.{rules, arith}
use lib.Seq.{length-take-le}
use Rattle.names_judge.proofs.NoteLaws.{blank_by}
use Rattle.names_judge.proofs.judge.clear.Goals as goal

pub returns : goal.returns
returns c =
    let a = c.args in
    blank_by a.count c.fill.new.self _ _ (length-take-le _ a.room.now (omega arith)) (c.fill.ensures.after (λ y e. search rules))
