use Rattle.steps.proofs.RunLaws.{last_end, last_used}
use Rattle.steps.proofs.last_answer.Goals as goal

pub returns-then-is_end : goal.returns-then-is_end
returns-then-is_end c = last_end _ _ c.is_end.ensures c.if-is_end.true

pub returns : goal.returns
returns c = last_used _ _ c.is_end.ensures c.if-is_end.false
