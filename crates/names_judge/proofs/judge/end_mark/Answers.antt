use Rattle.names_judge.proofs.JudgeLaws.{mark_endless, mark_seen, mark_hidden}
use Rattle.names_judge.proofs.judge.end_mark.Goals as goal

pub returns-in-Some-default-true : goal.returns-in-Some-default-true
returns-in-Some-default-true c = mark_seen _ _ _ c.in-Some-default-true.is c.in-Some-default-true.field-0-1-test

pub returns-in-Some-default-false : goal.returns-in-Some-default-false
returns-in-Some-default-false c = mark_hidden _ _ _ c.in-Some-default-false.is c.in-Some-default-false.field-0-1-test

pub returns-in-None : goal.returns-in-None
returns-in-None c = mark_endless _ c.in-None.is
