use Rattle.classify_places.proofs.ClaimLaws.{class_wrong_ost, class_owner, class_clean}
use Rattle.classify_slots.proofs.claimed_class.Goals as goal

pub returns-then-not-there : goal.returns-then-not-there
returns-then-not-there c = let a = c.args in class_wrong_ost a.there a.owned (c.if-not-there.true)

pub returns-then-not-owned : goal.returns-then-not-owned
returns-then-not-owned c = let a = c.args in class_owner a.there a.owned (c.if-not-there.false) (c.if-not-owned.true)

pub returns : goal.returns
returns c = let a = c.args in class_clean a.there a.owned (c.if-not-there.false) (c.if-not-owned.false)
