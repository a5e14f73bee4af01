use mathlib.Core.Path.{sym, ap, ◌∙◌}
use Rattle.rules.specs.Classes.{claim_class}
use Rattle.classify_places.proofs.ClaimLaws.{class_unmatched, class_claimed}
use Rattle.rules.specs.Places.{place_at}
use Rattle.classify_slots.proofs.claim_class.Goals as goal

pub returns-then-not-claim_is : goal.returns-then-not-claim_is
returns-then-not-claim_is c =
    let a = c.args in
    class_unmatched (place_at a.file a.j) a.there a.owned a.claim c.in-Some.place c.in-Some.is (sym c.claim_is.ensures ∙ c.if-not-claim_is.true)

pub returns-in-None : goal.returns-in-None
unfolding claim_class
returns-in-None c = let a = c.args in ap (claim_class (place_at a.file a.j) a.there a.owned) (sym c.in-None.is)

pub returns-else-not-claim_is : goal.returns-else-not-claim_is
returns-else-not-claim_is c =
    let a = c.args in
    class_claimed (place_at a.file a.j) a.there a.owned a.claim c.in-Some.place c.in-Some.is (sym c.claim_is.ensures ∙ c.if-not-claim_is.false) _ c.claimed_class.ensures
