use mathlib.Core.Path.{◌≡◌, sym, ◌∙◌}
use mathlib.Core.Bool.{◌&&◌}
use Rattle.rules.specs.Places.{claims}
use Rattle.taking.proofs.TakingLaws.{not_there, not_claimed, unless_named}
use Rattle.taking.proofs.is_reusable.Goals as goal
use Rattle.taking.proofs.is_reusable.Goals.{Joined-x, then-x, else-x}

-- whether the object is fresh and claims the place
fresh_claims : (c : Joined-x) → c.if-x.value ≡ (c.decode_object-x.result.fresh && claims c.decode_object-x.result.claim c.args.place)
fresh_claims c = elim c.if-x.branch [ then-x w ↦ cc | else-x w ↦ cc ]

pub returns-then-not-is_used : goal.returns-then-not-is_used
returns-then-not-is_used c = not_there _ _ _ (sym c.is_used.ensures ∙ c.if-not-is_used.true)

pub returns-then-claim_is : goal.returns-then-claim_is
returns-then-claim_is c =
    unless_named _ _ _ (sym c.is_used.ensures ∙ c.if-not-is_used.false) _ c.decode_object-x.ensures
    (sym (fresh_claims (goal.at.returns-then-claim_is c).Joined-x) ∙ c.if-claim_is.true) _ c.named.ensures

pub returns-else-claim_is : goal.returns-else-claim_is
returns-else-claim_is c =
    c.if-claim_is.false ∙ not_claimed _ _ _ (sym c.is_used.ensures ∙ c.if-not-is_used.false) _ c.decode_object-x.ensures
    (sym (fresh_claims (goal.at.returns-else-claim_is c).Joined-x) ∙ c.if-claim_is.false)
