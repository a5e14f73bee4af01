use mathlib.Core.Path.{◌≡◌, sym, ◌∙◌}
use mathlib.Core.Bool.{◌&&◌}
use Rattle.rules.specs.Places.{claims}
use Rattle.classify_places.proofs.PlaceLaws.{take_missing, take_other, take_alone}
use Rattle.classify_places.proofs.places.takeable.Goals as goal
use Rattle.classify_places.proofs.places.takeable.Goals.{Joined-x, then-x, else-x}

-- whether the object is fresh and claims the place
fresh_claims : (c : Joined-x) → c.if-x.value ≡ (c.in-Some.x.fresh && claims c.in-Some.x.claim c.args.place)
fresh_claims c = elim c.if-x.branch [ then-x w ↦ cc | else-x w ↦ cc ]

pub returns-in_default : goal.returns-in_default
returns-in_default c =
    let a = c.args in
    take_missing a.parents.now a.objects.now a.place a.g a.r a.j _ c.lookup.ensures c.in_default.is

pub returns-then-claim_is : goal.returns-then-claim_is
returns-then-claim_is c =
    let a = c.args in
    take_alone a.parents.now a.objects.now a.place a.g a.r a.j _ c.lookup.ensures c.in-Some.x c.in-Some.is
    (sym (fresh_claims (goal.at.returns-then-claim_is c).Joined-x) ∙ c.if-claim_is.true) _ c.named_else.ensures

pub returns-else-claim_is : goal.returns-else-claim_is
returns-else-claim_is c =
    let a = c.args in
    c.if-claim_is.false ∙ take_other a.parents.now a.objects.now a.place a.g a.r a.j _ c.lookup.ensures c.in-Some.x c.in-Some.is
    (sym (fresh_claims (goal.at.returns-else-claim_is c).Joined-x) ∙ c.if-claim_is.false)
