use Rattle.fid.proofs.SameLaws.{eq_same}
use mathlib.Core.Path.{sym, ◌∙◌}
use Rattle.classify_places.proofs.ClaimLaws.{claim_file, claim_index}
use Rattle.rules.specs.Places.{place_at, claims}
use Rattle.classify_places.proofs.places.claim_is.Goals as goal

pub returns-else-eq : goal.returns-else-eq
returns-else-eq c =
    let a = c.args in
    cc (claim_file c.in-Some.place (place_at a.f a.i) (sym (c.eq.ensures ∙ eq_same _ _) ∙ c.if-eq.false))

pub returns-in-None : goal.returns-in-None
unfolding claims
returns-in-None c = cc

pub returns-then-eq : goal.returns-then-eq
returns-then-eq c =
    let a = c.args in
    cc (claim_index c.in-Some.place (place_at a.f a.i) (sym (c.eq.ensures ∙ eq_same _ _) ∙ c.if-eq.true))
