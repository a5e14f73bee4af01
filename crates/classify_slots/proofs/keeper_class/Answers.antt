use mathlib.Core.Path.{sym, ap, ◌∙◌}
use Rattle.rules.specs.Classes.{keeper_class}
use Rattle.classify_places.proofs.ClaimLaws.{class_present, owners_eq}
use Rattle.rules.specs.Places.{place_at}
use Rattle.classify_slots.proofs.keeper_class.Goals as goal

pub returns-in-None : goal.returns-in-None
unfolding keeper_class
returns-in-None c = let a = c.args in ap (keeper_class (place_at a.file a.j) a.ost a.owner) (sym c.in-None.is)

pub returns-in-Some : goal.returns-in-Some
returns-in-Some c =
    let a = c.args in
    class_present (place_at a.file a.j) a.ost a.owner a.found c.in-Some.x _ _ c.in-Some.is (c.eq.ensures ∙ owners_eq _ _) c.claim_class.ensures
