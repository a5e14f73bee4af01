use mathlib.Core.Path.{sym, ◌∙◌}
use Rattle.rules.specs.Repairs.{with_owner}
use Rattle.classify_places.proofs.ClaimLaws.{owners_eq}
use Rattle.taking.proofs.TakingLaws.{owner_same, owner_other}
use Rattle.taking.proofs.owner_write.Goals as goal

pub returns-then-eq : goal.returns-then-eq
returns-then-eq c = owner_same _ _ _ (sym (c.eq.ensures ∙ owners_eq _ _) ∙ c.if-eq.true)

pub returns : goal.returns
unfolding with_owner
returns c = owner_other _ _ _ (sym (c.eq.ensures ∙ owners_eq _ _) ∙ c.if-eq.false)
